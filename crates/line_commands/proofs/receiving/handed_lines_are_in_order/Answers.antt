use Rattle.line_commands.proofs.Handing.{handed_in_order}
use Rattle.line_commands.proofs.receiving.handed_lines_are_in_order.Goals as goal

pub returns : goal.returns
returns c = handed_in_order
