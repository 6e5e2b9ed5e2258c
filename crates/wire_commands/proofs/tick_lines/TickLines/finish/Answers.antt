use Rattle.line_texts.specs.Sending.{sink_texts}
use Rattle.std.proofs.Common.{[], Some}
use Rattle.wire_commands.proofs.TextOf.{whole-text}
use Rattle.wire_commands.specs.TickLines.{line_itself}
use Rattle.wire_commands.proofs.tick_lines.TickLines.finish.Goals as goal

pub returns-in-Ok : goal.returns-in-Ok
returns-in-Ok c = λ line goes.
    whole-text _ _ (c.in-Ok.ensures.ok line_itself (sink_texts (Some []) (Some [])) line goes).text
