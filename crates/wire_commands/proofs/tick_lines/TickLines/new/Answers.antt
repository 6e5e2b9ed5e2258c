use Rattle.line_texts.proofs.Sending.{begins}
use Rattle.line_texts.specs.Sending.{sink_texts}
use Rattle.std.proofs.Common.{[], Some, refl}
use Rattle.wire_commands.specs.TickLines.{line_itself}
use Rattle.wire_commands.proofs.tick_lines.TickLines.new.Goals as goal

pub returns-clause-none : goal.returns-clause-none
returns-clause-none c = rw (c.new-2.ensures, c.new-3.ensures)
    (begins line_itself _ _ _ (sink_texts (Some []) (Some [])) refl refl c.new.ensures.written
    c.new.ensures.ticks c.new.ensures.notes)
