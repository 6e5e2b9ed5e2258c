use Rattle.line_texts.proofs.Sending.{sends_handed}
use Rattle.line_texts.specs.{Sending.sink_texts, Texts.writing}
use Rattle.std.proofs.Common.{◌++◌, [], Some}
use Rattle.wire_commands.proofs.TextOf.{goes-on}
use Rattle.wire_commands.specs.TickLines.{line_itself}
use Rattle.yasir_ticks.specs.TickRun.{run_ticks}
use Rattle.wire_commands.proofs.tick_lines.TickLines.add.Goals as goal

pub returns-then-has_room-clause-written : goal.returns-then-has_room-clause-written
returns-then-has_room-clause-written c = λ line goes.
    goes-on c.args.self.now.texts c.add_run.new.self c.args.self.now.text c.args.self.now.log
    (run_ticks c.args.run) c.add_run.ensures.adds line goes

pub returns-in-Ok-clause-written : goal.returns-in-Ok-clause-written
returns-in-Ok-clause-written c = λ line goes.
    sends_handed _ _ line_itself (line ++ run_ticks c.args.run)
    (writing c.add_run.new.self c.args.self.now.text c.args.self.now.log)
    (writing c.hand_out.new.self c.hand_out.new.out c.hand_out.new.log)
    (sink_texts (Some []) (Some []))
    (goes-on c.args.self.now.texts c.add_run.new.self c.args.self.now.text c.args.self.now.log
    (run_ticks c.args.run) c.add_run.ensures.adds line goes)
    c.in-Ok.ensures
