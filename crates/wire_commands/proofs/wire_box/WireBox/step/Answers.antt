use Rattle.std.proofs.Common.{refl}
use Rattle.wire_commands.proofs.Ahead.{took-step}
use Rattle.wire_commands.proofs.wire_box.WireBox.step.Goals as goal

pub returns : goal.returns
returns g c = took-step g.B.LinkBox c.args.self.now _ c.args.tick c.unwrap-step.result.tick
    c.unwrap-step.result.note (rw c.unwrap-step.ensures at c.step.ensures.steps) c.requires.none
    c.put_tick.ensures refl c.step.ensures.journal.link
    (rw c.unwrap-step.ensures at c.step.ensures.journal.fits)
    (rw c.unwrap-step.ensures at c.step.ensures.taken) c.step.ensures.link c.requires.served
