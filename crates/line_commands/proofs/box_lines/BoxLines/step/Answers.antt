use Rattle.line_commands.proofs.InMemory.{step_taken}
use Rattle.line_commands.proofs.box_lines.BoxLines.step.Goals as goal

pub returns-clause-takes : goal.returns-clause-takes
returns-clause-takes g c = step_taken g.B.LinkBox g.B.LineBox.line_of c.args.self.now c.step.new.self
    c.step.new.journal c.follow.new.self c.add_step.new.texts c.args.tick c.unwrap-step.result
    c.step.ensures.journal.link (rw c.unwrap-step.ensures at c.step.ensures.journal.fits)
    c.follow.ensures.number c.follow.ensures.rising c.follow.ensures.disk
    (rw c.unwrap-step.ensures at c.step.ensures.taken) c.step.ensures.link
    (rw c.unwrap-step.ensures at c.step.ensures.steps) c.requires.ready c.add_step.ensures.adds
