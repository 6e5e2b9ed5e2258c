use Rattle.line_commands.proofs.Kept.{run-kept, none-kept}
use Rattle.frame_ending.specs.Answered.{answered}
use Rattle.line_texts.proofs.Added.{adds_as}
use Rattle.std.proofs.Common.{◌∙◌, [], ap, refl, arith}
use Rattle.yasir_ticks.specs.TickRun.{run_ticks}
use Rattle.line_commands.proofs.kept_box.KeptBox.pass.Goals as goal

pub returns-then-count-gt0-clause-takes : goal.returns-then-count-gt0-clause-takes
returns-then-count-gt0-clause-takes g c =
    let n = c.pass-count.result in
    run-kept g.B.LinkBox g.B.LineBox.line_of c.args.self.now c.pass-count.new.self
    c.add_run.new.self _ (run_ticks c.args.run) n (answered n c.pass-count.new.sent.items)
    c.pass-count.ensures.within c.pass-count.ensures.run refl c.pass-count.ensures.taken
    c.pass-count.ensures.link c.requires.served
    (adds_as _ _ _ _ [] (c.answer_run.ensures ∙ ap (answered n) c.as_slice.ensures.value)
    c.add_run.ensures.adds)

pub returns-else-count-gt0-clause-takes : goal.returns-else-count-gt0-clause-takes
returns-else-count-gt0-clause-takes g c =
    none-kept g.B.LinkBox g.B.LineBox.line_of c.args.self.now c.pass-count.new.self
    (run_ticks c.args.run) c.pass-count.result (omega (arith, c.if-count-gt0.false)) _
    c.pass-count.ensures.run c.pass-count.ensures.taken c.pass-count.ensures.link
    c.requires.served
