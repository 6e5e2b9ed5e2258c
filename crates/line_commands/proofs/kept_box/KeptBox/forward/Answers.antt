use Rattle.line_commands.proofs.Kept.{run-kept, none-kept}
use Rattle.line_texts.proofs.Added.{adds_as, short_take}
use Rattle.line_texts.specs.Adding.{IsShort}
use Rattle.std.proofs.Common.{[], take, subst, sym, refl, arith}
use Rattle.yasir_ticks.specs.TickRun.{run_ticks}
use Rattle.line_commands.proofs.kept_box.KeptBox.forward.Goals as goal

pub add_run-requires-clause-short : goal.add_run-requires-clause-short
add_run-requires-clause-short g c = subst IsShort (sym c.front.ensures)
    (short_take c.forward-count.result (run_ticks c.args.run) c.requires.short)

pub returns-then-count-gt0-clause-takes : goal.returns-then-count-gt0-clause-takes
returns-then-count-gt0-clause-takes g c =
    let n = c.forward-count.result in
    run-kept g.B.LinkBox g.B.LineBox.line_of c.args.self.now c.forward-count.new.self
    c.add_run.new.self _ (run_ticks c.args.run) n (take n (run_ticks c.args.run))
    c.forward-count.ensures.within c.forward-count.ensures.run refl c.forward-count.ensures.taken
    c.forward-count.ensures.link c.requires.served
    (adds_as _ _ _ _ [] c.front.ensures c.add_run.ensures.adds)

pub returns-else-count-gt0-clause-takes : goal.returns-else-count-gt0-clause-takes
returns-else-count-gt0-clause-takes g c =
    none-kept g.B.LinkBox g.B.LineBox.line_of c.args.self.now c.forward-count.new.self
    (run_ticks c.args.run) c.forward-count.result (omega (arith, c.if-count-gt0.false)) _
    c.forward-count.ensures.run c.forward-count.ensures.taken c.forward-count.ensures.link
    c.requires.served
