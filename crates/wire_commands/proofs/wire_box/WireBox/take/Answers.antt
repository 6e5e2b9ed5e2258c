use Rattle.frame_ending.specs.Answered.{answered}
use Rattle.std.proofs.Common.{◌∙◌, ℕ, [], drop, refl, ap, arith}
use Rattle.wire_commands.proofs.Ahead.{took-run, took-one, still-served, stands-still, no-next}
use Rattle.yasir_ticks.specs.TickRun.{run_ticks}
use Rattle.wire_commands.proofs.wire_box.WireBox.take.Goals as goal

pub returns-then-count-gt0 : goal.returns-then-count-gt0
returns-then-count-gt0 g c =
    let n : ℕ = c.take_alike-count.result in
    took-run g.B.LinkBox c.args.self.now _ (run_ticks c.args.run) n
    (answered n c.take_alike-count.new.sent.items) c.take_alike-count.ensures.run
    (omega (arith, c.if-count-gt0.true)) c.take_alike-count.ensures.within c.requires.few
    c.requires.none refl refl refl refl c.take_alike-count.ensures.taken
    c.take_alike-count.ensures.link c.requires.served

pub step-requires-clause-none : goal.step-requires-clause-none
step-requires-clause-none g c =
    let value = c.args.self.now in
    ap (answered value.next) c.clear.ensures
    ∙ ap (λ n. answered n [])
    (no-next value.next (drop value.at value.bytes.items) c.requires.none)

pub step-requires-clause-served : goal.step-requires-clause-served
step-requires-clause-served g c =
    let value = c.args.self.now in
    still-served g.B.LinkBox value _
    (stands-still g.B.LinkBox value.line_box c.take_alike-count.new.line_box (run_ticks c.args.run)
    c.take_alike-count.result (omega (arith, c.if-count-gt0.false)) _
    c.take_alike-count.ensures.run)
    (ap (answered value.next) c.clear.ensures
    ∙ ap (λ n. answered n [])
    (no-next value.next (drop value.at value.bytes.items) c.requires.none))
    refl refl c.take_alike-count.ensures.link c.requires.served

pub returns : goal.returns
returns g c =
    let value = c.args.self.now in
    took-one g.B.LinkBox value _ c.step.new.self (run_ticks c.args.run) c.first.result _ c.step.result
    c.first.ensures
    (stands-still g.B.LinkBox value.line_box c.take_alike-count.new.line_box (run_ticks c.args.run)
    c.take_alike-count.result (omega (arith, c.if-count-gt0.false)) _
    c.take_alike-count.ensures.run)
    c.requires.none
    (ap (answered value.next) c.clear.ensures
    ∙ ap (λ n. answered n [])
    (no-next value.next (drop value.at value.bytes.items) c.requires.none))
    refl refl (omega (arith, c.take_alike-count.ensures.taken, c.if-count-gt0.false)) c.step.ensures
