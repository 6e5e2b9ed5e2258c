use Rattle.{frame_ending.specs.Answered.answered, device_model.specs.Frames.frames_lent}
use Rattle.line_spacer.proofs.RunSteps.{answered-one}
use Rattle.line_spacer.specs.Stands.{SpacerStandsFor, AnswersSpaced, bytes_sent}
use Rattle.std.proofs.Common.{◌≡◌, ◌+◌, ◌-◌, ◌++◌, [], ◌∷◌, length, sym, subst, arith}
use Rattle.{std.proofs.lemmas.List.take_all, yasir_ticks.specs.TickRun.run_ticks}
use Rattle.line_spacer.proofs.spacer.Spacer.take_one.Goals as goal

pub returns-clause-stands : goal.returns-clause-stands
returns-clause-stands g c = λ cap line stands.
    let all = run_ticks c.args.run in
    let n = c.take_some-lost.result.taken in
    let one : n ≡ 1 =
    omega (arith, c.take_some-lost.ensures.some, c.take_some-lost.ensures.within, c.requires.one) in
    subst (λ x. SpacerStandsFor g.V.Device cap c.take_some-lost.new.self (line ++ x))
    (take_all n all (omega (arith, c.requires.one, one)))
    (c.take_some-lost.ensures.stands cap line stands)

pub returns-clause-answer : goal.returns-clause-answer
returns-clause-answer g c = λ cap line stands.
    let reads = g.V.Device.reads in
    let gap = g.row.GAP in
    let all = run_ticks c.args.run in
    let n = c.take_some-lost.result.taken in
    let unsent = bytes_sent c.take_some-lost.new.self in
    let lost = frames_lent c.take_some-lost.result.lost
    (g.V.Device.lent c.take_some-lost.new.self.device) in
    let one : n ≡ 1 =
    omega (arith, c.take_some-lost.ensures.some, c.take_some-lost.ensures.within, c.requires.one) in
    let here : length line + (n - 1) ≡ length line = omega (arith, one) in
    let tick = c.tick_left-tick.ensures in
    subst (λ t. AnswersSpaced reads gap cap line all (t ∷ []) (length line) lost) (sym tick)
    (subst (λ y. AnswersSpaced reads gap cap line all y (length line) lost)
    (answered-one n unsent one c.take_some-lost.ensures.long)
    (subst (λ k. AnswersSpaced reads gap cap line all (answered n unsent) k lost) here
    (subst (λ x. AnswersSpaced reads gap cap line x (answered n unsent) (length line + (n - 1)) lost)
    (take_all n all (omega (arith, c.requires.one, one)))
    (c.take_some-lost.ensures.answer cap line stands))))
