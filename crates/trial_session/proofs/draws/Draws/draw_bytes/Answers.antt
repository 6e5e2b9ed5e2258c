use Rattle.std.proofs.Common.{◌≡◌, ◌∙◌, length, sym, ap, arith, refl, take}
use Rattle.std.proofs.lemmas.List.{length-set, take_all, take_more_set}
use Rattle.trial_session.proofs.Drawing.{state_after-zero, bytes_drawn-zero, state_after-more}
use Rattle.trial_session.proofs.Drawing.{drawn-more}
use Rattle.trial_session.specs.Draws.{draw_state_after, bytes_drawn, next_state}
use Rattle.trial_session.proofs.draws.Draws.draw_bytes.Goals as goal

pub loop-place-init : goal.loop-place-init
loop-place-init c = (sym (state_after-zero _), sym (bytes_drawn-zero _), refl)

pub loop-place-preserved : goal.loop-place-preserved
loop-place-preserved c =
    let x = c.args.self.now.state in
    let i = c.loop-place.place-index in
    let items = c.loop-place.places in
    let before = c.loop-place.invariant in (
      c.draw.ensures.state ∙ ap next_state before.0 ∙ sym (state_after-more i x),
      take_more_set items i _ (omega arith)
          ∙ drawn-more (take i items) i x c.loop-place.self.state c.draw.result
          c.draw.new.self.state before.0 before.1 c.draw.ensures.state c.draw.ensures.value,
      length-set items i _ ∙ before.2,
    )

pub returns : goal.returns
returns c =
    let x = c.args.self.now.state in
    let i = c.loop-place.place-index in
    let items = c.loop-place.places in
    let before = c.loop-place.invariant in
    let all : i ≡ length c.args.places.now = omega (arith, before.2) in
    record {
      state = before.0 ∙ ap (λ n. draw_state_after n x) all;
      bytes = sym (take_all i items (omega (arith, before.2))) ∙ before.1
          ∙ ap (λ n. bytes_drawn n x) all;
    }
