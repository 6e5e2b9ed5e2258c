-- One more period of a session.
use Rattle.device_model.specs.declared.device.Device.{Ghosts as Device}
use Rattle.link_box.specs.declared.box_trait.LinkBox.{Ghosts as LinkBox}
use Rattle.std.proofs.Common.{◌≡◌, ◌∙◌, ℕ, zero, suc, ◌+◌, ◌*◌, ◌%◌, ◌≤◌, List, [], ◌++◌, length}
use Rattle.std.proofs.Common.{take, drop, refl, ap, sym, subst, arith, length-drop, length-append}
use Rattle.std.proofs.Math.Seq.{drop-append_seam}
use Rattle.std.proofs.lemmas.List.{take-append-le, drop-append-le, take_all}
use Rattle.trial_session.specs.Alterations.{alteration_of, altered}
use Rattle.trial_session.specs.{Counting.Counting, DrawnFrames.Drawing, Draws.draw_state}
use Rattle.trial_session.specs.{Draws.draw_state_after, Draws.nth_drawn, Runs.HasRun}
use Rattle.trial_session.specs.Session.{period_len, period_line, state_at, session_line}
use Rattle.trial_session.specs.Session.{altered_link, alteration_in, after_frame, ticks_of_session}
use Rattle.trial_session.specs.Sides.{HasTaken, SideHasSent, HasReceived}
use Rattle.trial_session.specs.declared.{alteration.Alteration.Alteration, session.Session.Session}
use Rattle.trial_session.specs.declared.summary.Summary.{Summary}
use Rattle.yasir_ticks.specs.declared.tick.Tick.{Tick}

ticks-front : (n : ℕ) (l more : List Tick) → period_len * suc n ≤ length l
    → take period_len (drop (period_len * n) (l ++ more))
    ≡ take period_len (drop (period_len * n) l)
ticks-front n l more long =
    let left = length-drop (period_len * n) l in
    ap (take period_len) (drop-append-le (period_len * n) l more (omega arith))
    ∙ take-append-le period_len (drop (period_len * n) l) more (omega (arith, left, long))

module _ (drawing : Drawing) (behind seed : ℕ) where
  -- The first n periods of an altered link don't depend on what follows them.
  altered-front : (n : ℕ) (l more : List Tick) → period_len * n ≤ length l
      → altered_link drawing behind seed n (l ++ more) ≡ altered_link drawing behind seed n l
  unfolding altered_link
  altered-front zero l more long = refl
  altered-front (suc n) l more long =
      ap (λ x. x ++ altered (alteration_in drawing behind (state_at drawing seed n))
      (ticks_of_session drawing n (l ++ more)))
      (altered-front n l more (omega arith))
      ∙ ap (λ x. altered_link drawing behind seed n l
      ++ altered (alteration_in drawing behind (state_at drawing seed n)) x)
      (ticks-front n l more long)

  link-suc : (n : ℕ) (l ticks : List Tick) → length l ≡ period_len * n
      → length ticks ≡ period_len
      → altered_link drawing behind seed (suc n) (l ++ ticks)
      ≡ altered_link drawing behind seed n l
      ++ altered (alteration_in drawing behind (state_at drawing seed n)) ticks
  unfolding altered_link
  link-suc n l ticks long whole =
      let own : ticks_of_session drawing n (l ++ ticks) ≡ ticks =
      ap (λ k. take period_len (drop k (l ++ ticks))) (sym long)
      ∙ ap (take period_len) (drop-append_seam l ticks)
      ∙ take_all period_len ticks (omega (arith, whole)) in
      ap (λ x. x ++ altered (alteration_in drawing behind (state_at drawing seed n))
      (ticks_of_session drawing n (l ++ ticks)))
      (altered-front n l ticks (omega (arith, long)))
      ∙ ap (λ x. altered_link drawing behind seed n l
      ++ altered (alteration_in drawing behind (state_at drawing seed n)) x) own

  pub line-suc : (n : ℕ) → session_line drawing seed (suc n)
      ≡ session_line drawing seed n ++ period_line (drawing.frame (state_at drawing seed n))
  unfolding session_line
  line-suc n = refl

  state-suc : (n : ℕ) → state_at drawing seed (suc n)
      ≡ draw_state_after 3 (after_frame drawing (state_at drawing seed n))
  unfolding state_at
  state-suc n = refl

  pub line-none : session_line drawing seed 0 ≡ []
  unfolding session_line
  line-none = refl

  pub state-none : state_at drawing seed 0 ≡ seed
  unfolding state_at
  state-none = refl

  pub link-none : (l : List Tick) → altered_link drawing behind seed 0 l ≡ []
  unfolding altered_link
  link-none l = refl

module _ {S C V N K : Type 0} (seals : LinkBox S N) (sealing : Counting) (checks : LinkBox C K)
    (checking : Counting) (device : Device V) (drawing : Drawing) (behind : ℕ) (old new : Session S
    C V) (frame : List ℕ) (mid : ℕ)
    (alteration : Alteration) (sent : List Tick) where
  pub run-suc : frame ≡ drawing.frame (draw_state old.draws)
      → mid ≡ draw_state_after (drawing.draws (draw_state old.draws)) (draw_state old.draws)
      → draw_state new.draws ≡ draw_state_after 3 mid
      → alteration ≡ alteration_of (nth_drawn 1 mid % 8)
      (nth_drawn 2 mid % (length frame + behind)) (1 + nth_drawn 3 mid % 255)
      → length sent ≡ period_len
      → ((line : List Tick) → HasTaken seals sealing old.sealing line
      → SideHasSent seals sealing new.sealing line (period_line frame) sent)
      → ((link : List Tick) → HasReceived checks checking device old.receiving link
      → HasReceived checks checking device new.receiving (link ++ altered alteration sent))
      → (seed n : ℕ) → HasRun seals sealing checks checking device drawing behind old seed n
      → HasRun seals sealing checks checking device drawing behind new seed (suc n)
  run-suc frame_is mid_is end_is alteration_is long seal receive seed n run =
      let x = state_at drawing seed n in
      let line = session_line drawing seed n in
      let link = altered_link drawing behind seed n (sealing.other_line line) in
      let frame_at : frame ≡ drawing.frame x = frame_is ∙ ap drawing.frame run.state_is in
      let mid_at : mid ≡ after_frame drawing x =
      mid_is ∙ ap (λ s. draw_state_after (drawing.draws s) s) run.state_is in
      let alter_at : alteration ≡ alteration_in drawing behind x =
      alteration_is
      ∙ ap (λ s. alteration_of (nth_drawn 1 s % 8) (nth_drawn 2 s % (length frame + behind))
      (1 + nth_drawn 3 s % 255)) mid_at
      ∙ ap (λ f. alteration_of (nth_drawn 1 (after_frame drawing x) % 8)
      (nth_drawn 2 (after_frame drawing x) % (length f + behind))
      (1 + nth_drawn 3 (after_frame drawing x) % 255)) frame_at in
      let sealed = seal line run.seals_line in
      let whole : line ++ period_line frame ≡ session_line drawing seed (suc n) =
      ap (λ f. line ++ period_line f) frame_at ∙ sym (line-suc drawing behind seed n) in
      let now : sealing.other_line (session_line drawing seed (suc n))
      ≡ sealing.other_line line ++ sent =
      ap sealing.other_line (sym whole) ∙ sealed.answered in
      let linked : link ++ altered alteration sent
      ≡ altered_link drawing behind seed (suc n)
      (sealing.other_line (session_line drawing seed (suc n))) =
      ap (λ a. link ++ altered a sent) alter_at
      ∙ sym (ap (altered_link drawing behind seed (suc n)) now
      ∙ link-suc drawing behind seed n (sealing.other_line line) sent run.link_long long) in
      record {
        state_is = end_is ∙ ap (draw_state_after 3) mid_at ∙ sym (state-suc drawing behind seed n);
        seals_line = subst (HasTaken seals sealing new.sealing) whole sealed.taken;
        link_long = ap length now ∙ (omega (
          arith,
          length-append (sealing.other_line line) sent,
          run.link_long,
          long,
        ));
        receives_link = subst (HasReceived checks checking device new.receiving) linked
            (receive link run.receives_link);
      }

pub same-summary : (a b c d e a' b' c' d' e' : ℕ) → a ≡ a' → b ≡ b' → c ≡ c' → d ≡ d' → e ≡ e'
    → let now : Summary = record { sealed = a; passed = b; refused = c; dropped = d; read = e } in
    now ≡ record { sealed = a'; passed = b'; refused = c'; dropped = d'; read = e' }
same-summary a b c d e a' b' c' d' e' ea eb ec ed ee = cc
