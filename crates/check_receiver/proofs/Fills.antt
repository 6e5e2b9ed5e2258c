-- The bytes of a fill, which leave while ticks come that begin no burst.
use Rattle.frame_ending.specs.{Answered.answered, declared.box_step.BoxStep.BoxStep}
use Rattle.check_receiver.proofs.{Beginnings.one-taken, Resting.rest-taken}
use Rattle.check_receiver.specs.Between.{CheckerIsBetween}
use Rattle.check_receiver.specs.Phases.{is_open, passes_in, settled}
use Rattle.check_receiver.specs.{Runs.BeginsNone, Runs.CheckerHasTakenRun, Stands.CheckerStandsAt, Turning.Turned}
use Rattle.check_receiver.specs.declared.{checker.Checker.Checker, phase.Phase.Phase}
use Rattle.check_receiver.specs.declared.phase.Phase.TheVariants.{Idle, Open, Leaving}
use Rattle.frame_ending.proofs.Cutting.{cut-pass, cut-go_on}
use Rattle.frame_ending.specs.{Cuts.cut_of, SoFar.quiet_so_far, Stands.CutStandsFor}
use Rattle.frame_ending.specs.declared.{burst_cut.BurstCut.BurstCut, cut.Cut.Cut}
use Rattle.link_format.specs.declared.tag.Mac.{Ghosts as Mac}
use Rattle.line_rules.specs.{Rules.Rules, declared.line_rules.LineRules.Ghosts as LineRules}
use Rattle.{link_format.specs.Setup.Setup, link_box.specs.Turns.HasTurned}
use Rattle.link_box.specs.Turns.{tick_or_silence}
use Rattle.link_box.specs.declared.check_note.CheckNote.{CheckNote}
use Rattle.line_rules.specs.Outlet.{filled, owed_by}
use Rattle.std.proofs.Common.{◌≡◌, ◌∙◌, ℕ, zero, suc, ◌<◌, ◌==◌, false, List, [], ◌∷◌, ◌++◌, length}
use Rattle.std.proofs.Common.{get_or, map, refl, sym, ap, subst, arith, None, ⊎_elim, Bool, nat_lt}
use Rattle.std.proofs.Common.{inl, inr, ◌||◌}
use Rattle.std.proofs.lemmas.Bool.{cases_Bool, cond-true, cond-false, cond_both, ne_eqb, or_parts}
use Rattle.yasir_ticks.specs.Ticks.{silent}
use Rattle.yasir_ticks.specs.declared.tick.Tick.{Tick, TheVariants.Silent, TheVariants.Byte}

-- If `n` bytes leave in `n` ticks, the ticks are these bytes.
pub answered-bytes : (x : List ℕ) (n : ℕ) → length x ≡ n → map (λ b. Byte b) x ≡ answered n x
answered-bytes [] zero long = refl
answered-bytes [] (suc n) long = absurd (omega arith)
answered-bytes (b ∷ x) n long = refl

-- If bytes of a fill are owed, there is a next one.
fill-some : (rules : Rules) (left : List ℕ) (owed : ℕ) → 0 < owed
    → tick_or_silence (filled rules left owed) ≡ Silent → ⊥
fill-some rules left owed some is =
    let first = cond-false (owed == 0) _ _ (ne_eqb owed 0 (λ none. omega arith)) in
    ⊎_elim
    (λ last.
    let byte = ap tick_or_silence (first ∙ cond-true (owed == 1) _ _ last) in
    let both = sym byte ∙ is in absurd cc)
    (λ more.
    let byte = ap tick_or_silence (first ∙ cond-false (owed == 1) _ _ more) in
    let both = sym byte ∙ is in absurd cc)
    (cases_Bool (owed == 1))

-- No verdict opens when a burst has left.
pub still-closed : (p : Phase) (until : ℕ) (owes : Bool) → is_open p ≡ false
    → is_open (settled p until owes) ≡ false
still-closed Idle until owes closed = refl
still-closed Open until owes closed = cc
still-closed (Leaving passed) until owes closed =
    cond_both (nat_lt 0 until) _ _ (λ p. is_open p ≡ false) (λ held. refl)
    (λ gone. cond_both owes _ _ (λ p. is_open p ≡ false) (λ some. refl) (λ none. refl))

-- If the ring holds no live tick, silence leaves next.
still-first : (live : List Tick) (n : ℕ) → length live ≡ 0
    → get_or (live ++ silent n) 0 Silent ≡ Silent
still-first [] zero none = refl
still-first [] (suc n) none = refl
still-first (t ∷ live) n none = absurd (omega arith)

module _ {R M : Type 0} (proto : LineRules R) (macs : Mac M) {B D : ℕ} (old : Checker R M B D)
    (last : ℕ) (setup : Setup) (line : List Tick) (stands : CheckerStandsAt proto macs old last setup line)
    (cut : BurstCut R) (new : Checker R M B D) (answer : Tick)
    (turned : Turned proto (record old { cut = cut }) new Silent answer) (gone : old.until ≡ 0) where
  -- If bytes of a fill are owed, one of them leaves.
  pub fill-leaves : 0 < owed_by old.outlet → answer ≡ Silent → ⊥
  fill-leaves some is =
      let left : List ℕ = stands.walks.left in
      let count = stands.walks.until_is in
      let T : Tick → Type 0 = λ t. HasTurned proto old.outlet new.outlet (old.until == 0)
      (passes_in old.phase) left answer t in
      let first = ap (λ l. get_or l 0 Silent) stands.walks.ring_is
      ∙ still-first stands.walks.live _ (omega arith) in
      let turn : T Silent = subst T first (turned.out left stands.walks.outlet_is) in
      fill-some proto.rules left (owed_by old.outlet) some (sym turn.0 ∙ is)

  pub fill-taken : (t : Tick) (told : Cut) → cut_of proto.rules line t ≡ told
      → CutStandsFor proto cut (line ++ t ∷ []) → is_open old.phase ≡ false
      → BeginsNone proto.rules line t
      → CheckerHasTakenRun proto macs new last setup line (t ∷ []) (answer ∷ [])
  fill-taken t told is cuts closed begins =
      let between : CheckerIsBetween proto macs (record old { cut = cut }) last setup line t told =
      record {
        word_is = stands.word_is;
        wide = stands.wide;
        delay_is = stands.delay_is;
        direction_is = stands.direction_is;
        cuts = cuts;
        is_cut = is;
        before = old.until;
        one_less = omega arith;
        left_in = stands.left_in;
        walks = stands.walks;
      } in
      let step : BoxStep CheckNote = record { tick = answer; note = None } in
      one-taken proto macs new last setup line t answer step
      (rest-taken proto macs (record old { cut = cut }) last setup line t told between new step
      turned refl begins closed) refl refl
