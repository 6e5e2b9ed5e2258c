-- Before a burst is noted, neither box shows anything of it that depends on its floor.
use Rattle.frame_ending.specs.{Causal.MayGoOn, Causal.going_on, Laid.tick_at}
use Rattle.frame_ending.specs.LiveBytes.{live_bytes, live_end}
use Rattle.line_rules.specs.{Rules.Rules, RulesLaws.IsLawful, RulesLaws.IsHeaded}
use Rattle.link_format.specs.Profile.{Profile, delay}
use Rattle.link_box.proofs.CheckCausality.{emission-dark, emission-shown}
use Rattle.link_box.proofs.Judging.{IsJudged, judged-verdict, judged-tick, checked-busy}
use Rattle.link_box.proofs.Judging.{checked-short, checked-bad, checked-good}
use Rattle.link_box.proofs.SealCausality.{emission-judged, emission-early}
use Rattle.link_box.proofs.Settling.{IsSettled, settled}
use Rattle.link_box.specs.Checking.{trailer_tick, note_by, note_tick, state_by, checker}
use Rattle.link_box.specs.Emissions.{emission_by}
use Rattle.link_box.specs.Sealing.{SealState, sealer}
use Rattle.link_box.specs.Verdicts.{CheckState, Verdict, checked}
use Rattle.link_box.specs.Verdicts.Verdict.{dropped}
use Rattle.link_box.specs.declared.check_note.DroppedWhy.{DroppedWhy}
use Rattle.link_box.specs.declared.check_note.DroppedWhy.TheVariants.{Busy, Head as NoHead}
use Rattle.std.proofs.Common.{◌≡◌, ◌∙◌, ◌⊎◌, inl, inr, ℕ, ◌+◌, ◌<◌, length, nat_lt}
use Rattle.std.proofs.Common.{take, refl, sym, ap, subst, arith, ⊎_elim}
use Rattle.std.proofs.lemmas.{Bool.cases_Bool, Bool.cases_lt}
use Rattle.yasir_ticks.specs.{Bursts.Burst, Bursts.end_of, BurstsOf.IsContiguous}
use Rattle.stations.proofs.Causality.{IsFloorBlind}
use Rattle.stations.specs.Shared.{sealing_box, checking_box}

module _ (profile : Profile) (rules : Rules) where
  abbrev at : ℕ → ℕ → CheckState
  at floor from = record { floor = floor; earliest_start = from }

  abbrev verdict : ℕ → ℕ → Burst → Verdict
  verdict floor from d = checked profile rules (at floor from) d

  -- a burst that is dropped is dropped at any floor
  abbrev AreAlike : ℕ → ℕ → ℕ → Burst → Type 0
  AreAlike f g from d =
      ((why : DroppedWhy) × (verdict f from d ≡ dropped why) × (verdict g from d ≡ dropped why))
      ⊎ (IsJudged (verdict f from d) × IsJudged (verdict g from d))

  alike : (f g from : ℕ) (d : Burst) → AreAlike f g from d
  alike f g from d =
      let s : CheckState = at f from in
      let t : CheckState = at g from in
      ⊎_elim
      (λ busy. inl (Busy, checked-busy profile rules s d busy, checked-busy profile rules t d busy))
      (λ free. ⊎_elim
      (λ short. inl (
        NoHead,
        checked-short profile rules s d free short,
        checked-short profile rules t d free short,
      ))
      (λ long. ⊎_elim
      (λ good. inr (
        subst IsJudged (sym (checked-good profile rules s d free long good))
            (judged-verdict profile rules f d),
        subst IsJudged (sym (checked-good profile rules t d free long good))
            (judged-verdict profile rules g d),
      ))
      (λ bad. inl (
        NoHead,
        checked-bad profile rules s d free long bad,
        checked-bad profile rules t d free long bad,
      ))
      (cases_Bool (rules.is_good_header (take rules.header_len (live_bytes rules d)))))
      (cases_lt (length (live_bytes rules d)) rules.header_len))
      (cases_lt d.start from)

  tick-alike : (f g from : ℕ) (d : Burst)
      → note_tick profile rules d (verdict f from d) ≡ note_tick profile rules d (verdict g from d)
  tick-alike f g from d =
      ⊎_elim
      (λ gone. ap (λ v. note_tick profile rules d v) (gone.1 ∙ sym gone.2))
      (λ both. judged-tick profile rules d (verdict f from d) both.0
      ∙ sym (judged-tick profile rules d (verdict g from d) both.1))
      (alike f g from d)

  emission-alike : (f g from : ℕ) (d : Burst) (i : ℕ)
      → i < note_tick profile rules d (verdict f from d)
      → tick_at (emission_by profile rules d (verdict g from d)) i
      ≡ tick_at (emission_by profile rules d (verdict f from d)) i
  emission-alike f g from d i before =
      ⊎_elim
      (λ gone. ap (λ v. tick_at (emission_by profile rules d v) i) (gone.2 ∙ sym gone.1))
      (λ both. ⊎_elim
      (λ dark. emission-dark profile rules d i (verdict g from d) dark
      ∙ sym (emission-dark profile rules d i (verdict f from d) dark))
      (λ begun.
      let tick = judged-tick profile rules d (verdict f from d) both.0 in
      let soon : i < trailer_tick profile rules d = omega arith in
      let near : i + 1 < delay profile + live_end rules d = omega arith in
      emission-shown profile rules d i (verdict g from d) both.1 begun near
      ∙ sym (emission-shown profile rules d i (verdict f from d) both.0 begun near))
      (cases_lt i (delay profile + d.start)))
      (alike f g from d)

  module _ (lawful : IsLawful rules) (headed : IsHeaded rules) (f from : ℕ) (d : Burst)
      (m b : ℕ) (may : MayGoOn d m) (early : (checker profile rules).tick (at f from) d < m) where
    abbrev e : Burst
    e = going_on d m b

    now : IsSettled profile rules (at f from) d e
    now = settled profile rules lawful headed d m b may (at f from) early

    abbrev IsSame : ℕ → Type 0
    IsSame g = (note_by rules e (verdict g from e) ≡ note_by rules d (verdict f from d))
        × (emission_by profile rules e (verdict g from e)
        ≡ emission_by profile rules d (verdict f from d))
        × ((state_by profile rules (at g from) e (verdict g from e)).earliest_start
        ≡ (state_by profile rules (at f from) d (verdict f from d)).earliest_start)

    same-dropped : (g : ℕ) (why : DroppedWhy) → verdict f from d ≡ dropped why
        → verdict g from e ≡ dropped why → IsSame g
    same-dropped g why old new = (
      ap (λ v. note_by rules e v) new ∙ sym (ap (λ v. note_by rules d v) old),
      ap (λ v. emission_by profile rules e v) new
          ∙ sym (ap (λ v. emission_by profile rules d v) old),
      ap (λ v. (state_by profile rules (at g from) e v).earliest_start) new
          ∙ sym (ap (λ v. (state_by profile rules (at f from) d v).earliest_start) old),
    )

    -- a verdict that the burst's header already brings is the same at any floor
    still : (g : ℕ) (why : DroppedWhy) → verdict f from d ≡ dropped why
        → verdict g from e ≡ dropped why
    still g why old =
        ⊎_elim
        (λ gone. gone.2 ∙ (sym gone.1 ∙ (now.verdict ∙ old)))
        (λ both. absurd (subst IsJudged (now.verdict ∙ old) both.0))
        (alike f g from e)

    pub check-settled : (live_bytes rules e ≡ live_bytes rules d) ⊎ ((g : ℕ) → IsSame g)
    check-settled =
        ⊎_elim
        (λ gone. inr (λ g. same-dropped g gone.0 gone.1 (still g gone.0 gone.1)))
        (λ both. inl (now.bytes both.0))
        (alike f f from d)

  pub checks-blind : IsLawful rules → IsHeaded rules → IsFloorBlind rules (checking_box profile rules)
  checks-blind lawful headed = record {
    tick = tick-alike;
    shows = λ f g from d i contiguous before. emission-alike f g from d i before;
    settled = check-settled lawful headed;
  }

-- ---- the transmitter

module _ (profile : Profile) (rules : Rules) (lawful : IsLawful rules) where
  abbrev seal_at : ℕ → ℕ → SealState
  seal_at floor from = record { floor = floor; earliest_start = from }

  seal-shows : (f g from : ℕ) (d : Burst) (i : ℕ) → IsContiguous 4 d.body → i < end_of d + 3
      → tick_at ((sealer profile rules).emission (seal_at g from) d) i
      ≡ tick_at ((sealer profile rules).emission (seal_at f from) d) i
  seal-shows f g from d i contiguous before =
      ⊎_elim
      (λ early. ap (λ x. tick_at x i)
      (emission-early profile rules lawful (seal_at g from) d early
      ∙ sym (emission-early profile rules lawful (seal_at f from) d early)))
      (λ late. emission-judged profile rules lawful (seal_at g from) d i contiguous late before
      ∙ sym (emission-judged profile rules lawful (seal_at f from) d i contiguous late before))
      (cases_Bool (nat_lt d.start from))

  pub seals-blind : IsFloorBlind rules (sealing_box profile rules)
  seals-blind = record {
    tick = λ f g from d. refl;
    shows = seal-shows;
    settled = λ f from d m b may early. let close : m < end_of d + 4 = may.near in
        absurd (omega arith);
  }
