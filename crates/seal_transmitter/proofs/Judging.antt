-- How a burst is judged, by the questions that the code asks in turn.
use Rattle.frame_ending.specs.LiveBytes.{live_bytes, has_extra}
use Rattle.frame_ending.specs.SoFar.{last_burst, start_so_far, start_in, has_extra_so_far}
use Rattle.frame_ending.specs.SoFar.{has_extra_in, live_bytes_so_far, live_bytes_in}
use Rattle.{line_rules.specs.Rules.Rules, link_format.specs.Profile.Profile}
use Rattle.link_box.proofs.SealCausality.{judge_by, judged-is}
use Rattle.link_box.specs.Sealing.{SealState, judged, Judgement.sealed_with}
use Rattle.link_box.specs.Sealing.Judgement.{unsealed}
use Rattle.link_box.specs.declared.seal_note.UnsealedWhy.{UnsealedWhy}
use Rattle.link_box.specs.declared.seal_note.UnsealedWhy.TheVariants.{Early, Form, Spent}
use Rattle.seal_transmitter.specs.Between.{IsJudged, judgement_of}
use Rattle.std.proofs.Common.{◌≡◌, ◌∙◌, ℕ, suc, ◌+◌, ◌==◌, nat_lt, true, false, ◌||◌, not, List, ap}
use Rattle.std.proofs.Common.{arith, Option, Some, None, IfSome}
use Rattle.std.proofs.lemmas.Bool.{eq-eqb, ne_eqb}
use Rattle.yasir_ticks.specs.{Bursts.Burst, declared.tick.Tick.Tick}

module _ (profile : Profile) (rules : Rules) (last earliest : ℕ) where
  abbrev state : SealState
  state = record { floor = last; earliest_start = earliest }

  -- Holds if the burst, if there is one, is judged so: unsealed for the reason `why`, or sealed
  -- with the next number if there is none.
  abbrev IsJudgedIn : Option Burst → Option UnsealedWhy → Type 0
  IsJudgedIn o why = IfSome o (λ d. judged profile rules state d ≡ judgement_of why (last + 1))

  judge-early : (o : Option Burst) → nat_lt (start_in o) earliest ≡ true → IsJudgedIn o (Some Early)
  judge-early None early = tt
  judge-early (Some d) early =
      judged-is profile rules state d
      ∙ ap (λ e. judge_by e (has_extra rules d || not (rules.is_frame (live_bytes rules d)))
      (last == profile.limit) (suc last)) early

  judge-wrong : (d : Burst) → nat_lt d.start earliest ≡ false
      → (has_extra rules d || not (rules.is_frame (live_bytes rules d))) ≡ true
      → judged profile rules state d ≡ unsealed Form
  judge-wrong d late wrong =
      judged-is profile rules state d
      ∙ (ap (λ e. judge_by e (has_extra rules d || not (rules.is_frame (live_bytes rules d)))
      (last == profile.limit) (suc last)) late
      ∙ ap (λ w. judge_by false w (last == profile.limit) (suc last)) wrong)

  judge-extra : (o : Option Burst) → nat_lt (start_in o) earliest ≡ false
      → has_extra_in rules o ≡ true → IsJudgedIn o (Some Form)
  judge-extra None late extra = tt
  judge-extra (Some d) late extra = judge-wrong d late
      (ap (λ e. e || not (rules.is_frame (live_bytes rules d))) extra)

  judge-no_frame : (o : Option Burst) → nat_lt (start_in o) earliest ≡ false
      → has_extra_in rules o ≡ false
      → rules.is_frame (live_bytes_in rules o) ≡ false → IsJudgedIn o (Some Form)
  judge-no_frame None late whole bad = tt
  judge-no_frame (Some d) late whole bad =
      judge-wrong d late (ap (λ e. e || not (rules.is_frame (live_bytes rules d))) whole
      ∙ ap not bad)

  judge-right : (d : Burst) → nat_lt d.start earliest ≡ false → has_extra rules d ≡ false
      → rules.is_frame (live_bytes rules d) ≡ true
      → judged profile rules state d ≡ judge_by false false (last == profile.limit) (suc last)
  judge-right d late whole good =
      let right : (has_extra rules d || not (rules.is_frame (live_bytes rules d))) ≡ false =
      ap (λ e. e || not (rules.is_frame (live_bytes rules d))) whole ∙ ap not good in
      judged-is profile rules state d
      ∙ (ap (λ e. judge_by e (has_extra rules d || not (rules.is_frame (live_bytes rules d)))
      (last == profile.limit) (suc last)) late
      ∙ ap (λ w. judge_by false w (last == profile.limit) (suc last)) right)

  judge-spent : (o : Option Burst) → nat_lt (start_in o) earliest ≡ false
      → has_extra_in rules o ≡ false
      → rules.is_frame (live_bytes_in rules o) ≡ true → (last == profile.limit) ≡ true
      → IsJudgedIn o (Some Spent)
  judge-spent None late whole good spent = tt
  judge-spent (Some d) late whole good spent =
      judge-right d late whole good ∙ ap (λ f. judge_by false false f (suc last)) spent

  judge-sealed : (o : Option Burst) → nat_lt (start_in o) earliest ≡ false
      → has_extra_in rules o ≡ false
      → rules.is_frame (live_bytes_in rules o) ≡ true → (last == profile.limit) ≡ false
      → IsJudgedIn o None
  judge-sealed None late whole good unsent = tt
  judge-sealed (Some d) late whole good unsent =
      let next : suc last ≡ last + 1 = omega arith in
      judge-right d late whole good ∙ (ap (λ f. judge_by false false f (suc last)) unsent
      ∙ ap sealed_with next)

  module _ (line : List Tick) where
    pub early-judged : nat_lt (start_so_far line) earliest ≡ true
        → IsJudged profile rules last earliest line (judgement_of (Some Early) (last + 1))
    early-judged early = judge-early (last_burst line) early

    pub extra-judged : nat_lt (start_so_far line) earliest ≡ false
        → has_extra_so_far rules line ≡ true
        → IsJudged profile rules last earliest line (judgement_of (Some Form) (last + 1))
    extra-judged late extra = judge-extra (last_burst line) late extra

    pub no_frame-judged : nat_lt (start_so_far line) earliest ≡ false
        → has_extra_so_far rules line ≡ false
        → rules.is_frame (live_bytes_so_far rules line) ≡ false
        → IsJudged profile rules last earliest line (judgement_of (Some Form) (last + 1))
    no_frame-judged late whole bad = judge-no_frame (last_burst line) late whole bad

    pub spent-judged : nat_lt (start_so_far line) earliest ≡ false
        → has_extra_so_far rules line ≡ false
        → rules.is_frame (live_bytes_so_far rules line) ≡ true → last ≡ profile.limit
        → IsJudged profile rules last earliest line (judgement_of (Some Spent) (last + 1))
    spent-judged late whole good spent =
        judge-spent (last_burst line) late whole good (eq-eqb last profile.limit spent)

    pub sealed-judged : nat_lt (start_so_far line) earliest ≡ false
        → has_extra_so_far rules line ≡ false
        → rules.is_frame (live_bytes_so_far rules line) ≡ true → (last ≡ profile.limit → ⊥)
        → IsJudged profile rules last earliest line (judgement_of None (last + 1))
    sealed-judged late whole good unsent =
        judge-sealed (last_burst line) late whole good (ne_eqb last profile.limit unsent)
