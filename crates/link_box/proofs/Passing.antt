-- When a burst of the link passes.
use Rattle.{frame_ending.specs.LiveBytes.live_bytes, line_rules.specs.Rules.Rules}
use Rattle.link_format.specs.Profile.{Profile, pause_len, trailer_len, words, word_of}
use Rattle.link_box.proofs.Judging.{checked-busy, checked-short, checked-bad, checked-good}
use Rattle.link_box.proofs.Judging.{verdict-cut, verdict-whole}
use Rattle.link_box.specs.Verdicts.{CheckState, Verdict, kept_after, trailer_of, number_of}
use Rattle.link_box.specs.Verdicts.{tag_in, verdict_by_number, checked}
use Rattle.link_box.specs.Verdicts.Verdict.{passed_with, refused, dropped}
use Rattle.link_box.specs.declared.check_note.DroppedWhy.{DroppedWhy}
use Rattle.link_box.specs.declared.check_note.DroppedWhy.TheVariants.{Busy, Head as NoHead}
use Rattle.link_box.specs.declared.check_note.RefusedWhy.TheVariants.{Trailer, Form, Tag}
use Rattle.{sequence_journal.specs.Numbers.least_with, std.proofs.Common.◌≡◌}
use Rattle.std.proofs.Common.{◌∙◌, ℕ, ◌+◌, ◌<◌, ◌≤◌, nat_le, Bool, true, false, cond, List, length}
use Rattle.std.proofs.Common.{take, refl, sym, ap, arith, ⊎_elim, Option, Some, None, bytes_eq}
use Rattle.std.proofs.lemmas.Bool.{cases_lt, cases_Bool, cond-true, leb-true}
use Rattle.{std.proofs.lemmas.Slice.Eq.bytes_eq-Decides, yasir_ticks.specs.Bursts.Burst}

-- Holds if a burst passes with a number. It starts late enough, with a good header, and its live
-- bytes are a frame. A whole trailer follows them, whose word represents the number, and whose tag
-- is the one of the number and the frame.
pub record IsPassing (profile : Profile) (rules : Rules) (s : CheckState) (d : Burst) (number : ℕ) :
    Type 0 where
  pub late : s.earliest_start ≤ d.start
  pub header_long : rules.header_len ≤ length (live_bytes rules d)
  pub header_good : rules.is_good_header (take rules.header_len (live_bytes rules d)) ≡ true
  pub whole : pause_len + trailer_len profile ≤ kept_after profile rules d
  pub framed : rules.is_frame (live_bytes rules d) ≡ true
  pub numbered : number_of profile s.floor (trailer_of profile rules d) ≡ Some number
  pub tagged : tag_in profile (trailer_of profile rules d)
      ≡ profile.tag number (live_bytes rules d)

-- the number of a trailer is above the floor and within the limit
chosen : (b : Bool) (a number : ℕ) → cond b (Some a) None ≡ Some number
    → (b ≡ true) × (a ≡ number)
chosen true a number is = (refl, cc)
chosen false a number is = cc

pub number-within : (profile : Profile) (floor : ℕ) (bytes : List ℕ) (number : ℕ)
    → number_of profile floor bytes ≡ Some number
    → (number ≡ least_with (words profile) floor (word_of profile bytes)) × (floor < number)
    × (number ≤ profile.limit)
number-within profile floor bytes number is =
    let least : ℕ = least_with (words profile) floor (word_of profile bytes) in
    let parts = chosen (nat_le least profile.limit) least number is in
    let within = leb-true least profile.limit parts.0 in
    let same : least ≡ number = parts.1 in
    (sym same, omega arith, omega arith)

-- ---- how a verdict that passes is made

tag-passes : (b : Bool) (n number : ℕ) → cond b (passed_with n) (refused Tag) ≡ passed_with number
    → (b ≡ true) × (n ≡ number)
tag-passes true n number is = (refl, cc)
tag-passes false n number is = cc

number-passes : (profile : Profile) (frame bytes : List ℕ) (o : Option ℕ) (number : ℕ)
    → verdict_by_number profile frame bytes o ≡ passed_with number
    → (o ≡ Some number) × (tag_in profile bytes ≡ profile.tag number frame)
number-passes profile frame bytes None number is = cc
number-passes profile frame bytes (Some n) number is =
    let same : Bool = bytes_eq (tag_in profile bytes) (profile.tag n frame) in
    let parts = tag-passes same n number is in (
      ap Some parts.1,
      (bytes_eq-Decides (tag_in profile bytes) (profile.tag n frame)).0 parts.0
          ∙ ap (λ k. profile.tag k frame) parts.1,
    )

form-passes : (b : Bool) (v : Verdict) (number : ℕ) → cond b v (refused Form) ≡ passed_with number
    → (b ≡ true) × (v ≡ passed_with number)
form-passes true v number is = (refl, is)
form-passes false v number is = cc

module _ (profile : Profile) (rules : Rules) (s : CheckState) (d : Burst) (number : ℕ) where
  pub passing-passes : IsPassing profile rules s d number
      → checked profile rules s d ≡ passed_with number
  passing-passes is =
      let frame : List ℕ = live_bytes rules d in
      let bytes : List ℕ = trailer_of profile rules d in
      checked-good profile rules s d is.late is.header_long is.header_good
      ∙ (verdict-whole profile rules s.floor d is.whole
      ∙ (cond-true (rules.is_frame frame) _ _ is.framed
      ∙ (ap (λ o. verdict_by_number profile frame bytes o) is.numbered
      ∙ cond-true (bytes_eq (tag_in profile bytes) (profile.tag number frame)) _ _
      ((bytes_eq-Decides (tag_in profile bytes) (profile.tag number frame)).1 is.tagged))))

  not-dropped : (why : DroppedWhy) → checked profile rules s d ≡ dropped why
      → checked profile rules s d ≡ passed_with number → ⊥
  not-dropped why drops is = let same : dropped why ≡ passed_with number = sym drops ∙ is in cc

  good-passing : s.earliest_start ≤ d.start → rules.header_len ≤ length (live_bytes rules d)
      → rules.is_good_header (take rules.header_len (live_bytes rules d)) ≡ true
      → checked profile rules s d ≡ passed_with number → IsPassing profile rules s d number
  good-passing late long good is =
      let frame : List ℕ = live_bytes rules d in
      let bytes : List ℕ = trailer_of profile rules d in
      let here = sym (checked-good profile rules s d late long good) ∙ is in
      ⊎_elim
      (λ cut. let same : refused Trailer ≡ passed_with number =
      sym (verdict-cut profile rules s.floor d cut) ∙ here in cc)
      (λ whole.
      let v : Verdict = verdict_by_number profile frame bytes (number_of profile s.floor bytes) in
      let form = form-passes (rules.is_frame frame) v number
      (sym (verdict-whole profile rules s.floor d whole) ∙ here) in
      let parts = number-passes profile frame bytes (number_of profile s.floor bytes) number
      form.1 in
      record {
        late = late;
        header_long = long;
        header_good = good;
        whole = whole;
        framed = form.0;
        numbered = parts.0;
        tagged = parts.1;
      })
      (cases_lt (kept_after profile rules d) (pause_len + trailer_len profile))

  pub passed-passing : checked profile rules s d ≡ passed_with number
      → IsPassing profile rules s d number
  passed-passing is =
      ⊎_elim
      (λ busy. absurd (not-dropped Busy (checked-busy profile rules s d busy) is))
      (λ late. ⊎_elim
      (λ short. absurd (not-dropped NoHead (checked-short profile rules s d late short) is))
      (λ long. ⊎_elim
      (λ good. good-passing late long good is)
      (λ bad. absurd (not-dropped NoHead (checked-bad profile rules s d late long bad) is))
      (cases_Bool (rules.is_good_header (take rules.header_len (live_bytes rules d)))))
      (cases_lt (length (live_bytes rules d)) rules.header_len))
      (cases_lt d.start s.earliest_start)
