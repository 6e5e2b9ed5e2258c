-- The receiver's verdict, case by case.
use Rattle.frame_ending.specs.LiveBytes.{before_pause, up_to_byte, live_bytes}
use Rattle.line_rules.specs.{Rules.Rules, Rules.head_of, declared.head.Head.Head}
use Rattle.line_rules.specs.declared.head.Head.TheVariants.{Short, Good, Bad}
use Rattle.link_format.specs.Profile.{Profile, pause_len, trailer_len}
use Rattle.link_box.specs.Checking.{head_tick, trailer_tick, note_tick, checker}
use Rattle.link_box.specs.Verdicts.{CheckState, Verdict, kept_after, trailer_of, number_of}
use Rattle.link_box.specs.Verdicts.{tag_in, verdict_by_number, whole_verdict, verdict_of}
use Rattle.link_box.specs.Verdicts.{verdict_by_head, checked}
use Rattle.link_box.specs.Verdicts.Verdict.{passed_with, refused, dropped}
use Rattle.link_box.specs.declared.check_note.DroppedWhy.TheVariants.{Busy, Head as NoHead}
use Rattle.link_box.specs.declared.check_note.RefusedWhy.TheVariants.{Trailer, Form, Tag}
use Rattle.std.proofs.Common.{◌≡◌, ◌∙◌, ℕ, ◌+◌, ◌-◌, ◌<◌, ◌≤◌, nat_lt, Bool, true, false, cond}
use Rattle.std.proofs.Common.{List, length, take, refl, ap, Option, Some, None, bytes_eq}
use Rattle.std.proofs.lemmas.Bool.{cond-true, cond-false, lt-ltb, le-ltb}
use Rattle.yasir_ticks.specs.Bursts.{Burst}

-- Holds if the verdict is that the burst passes or is refused, so that it leaves.
abbrev pub IsJudged : Verdict → Type 0
IsJudged (passed_with number) = Unit {0}
IsJudged (refused why) = Unit {0}
IsJudged (dropped why) = ⊥

-- ---- what the header says

module _ (rules : Rules) (x : List ℕ) where
  abbrev header : Bool
  header = rules.is_good_header (take rules.header_len x)

  pub head-short : length x < rules.header_len → head_of rules x ≡ Short
  head-short short = cond-true _ _ _ (lt-ltb (length x) rules.header_len short)

  pub head-good : rules.header_len ≤ length x → header ≡ true → head_of rules x ≡ Good
  head-good long good = cond-false _ _ _ (le-ltb (length x) rules.header_len long)
      ∙ cond-true header Good Bad good

  pub head-bad : rules.header_len ≤ length x → header ≡ false → head_of rules x ≡ Bad
  head-bad long bad = cond-false _ _ _ (le-ltb (length x) rules.header_len long)
      ∙ cond-false header Good Bad bad

-- ---- the verdict

module _ (profile : Profile) (rules : Rules) (s : CheckState) (d : Burst) where
  checked-is : checked profile rules s d
      ≡ cond (nat_lt d.start s.earliest_start) (dropped Busy)
      (verdict_by_head (head_of rules (live_bytes rules d)) (verdict_of profile rules s.floor d))
  unfolding checked
  checked-is = refl

  pub checked-busy : d.start < s.earliest_start → checked profile rules s d ≡ dropped Busy
  checked-busy early = checked-is ∙ cond-true _ _ _ (lt-ltb d.start s.earliest_start early)

  checked-head : (head : Head) → s.earliest_start ≤ d.start
      → head_of rules (live_bytes rules d) ≡ head
      → checked profile rules s d ≡ verdict_by_head head (verdict_of profile rules s.floor d)
  checked-head head late is =
      checked-is
      ∙ (cond-false _ _ _ (le-ltb d.start s.earliest_start late)
      ∙ ap (λ h. verdict_by_head h (verdict_of profile rules s.floor d)) is)

  pub checked-short : s.earliest_start ≤ d.start
      → length (live_bytes rules d) < rules.header_len
      → checked profile rules s d ≡ dropped NoHead
  checked-short late short = checked-head Short late (head-short rules (live_bytes rules d) short)

  pub checked-bad : s.earliest_start ≤ d.start → rules.header_len ≤ length (live_bytes rules d)
      → rules.is_good_header (take rules.header_len (live_bytes rules d)) ≡ false
      → checked profile rules s d ≡ dropped NoHead
  checked-bad late long bad = checked-head Bad late (head-bad rules (live_bytes rules d) long bad)

  pub checked-good : s.earliest_start ≤ d.start → rules.header_len ≤ length (live_bytes rules d)
      → rules.is_good_header (take rules.header_len (live_bytes rules d)) ≡ true
      → checked profile rules s d ≡ verdict_of profile rules s.floor d
  checked-good late long good =
      checked-head Good late (head-good rules (live_bytes rules d) long good)

module _ (profile : Profile) (rules : Rules) (floor : ℕ) (d : Burst) where
  verdict-is : verdict_of profile rules floor d
      ≡ cond (nat_lt (kept_after profile rules d) (pause_len + trailer_len profile))
      (refused Trailer)
      (whole_verdict profile rules floor (live_bytes rules d) (trailer_of profile rules d))
  unfolding verdict_of
  verdict-is = refl

  pub verdict-cut : kept_after profile rules d < pause_len + trailer_len profile
      → verdict_of profile rules floor d ≡ refused Trailer
  verdict-cut cut = verdict-is ∙ cond-true _ _ _ (lt-ltb _ _ cut)

  pub verdict-whole : pause_len + trailer_len profile ≤ kept_after profile rules d
      → verdict_of profile rules floor d
      ≡ whole_verdict profile rules floor (live_bytes rules d) (trailer_of profile rules d)
  verdict-whole whole = verdict-is ∙ cond-false _ _ _ (le-ltb _ _ whole)

-- a choice between two verdicts by which a burst leaves is such a verdict
judged-choice : (b : Bool) (v w : Verdict) → IsJudged v → IsJudged w → IsJudged (cond b v w)
judged-choice true v w first second = first
judged-choice false v w first second = second

judged-number : (profile : Profile) (frame bytes : List ℕ) (number : Option ℕ)
    → IsJudged (verdict_by_number profile frame bytes number)
judged-number profile frame bytes None = tt
judged-number profile frame bytes (Some number) =
    judged-choice (bytes_eq (tag_in profile bytes) (profile.tag number frame)) (passed_with number)
    (refused Tag) tt tt

pub judged-whole : (profile : Profile) (rules : Rules) (floor : ℕ) (frame bytes : List ℕ)
    → IsJudged (whole_verdict profile rules floor frame bytes)
judged-whole profile rules floor frame bytes =
    judged-choice (rules.is_frame frame)
    (verdict_by_number profile frame bytes (number_of profile floor bytes)) (refused Form)
    (judged-number profile frame bytes (number_of profile floor bytes)) tt

pub judged-verdict : (profile : Profile) (rules : Rules) (floor : ℕ) (d : Burst)
    → IsJudged (verdict_of profile rules floor d)
unfolding verdict_of
judged-verdict profile rules floor d =
    judged-choice (nat_lt (kept_after profile rules d) (pause_len + trailer_len profile))
    (refused Trailer)
    (whole_verdict profile rules floor (live_bytes rules d) (trailer_of profile rules d)) tt
    (judged-whole profile rules floor (live_bytes rules d) (trailer_of profile rules d))

-- ---- the tick of the note

pub judged-tick : (profile : Profile) (rules : Rules) (d : Burst) (v : Verdict) → IsJudged v
    → note_tick profile rules d v ≡ trailer_tick profile rules d
judged-tick profile rules d (passed_with number) judged = refl
judged-tick profile rules d (refused why) judged = refl
judged-tick profile rules d (dropped why) judged = absurd judged

module _ (profile : Profile) (rules : Rules) (s : CheckState) (d : Burst) where
  pub tick-busy : d.start < s.earliest_start → (checker profile rules).tick s d ≡ d.start
  tick-busy early = ap (λ v. note_tick profile rules d v) (checked-busy profile rules s d early)

  pub tick-short : s.earliest_start ≤ d.start → length (live_bytes rules d) < rules.header_len
      → (checker profile rules).tick s d ≡ d.start + length (before_pause d.body) + 1
  tick-short late short =
      ap (λ v. note_tick profile rules d v) (checked-short profile rules s d late short)
      ∙ ap (λ h. head_tick rules d h) (head-short rules (live_bytes rules d) short)

  pub tick-bad : s.earliest_start ≤ d.start → rules.header_len ≤ length (live_bytes rules d)
      → rules.is_good_header (take rules.header_len (live_bytes rules d)) ≡ false
      → (checker profile rules).tick s d
      ≡ d.start + (length (up_to_byte rules.header_len d.body) - 1)
  tick-bad late long bad =
      ap (λ v. note_tick profile rules d v) (checked-bad profile rules s d late long bad)
      ∙ ap (λ h. head_tick rules d h) (head-bad rules (live_bytes rules d) long bad)

  pub tick-good : s.earliest_start ≤ d.start → rules.header_len ≤ length (live_bytes rules d)
      → rules.is_good_header (take rules.header_len (live_bytes rules d)) ≡ true
      → (checker profile rules).tick s d ≡ trailer_tick profile rules d
  tick-good late long good =
      ap (λ v. note_tick profile rules d v) (checked-good profile rules s d late long good)
      ∙ judged-tick profile rules d (verdict_of profile rules s.floor d)
      (judged-verdict profile rules s.floor d)
