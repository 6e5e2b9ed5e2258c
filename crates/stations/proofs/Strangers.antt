-- For a name that isn't in the table no number is left, so no frame that names it is sealed or
-- passes, and no key is asked for.
use Rattle.frame_ending.proofs.Walks.{before-early, before-late}
use Rattle.frame_ending.specs.Walk.{Noted, noted, walked, notes_before}
use Rattle.line_rules.specs.Rules.{Rules}
use Rattle.link_box.specs.Checking.{note_by, passed_in}
use Rattle.link_box.specs.Sealing.{Judgement, SealState, judged, sealed_in}
use Rattle.link_box.specs.Sealing.{note_by as seal_note_by}
use Rattle.link_box.specs.Sealing.Judgement.{sealed_with, unsealed}
use Rattle.link_box.specs.Verdicts.{CheckState, Verdict, checked, verdict_of}
use Rattle.link_box.specs.Verdicts.{verdict_by_number, verdict_by_head, number_of, kept_after}
use Rattle.link_box.specs.Verdicts.{trailer_of}
use Rattle.link_box.specs.Verdicts.Verdict.{passed_with, refused, dropped}
use Rattle.link_box.specs.declared.check_note.RefusedWhy.TheVariants.{Form, Trailer}
use Rattle.link_box.specs.declared.check_note.DroppedWhy.TheVariants.{Busy}
use Rattle.link_format.specs.{NumberedFrame.NumberedFrame, Profile.Profile}
use Rattle.link_format.specs.Profile.{pause_len, trailer_len}
use Rattle.frame_ending.specs.LiveBytes.{live_bytes}
use Rattle.line_rules.specs.Rules.{head_of}
use Rattle.link_box.proofs.Passing.{number-within}
use Rattle.receiver_laws.proofs.{Rising.above-floor, Sending.sealed-is}
use Rattle.receiver_laws.specs.Reflected.{with_tags}
use Rattle.std.proofs.Common.{◌≡◌, ◌∙◌, ◌==◌, ℕ, Bool, true, false, List, [], ◌∷◌, Option, Some, None}
use Rattle.std.proofs.Common.{◌+◌}
use Rattle.std.proofs.Common.{refl, sym, ap, subst, if◌then◌else◌, arith, ⊎_elim, nat_lt}
use Rattle.std.proofs.lemmas.Bool.{cases_lt, cases_Bool, ne_eqb, eqb-false}
use Rattle.std.specs.List.{filter_map, cons_option}
use Rattle.yasir_ticks.specs.{Bursts.Burst}
use Rattle.stations.proofs.Numbering.{IsNumbering}
use Rattle.stations.specs.Shared.{StationBox, SharedState, floors_after, of_station, named, shared}
use Rattle.stations.specs.Shared.{sealing_box, checking_box}
use Rattle.stations.specs.Table.{StationEntry, has_station, table_floor}

-- ---- the table

pub floor-none : (limit : ℕ) (table : List StationEntry) (i : ℕ) → has_station table i ≡ false
    → table_floor limit table i ≡ limit
floor-none limit [] i none = refl
floor-none limit (entry ∷ table) i none =
    let P : Bool → Type 0 = λ b. (if b then true else has_station table i)
    ≡ false → (if b then entry.floor else table_floor limit table i) ≡ limit in
    ⊎_elim
    (λ is. let Q : Bool → Type 0 = λ b. (if b then true
    else has_station table i) ≡ false in let never : true ≡ false = subst Q is none in cc)
    (λ isn't. subst P (sym isn't) (λ rest. floor-none limit table i rest) none)
    (cases_Bool (entry.name == i))

-- ---- a box whose floor for a station is the limit notes no frame for it

-- Holds if the box, at this floor, notes no frame.
abbrev pub IsSpentAt : {S N : Type 0} → StationBox S N → ℕ → Type 0
IsSpentAt box limit = (from : ℕ) (d : Burst)
    → box.frame_in (box.walker.note (box.state limit from) d) ≡ None

module _ {S N : Type 0} (station : List ℕ → ℕ) (rules : Rules) (box : StationBox S N)
    (is : IsNumbering rules box) (limit : ℕ) (spent : IsSpentAt box limit) (i : ℕ) where
  abbrev frames_in : List (Noted N) → List NumberedFrame
  frames_in notes = filter_map (λ n. box.frame_in n.note) notes

  abbrev its : List NumberedFrame → List NumberedFrame
  its frames = of_station station i frames

  -- a frame that names another station
  step : (floors : ℕ → ℕ) (o : Option NumberedFrame) (frames : List NumberedFrame)
      → ((f : NumberedFrame) → o ≡ Some f → station f.frame ≡ i → ⊥) → floors i ≡ limit
      → (floors_after station floors o i ≡ limit → its frames ≡ [])
      → (its (cons_option o frames) ≡ []) × (its frames ≡ [])
  step floors None frames others at none = (none at, none at)
  step floors (Some f) frames others at none =
      let other = ne_eqb (station f.frame) i (others f refl) in
      let rest : its frames ≡ [] =
      none (ap (λ b. if b then f.number else floors i) other ∙ at) in
      (ap (λ b. if b then f ∷ its frames else its frames) other ∙ rest, rest)

  pub no-frames : (m : ℕ) (s : SharedState) (ds : List Burst) → s.floors i ≡ limit
      → its (frames_in (notes_before m (walked (shared station rules box) s ds))) ≡ []
  no-frames m s [] at = refl
  no-frames m s (d ∷ ds) at =
      let w = shared station rules box in
      let o : Option NumberedFrame = box.frame_in (w.note s d) in
      let later : List (Noted N) = walked w (w.next s d) ds in
      let others : (f : NumberedFrame) → o ≡ Some f → station f.frame ≡ i → ⊥ = λ f some same.
      let spells = (is.above (s.floors (named station rules d)) s.free_from d f some).1 in
      let its_floor : s.floors (named station rules d) ≡ limit =
      ap (λ x. s.floors (station x)) (sym spells) ∙ (ap s.floors same ∙ at) in
      let gone : o ≡ None =
      ap (λ k. box.frame_in (box.walker.note (box.state k s.free_from) d)) its_floor
      ∙ spent s.free_from d in
      let never : Some f ≡ None = sym some ∙ gone in cc in
      let both = step s.floors o (frames_in (notes_before m later)) others at
      (λ still. no-frames m (w.next s d) ds still) in
      ⊎_elim
      (λ early. ap (λ l. its (frames_in l)) (before-early m (noted w s d) later early) ∙ both.0)
      (λ late. ap (λ l. its (frames_in l)) (before-late m (noted w s d) later late) ∙ both.1)
      (cases_lt (w.tick s d) m)

module _ (profile : Profile) (rules : Rules) where
  check-spent : (s : CheckState) (d : Burst) (v : Verdict) → s.floor ≡ profile.limit
      → checked profile rules s d ≡ v → passed_in (note_by rules d v) ≡ None
  check-spent s d (passed_with n) at is =
      let above = above-floor profile rules s d n is in
      let low = above.0 in
      let high = above.1 in
      absurd (omega arith)
  check-spent s d (refused why) at is = refl
  check-spent s d (dropped why) at is = refl

  pub checks-spent : IsSpentAt (checking_box profile rules) profile.limit
  checks-spent from d = let s : CheckState = record {
    floor = profile.limit;
    earliest_start = from;
  } in check-spent s d (checked profile rules s d) refl refl

  seal-spent : (s : SealState) (d : Burst) (j : Judgement) → s.floor ≡ profile.limit
      → judged profile rules s d ≡ j → sealed_in (seal_note_by rules d j) ≡ None
  seal-spent s d (sealed_with n) at is =
      absurd (eqb-false s.floor profile.limit (sealed-is profile rules s d n is).left at)
  seal-spent s d (unsealed why) at is = refl

  pub seals-spent : IsSpentAt (sealing_box profile rules) profile.limit
  seals-spent from d = let s : SealState = record {
    floor = profile.limit;
    earliest_start = from;
  } in seal-spent s d (judged profile rules s d) refl refl

  -- ---- no key is asked for

  module _ (other : ℕ → List ℕ → List ℕ) (from : ℕ) (d : Burst) where
    abbrev spent : CheckState
    spent = record { floor = profile.limit; earliest_start = from }

    abbrev number : Option ℕ
    number = number_of profile profile.limit (trailer_of profile rules d)

    no-number : (o : Option ℕ) → number ≡ o → number ≡ None
    no-number None is = is
    no-number (Some n) is =
        let within = number-within profile profile.limit (trailer_of profile rules d) n is in
        let low = within.1 in
        let high = within.2 in
        absurd (omega arith)

    abbrev by_number : Profile → Option ℕ → Verdict
    by_number keys o = if rules.is_frame (live_bytes rules d)
        then verdict_by_number keys (live_bytes rules d) (trailer_of profile rules d) o
        else refused Form

    same-whole : by_number (with_tags profile other) number ≡ by_number profile number
    same-whole =
        let none = no-number number refl in
        ap (λ o. by_number (with_tags profile other) o) none ∙ sym (ap (λ o. by_number profile o) none)

    same-verdict : verdict_of (with_tags profile other) rules profile.limit d
        ≡ verdict_of profile rules profile.limit d
    unfolding verdict_of
    same-verdict = ap (λ v. if nat_lt (kept_after profile rules d) (pause_len + trailer_len profile)
        then refused Trailer else v) same-whole

    pub keyless : checked (with_tags profile other) rules spent d ≡ checked profile rules spent d
    unfolding checked
    keyless = ap (λ v. if nat_lt d.start from then dropped Busy
        else verdict_by_head (head_of rules (live_bytes rules d)) v) same-verdict
