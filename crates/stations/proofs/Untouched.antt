-- A link of several stations on which nothing is changed.
use Rattle.frame_ending.proofs.{LaidBursts.bursts-laid, LaidBursts.laid-later, Spread.EndBy}
use Rattle.frame_ending.{proofs.Spread.bursts-spread, proofs.Spread.bursts-end, specs.Laid.laid}
use Rattle.frame_ending.specs.{Laid.later, Laid.tick_at, Walk.walked, Walk.emitted_by}
use Rattle.frame_ending.specs.Walk.{notes_before}
use Rattle.line_rules.specs.{Rules.Rules, RulesLaws.IsLawful, RulesLaws.IsFramed}
use Rattle.link_box.proofs.SealNumbers.{frames_in as sealed_in_notes}
use Rattle.link_box.specs.Checking.{checker, at_floor}
use Rattle.link_format.specs.NumberedFrame.{NumberedFrame}
use Rattle.link_format.specs.Profile.{Profile, HasTags, pause_len, trailer_len, delay}
use Rattle.receiver_laws.proofs.{Deliveries.end-later, Deliveries.laid-line, Notes.frames_in}
use Rattle.std.proofs.Common.{◌≡◌, ◌∙◌, ℕ, ◌+◌, ◌-◌, ◌≤◌, List, ◌++◌, length, map, refl}
use Rattle.std.proofs.Common.{ap, subst, arith, length-append}
use Rattle.std.proofs.lemmas.List.{length-replicate, FromFn.length-map-range_with_len}
use Rattle.std.specs.List.{All}
use Rattle.yasir_ticks.proofs.{BurstLaws.bursts_from-silent_end}
use Rattle.yasir_ticks.specs.Bursts.{Burst, bursts}
use Rattle.yasir_ticks.specs.{Ticks.silent, declared.tick.Tick.Tick}
use Rattle.yasir_ticks.specs.declared.tick.Tick.{TheVariants.Silent}
use Rattle.stations.proofs.InTurn.{packets_in_turn, in_turn-spread, in_turn-end, SealsEach}
use Rattle.stations.proofs.InTurn.{seals-each, PassesEach, passes-each}
use Rattle.stations.proofs.Own.{passes-own}
use Rattle.stations.specs.InTurn.{IsSharedLine, IsNear, untouched_link}
use Rattle.stations.specs.InTurn.{SealsInTurn, StationPassesItsOwn, CentrePassesAll}
use Rattle.stations.specs.Shared.{at_floors, shared, sealing_box, checking_box}
use Rattle.stations.specs.Shared.{sent_line}
use Rattle.stations.specs.Table.{StationTags, profile_for, by_station}

module _ (profile : Profile) (all_tags : StationTags)
    (tags : (i : ℕ) → HasTags (profile_for profile all_tags i)) (some : 1 ≤ profile.word_len)
    (rules : Rules) (lawful : IsLawful rules) (framing : IsFramed rules)
    (station : List ℕ → ℕ) (floors : ℕ → ℕ) (line : List Tick) (more rest : ℕ)
    (is : IsSharedLine station profile rules floors line more) where
  abbrev keys : Profile
  keys = by_station profile all_tags station

  abbrev ds : List Burst
  ds = bursts line

  abbrev sealed_line : List Tick
  sealed_line = line ++ silent more

  abbrev link : List Tick
  link = untouched_link station profile all_tags rules floors line more rest

  abbrev its : List Burst
  its = packets_in_turn profile all_tags tags some rules lawful framing station floors ds

  whole-length : length sealed_line ≡ length line + more
  whole-length = length-append line (silent more) ∙ ap (λ k. length line + k)
      (length-replicate more Silent)

  same-bursts : bursts sealed_line ≡ ds
  same-bursts = bursts_from-silent_end 4 0 more line

  seal-room : length line + 4 ≤ length sealed_line
  seal-room = let long = whole-length in let quiet = is.silence in omega arith

  all-sealed : SealsEach profile all_tags tags some rules lawful framing station (length line)
      (length sealed_line) seal-room (at_floors floors) ds
  all-sealed = seals-each profile all_tags tags some rules lawful framing station (length line)
      (length sealed_line) seal-room (at_floors floors) 0 0 ds is.spaced (bursts-spread line)
      (bursts-end line) (omega arith) is.numbers

  pub seals-in_turn : SealsInTurn station profile all_tags rules floors line more rest
  seals-in_turn = ap (λ es. sealed_in_notes (notes_before (length sealed_line)
      (walked (shared station rules (sealing_box keys rules)) (at_floors floors) es))) same-bursts
      ∙ all-sealed.notes

  -- ---- the link

  sealed-link : sent_line station keys rules floors sealed_line ≡ laid (length sealed_line) its
  sealed-link =
      ap (λ es. laid (length sealed_line) (emitted_by
      (shared station rules (sealing_box keys rules)) (at_floors floors) es)) same-bursts
      ∙ ap (λ es. laid (length sealed_line) es) all-sealed.emits

  its-end : EndBy (length sealed_line) its
  its-end =
      let long = whole-length in
      let quiet = is.silence in
      end-later (length line + pause_len + trailer_len profile) (length sealed_line) its
      (omega arith)
      (in_turn-end profile all_tags tags some rules lawful framing station floors 0 0 (length line)
      ds is.spaced (bursts-spread line) (bursts-end line))

  link-bursts : bursts link ≡ its
  link-bursts =
      bursts_from-silent_end 4 0 rest (sent_line station keys rules floors sealed_line)
      ∙ (ap (λ x. bursts x) sealed-link
      ∙ bursts-laid 4 (length sealed_line) its
      (in_turn-spread profile all_tags tags some rules lawful framing station floors 0 0 ds
      is.spaced (bursts-spread line)) its-end)

  link-length : length link ≡ length line + more + rest
  link-length =
      let long : length (sent_line station keys rules floors sealed_line) ≡ length sealed_line =
      length-map-range_with_len (λ i. tick_at (emitted_by
      (shared station rules (sealing_box keys rules)) (at_floors floors) (bursts sealed_line)) i) 0
      (length sealed_line) in
      let all = length-append (sent_line station keys rules floors sealed_line) (silent rest) in
      let tail = length-replicate rest Silent in
      let whole = whole-length in
      omega arith

  pass-room : length line + pause_len + trailer_len profile ≤ length link
  pass-room = let long = link-length in let quiet = is.silence in omega arith

  -- ---- a station's box

  pub station-passes : (i behind : ℕ) → IsNear profile behind (floors i)
      → StationPassesItsOwn station profile all_tags rules floors line more rest i behind
  station-passes i behind near all =
      let frames : List Burst → List NumberedFrame = λ es. frames_in (notes_before (length link)
      (walked (checker (profile_for profile all_tags i) rules) (at_floor behind) es)) in
      let P : List NumberedFrame → Type 0 =
      λ l. All (λ (f : NumberedFrame). station f.frame ≡ i) l in
      ap frames link-bursts
      ∙ passes-own profile all_tags tags some rules lawful framing station i (length line)
      (length link) pass-room (at_floor behind) floors 0 0 ds is.spaced (bursts-spread line)
      (bursts-end line) (omega arith) near is.numbers (subst P (ap frames link-bursts) all)

  -- ---- the receiver of several stations

  module _ (behind : ℕ → ℕ) (near : (i : ℕ) → IsNear profile (behind i) (floors i)) where
    all-passed : PassesEach profile all_tags tags some rules lawful framing station (length line)
        (length link) pass-room (at_floors behind) floors ds
    all-passed = passes-each profile all_tags tags some rules lawful framing station (length line)
        (length link) pass-room (at_floors behind) floors 0 0 ds is.spaced (bursts-spread line)
        (bursts-end line) (omega arith) near is.numbers

    pub centre-passes : CentrePassesAll station profile all_tags rules floors line more rest behind
    centre-passes =
        let late : ℕ = delay profile in
        let left : ℕ = more - delay profile + rest in
        let long = link-length in
        let quiet = is.silence in
        let parts : length link ≡ late + (length line + left) = omega arith in
        let w = shared station rules (checking_box keys rules) in
        record {
          passes = ap (λ es. frames_in (notes_before (length link)
              (walked w (at_floors behind) es))) link-bursts ∙ all-passed.notes;
          comes = ap (λ es. laid (length link) (emitted_by w (at_floors behind) es)) link-bursts
              ∙ (ap (λ es. laid (length link) es) all-passed.emits
              ∙ (ap (λ k. laid k (map (later late) ds)) parts
              ∙ (laid-later late (length line + left) ds
              ∙ ap (λ l. silent late ++ l) (laid-line line left (length line + left) refl))));
        }
