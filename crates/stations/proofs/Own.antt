-- What the box of one station makes of a link of several: it passes the frames that name its own
-- station.
use Rattle.frame_ending.proofs.{Spread.AreSpread, Spread.EndBy, Walks.before-early}
use Rattle.frame_ending.proofs.{LiveTicks.live_end-whole}
use Rattle.frame_ending.specs.Walk.{Noted, walked, notes_before}
use Rattle.frame_ending.specs.LiveBytes.{live_bytes, live_end}
use Rattle.line_rules.specs.{Rules.Rules, Rules.lacking_of, RulesLaws.IsLawful, RulesLaws.IsFramed}
use Rattle.link_box.specs.Checking.{FullNote, checker, note_by, note_tick, state_by, start_after}
use Rattle.link_box.specs.Emissions.{owed}
use Rattle.link_box.specs.Sealing.{trailing, forwarded}
use Rattle.link_box.specs.Verdicts.{CheckState, Verdict, checked}
use Rattle.link_box.specs.Verdicts.Verdict.{passed_with, refused, dropped}
use Rattle.link_format.specs.NumberedFrame.{NumberedFrame}
use Rattle.link_format.specs.Profile.{Profile, HasTags, pause_len, trailer_len, words}
use Rattle.receiver_laws.proofs.Delivering.{packet-bytes, packet-ticks, passes}
use Rattle.receiver_laws.proofs.InStep.{frame-whole}
use Rattle.receiver_laws.proofs.{Notes.frames_in, Notes.unnoted}
use Rattle.receiver_laws.proofs.Packing.{packet}
use Rattle.receiver_laws.specs.Standing.{numbered_frame}
use Rattle.receiver_laws.specs.Untouched.{AreSpaced}
use Rattle.std.proofs.Common.{◌≡◌, ◌∙◌, ℕ, ◌+◌, ◌<◌, ◌≤◌, List, [], ◌∷◌, ◌++◌, length, refl}
use Rattle.std.proofs.Common.{sym, ap, subst, arith, ⊎_elim, if◌then◌else◌}
use Rattle.std.proofs.Math.{Nat.one-le-pow}
use Rattle.std.proofs.lemmas.Bool.{cases_eq, eq-eqb, ne_eqb}
use Rattle.std.proofs.lemmas.List.Elements.{All-head, All-tail}
use Rattle.std.specs.Int.{bytes_high_first}
use Rattle.std.specs.List.{All}
use Rattle.yasir_ticks.specs.{Bursts.Burst, Bursts.end_of}
use Rattle.stations.proofs.InTurn.{key-tags, packets_in_turn}
use Rattle.stations.specs.InTurn.{next_of, floors_past, numbered_in_turn, HaveNumbers, IsNear}
use Rattle.stations.specs.Shared.{named, of_station}
use Rattle.stations.specs.Table.{StationTags, profile_for, by_station}

module _ (profile : Profile) (all_tags : StationTags)
    (tags : (i : ℕ) → HasTags (profile_for profile all_tags i)) (some : 1 ≤ profile.word_len)
    (rules : Rules) (lawful : IsLawful rules) (framing : IsFramed rules)
    (station : List ℕ → ℕ) (i m last : ℕ)
    (after : m + pause_len + trailer_len profile ≤ last) where
  abbrev keys : Profile
  keys = by_station profile all_tags station

  abbrev own : Profile
  own = profile_for profile all_tags i

  abbrev all_packets : (ℕ → ℕ) → List Burst → List Burst
  all_packets floors ds =
      packets_in_turn profile all_tags tags some rules lawful framing station floors ds

  -- the packet of a frame that names the station has the tag of its key
  same-packet : (d : Burst) (number : ℕ) → named station rules d ≡ i
      → packet keys rules number d ≡ packet own rules number d
  same-packet d number same =
      ap (λ j. forwarded rules d (trailing (bytes_high_first profile.word_len number
      ++ all_tags j number (live_bytes rules d)))) same

  abbrev passed_of : CheckState → List Burst → List NumberedFrame
  passed_of s ds = frames_in (notes_before last (walked (checker own rules) s ds))

  abbrev AreOwn : List NumberedFrame → Type 0
  AreOwn frames = All (λ (f : NumberedFrame). station f.frame ≡ i) frames

  -- ---- a frame that names the station

  module _ (s : CheckState) (p : Burst) (ds : List Burst) where
    -- the frames that pass, with this verdict on the first burst
    abbrev first_by : Verdict → List NumberedFrame
    first_by v = frames_in (notes_before last
        (record { tick = note_tick own rules p v; note = note_by rules p v }
        ∷ walked (checker own rules) (state_by own rules s p v) ds))

    passed-first : (number : ℕ) → live_end rules p + pause_len + trailer_len profile ≤ last
        → first_by (passed_with number)
        ≡ numbered_frame rules p number ∷ passed_of (state_by own rules s p (passed_with number)) ds
    passed-first number ends =
        let told : Noted FullNote = record {
          tick = note_tick own rules p (passed_with number);
          note = note_by rules p (passed_with number);
        } in
        let early : told.tick < last = omega arith in
        ap frames_in (before-early last told
        (walked (checker own rules) (state_by own rules s p (passed_with number)) ds) early)

    -- a frame that doesn't name it passes nothing, and the receiver is free again in time
    other-first : (v : Verdict) (n : ℕ) → (station (live_bytes rules p) ≡ i → ⊥)
        → live_end rules p + pause_len + trailer_len profile ≤ last
        → s.earliest_start ≤ n → start_after own rules p + owed rules p ≤ n
        → AreOwn (first_by v)
        → (first_by v ≡ passed_of (state_by own rules s p v) ds)
        × ((state_by own rules s p v).floor ≡ s.floor)
        × ((state_by own rules s p v).earliest_start ≤ n)
    other-first (passed_with number) n other ends free left all =
        let P : List NumberedFrame → Type 0 = λ l. AreOwn l in
        absurd (other (All-head (λ (f : NumberedFrame). station f.frame ≡ i)
        (numbered_frame rules p number)
        (passed_of (state_by own rules s p (passed_with number)) ds)
        (subst P (passed-first number ends) all)))
    other-first (refused why) n other ends free left all =
        let told : Noted FullNote = record {
          tick = note_tick own rules p (refused why);
          note = note_by rules p (refused why);
        } in (
          unnoted last told
              (walked (checker own rules) (state_by own rules s p (refused why)) ds) refl,
          refl,
          left,
        )
    other-first (dropped why) n other ends free left all =
        let told : Noted FullNote = record {
          tick = note_tick own rules p (dropped why);
          note = note_by rules p (dropped why);
        } in (unnoted last told (walked (checker own rules) s ds) refl, refl, free)

  pub passes-own : (s : CheckState) (floors : ℕ → ℕ) (n k : ℕ) (ds : List Burst)
      → AreSpaced profile rules n ds → AreSpread 4 k ds → EndBy m ds → s.earliest_start ≤ n
      → IsNear profile s.floor (floors i) → HaveNumbers station rules profile.limit floors ds
      → AreOwn (passed_of s (all_packets floors ds))
      → passed_of s (all_packets floors ds)
      ≡ of_station station i (numbered_in_turn station rules floors ds)
  passes-own s floors n k [] spaced spread ends free near numbers all = refl
  passes-own s floors n k (d ∷ ds) spaced spread ends free near numbers all =
      let number : ℕ = next_of station rules floors d in
      let past : ℕ → ℕ = floors_past station rules floors d in
      let keyed : HasTags keys =
      key-tags profile all_tags tags some rules lawful framing station in
      let p : Burst = packet keys rules number d in
      let others : List Burst = all_packets past ds in
      let frame : NumberedFrame = numbered_frame rules d number in
      let later : List NumberedFrame = numbered_in_turn station rules past ds in
      let mine : List NumberedFrame = of_station station i later in
      let next : ℕ = end_of d + pause_len + trailer_len profile + 4 in
      let bytes : live_bytes rules p ≡ live_bytes rules d =
      packet-bytes keys keyed some rules lawful framing number d spread.1 spaced.1 in
      let live = ap length
      (packet-ticks keys keyed some rules lawful framing number d spread.1 spaced.1) in
      let whole = live_end-whole rules lawful d spread.1 spaced.1 in
      let from = spaced.0 in
      let end = ends.0 in
      let fits : live_end rules p + pause_len + trailer_len profile ≤ last = omega arith in
      let lacks : owed rules p ≡ 0 =
      ap (λ x. lacking_of rules x) bytes
      ∙ frame-whole own (tags i) some rules lawful framing (live_bytes rules d) spaced.2 in
      let low = near.not_above in
      let high = near.near in
      let left = numbers.0 in
      ⊎_elim
      (λ same.
      let at : floors (named station rules d) ≡ floors i = ap floors same in
      let v : Verdict = passed_with number in
      let after_it : CheckState = state_by own rules s p v in
      let is : checked own rules s p ≡ v =
      ap (λ x. checked own rules s x) (same-packet d number same)
      ∙ passes own (tags i) some rules lawful framing number d spread.1 spaced.1 s spaced.2
      (omega arith) (omega arith) (omega arith) (omega arith) in
      let many : 1 ≤ words profile = one-le-pow profile.word_len 256 (omega arith) in
      let past_at : past i ≡ number =
      ap (λ b. if b then number else floors i) (eq-eqb (named station rules d) i same) in
      let first : passed_of s (p ∷ others) ≡ numbered_frame rules p number
      ∷ passed_of after_it others =
      ap (λ v. first_by s p others v) is ∙ passed-first s p others number fits in
      let rest : passed_of after_it others ≡ mine =
      passes-own after_it past next (end_of d + 4) ds spaced.3 spread.2 ends.1 (omega arith)
      (record { not_above = omega arith; near = omega arith }) numbers.1
      (All-tail (λ (f : NumberedFrame). station f.frame ≡ i) (numbered_frame rules p number)
      (passed_of after_it others) (subst (λ l. AreOwn l) first all)) in
      first
      ∙ (ap (λ x. let f : NumberedFrame = record { number = number; start = d.start; frame = x } in
      f ∷ passed_of after_it others) bytes
      ∙ (ap (λ l. frame ∷ l) rest
      ∙ sym (ap (λ b. if b then frame ∷ mine else mine) (eq-eqb (named station rules d) i same)))))
      (λ other.
      let v : Verdict = checked own rules s p in
      let apart : station (live_bytes rules p) ≡ i → ⊥ = λ names.
      other (sym (ap station bytes) ∙ names) in
      let gone = other-first s p others v next apart fits (omega arith) (omega arith) all in
      let floor = gone.1 in
      let past_at : past i ≡ floors i =
      ap (λ b. if b then number else floors i) (ne_eqb (named station rules d) i other) in
      let rest : passed_of (state_by own rules s p v) others ≡ mine =
      passes-own (state_by own rules s p v) past next (end_of d + 4) ds spaced.3 spread.2 ends.1
      gone.2 (record { not_above = omega arith; near = omega arith }) numbers.1
      (subst (λ l. AreOwn l) gone.0 all) in
      gone.0
      ∙ (rest
      ∙ sym (ap (λ b. if b then frame ∷ mine else mine) (ne_eqb (named station rules d) i other))))
      (cases_eq (named station rules d) i)
