-- What the receiver makes of the packets of spaced frames: each passes and leaves as it came.
use Rattle.frame_ending.proofs.{Spread.AreSpread, Spread.EndBy, Walks.before-early}
use Rattle.frame_ending.specs.{Laid.later, Walk.Noted, Walk.walked, Walk.emitted_by, Walk.notes_before}
use Rattle.frame_ending.proofs.{BurstSteps.live-le, LiveTicks.live_ticks-whole}
use Rattle.frame_ending.proofs.Pauses.{ended, contiguous-ends, before_pause-paused}
use Rattle.frame_ending.proofs.Pauses.{before_pause-goes_on, before_pause-whole, up_to_byte-append}
use Rattle.frame_ending.specs.LiveBytes.{before_pause, has_pause, up_to_byte, within_room}
use Rattle.frame_ending.specs.LiveBytes.{live_bytes, live_ticks, has_extra}
use Rattle.line_rules.specs.{Rules.Rules, RulesLaws.IsLawful, RulesLaws.IsFramed}
use Rattle.link_format.{proofs.Profiles.length-trailer, specs.NumberedFrame.NumberedFrame}
use Rattle.link_format.specs.Profile.{Profile, HasTags, pause_len, trailer_len, trailer, words}
use Rattle.{link_format.specs.Profile.delay, link_box.proofs.Packets.packet-passes}
use Rattle.link_box.specs.Checking.{FullNote, trailer_tick, note_tick, state_by, note_by}
use Rattle.link_box.specs.{Checking.checker, Emissions.delayed, Emissions.emission_by}
use Rattle.link_box.specs.Verdicts.{CheckState, Verdict, after_live, checked}
use Rattle.{link_box.specs.Verdicts.Verdict.passed_with, receiver_laws.proofs.Notes.frames_in}
use Rattle.receiver_laws.proofs.Packing.{packet, packets, length-trailing}
use Rattle.receiver_laws.specs.Untouched.{AreSpaced, numbered}
use Rattle.link_box.specs.Sealing.{trailing}
use Rattle.std.proofs.Common.{◌≡◌, ◌∙◌, ℕ, suc, ◌+◌, ◌<◌, ◌≤◌, true, false, List, [], ◌∷◌, ◌++◌}
use Rattle.std.proofs.Common.{length, map, drop, take, refl, sym, ap, subst, arith, ⊎_elim}
use Rattle.std.proofs.Math.{Nat.one-le-pow, Seq.drop-append_seam}
use Rattle.std.proofs.lemmas.{Bool.cases_Bool, List.append-nil, List.take_all}
use Rattle.yasir_ticks.specs.{Bursts.Burst, Bursts.end_of, BurstsOf.IsContiguous, Ticks.bytes_in}
use Rattle.yasir_ticks.specs.declared.tick.Tick.{Tick, TheVariants.Silent, TheVariants.Byte}

-- ---- what comes before a pause stays, whatever follows the pause

before_pause-trailing : (w : List Tick) (a : ℕ) (y : List Tick)
    → before_pause (ended w a ++ (Silent ∷ Silent ∷ y)) ≡ before_pause (ended w a)
unfolding before_pause
before_pause-trailing w a y =
    ⊎_elim
    (λ paused. before_pause-paused w a (Silent ∷ Silent ∷ y) paused)
    (λ none. before_pause-goes_on w a (Silent ∷ Silent ∷ y) none
    ∙ (append-nil (ended w a) ∙ sym (before_pause-whole w a none)))
    (cases_Bool (has_pause (ended w a)))

module _ (profile : Profile) (tags : HasTags profile) (some : 1 ≤ profile.word_len)
    (rules : Rules) (lawful : IsLawful rules) (framing : IsFramed rules) where
  -- ---- one packet

  module _ (number : ℕ) (d : Burst) (whole : IsContiguous 4 d.body)
      (none : has_extra rules d ≡ false)
    where
      abbrev bytes : List ℕ
      bytes = trailer profile number (live_bytes rules d)

      abbrev its : Burst
      its = packet profile rules number d

      ticks : live_ticks rules d ≡ d.body
      ticks = live_ticks-whole rules lawful d whole none

      pub packet-bytes : live_bytes rules its ≡ live_bytes rules d
      packet-bytes =
          let last = contiguous-ends 4 d.body whole in
          let P : List Tick → Type 0 = λ x. before_pause (x ++ trailing bytes) ≡ before_pause x in
          let same : before_pause (d.body ++ trailing bytes) ≡ before_pause d.body =
          subst P (sym last.2) (before_pause-trailing last.0 last.1
          (Silent ∷ map (λ b. Byte b) bytes)) in
          ap (λ x. within_room rules (bytes_in (before_pause (x ++ trailing bytes)))) ticks
          ∙ ap (λ x. within_room rules (bytes_in x)) same

      pub packet-ticks : live_ticks rules its ≡ d.body
      packet-ticks =
          ap (λ h. up_to_byte (length h) (live_ticks rules d ++ trailing bytes)) packet-bytes
          ∙ (ap (λ x. up_to_byte (length (live_bytes rules d)) (x ++ trailing bytes)) ticks
          ∙ (up_to_byte-append (length (live_bytes rules d)) d.body (trailing bytes)
          (live-le rules lawful d) ∙ ticks))

      pub packet-after : after_live rules its ≡ trailing bytes
      packet-after =
          ap (λ x. drop (length x) (live_ticks rules d ++ trailing bytes))
          (packet-ticks ∙ sym ticks)
          ∙ drop-append_seam (live_ticks rules d) (trailing bytes)

      pub passes : (s : CheckState) → rules.is_frame (live_bytes rules d) ≡ true
          → s.earliest_start ≤ d.start → s.floor < number → number ≤ s.floor + words profile
          → number ≤ profile.limit → checked profile rules s its ≡ passed_with number
      passes s framed free above near within =
          let n : ℕ = pause_len + trailer_len profile in
          let long = length-trailer profile tags number (live_bytes rules d) in
          let all = length-trailing bytes in
          packet-passes profile tags rules framing s its number (record {
            framed = ap rules.is_frame packet-bytes ∙ framed;
            trailed = ap (λ x. take n x) packet-after
                ∙ (take_all n (trailing bytes) (omega arith)
                ∙ ap (λ h. trailing (trailer profile number h)) (sym packet-bytes));
            free = free;
            above = above;
            near = near;
            within = within;
          })

  -- ---- all packets

  module _ (m last : ℕ) (after : m + pause_len + trailer_len profile ≤ last) where
    pub record PassesAll (s : CheckState) (floor : ℕ) (ds : List Burst) : Type 0 where
      pub emits : emitted_by (checker profile rules) s (packets profile rules floor ds)
          ≡ map (later (delay profile)) ds
      pub notes : frames_in
          (notes_before last (walked (checker profile rules) s (packets profile rules floor ds)))
          ≡ numbered rules floor ds

    pub passes-all : (s : CheckState) (floor n k : ℕ) (ds : List Burst)
        → AreSpaced profile rules n ds → AreSpread 4 k ds → EndBy m ds → s.earliest_start ≤ n
        → s.floor ≤ floor → floor < s.floor + words profile
        → floor + length ds ≤ profile.limit → PassesAll s floor ds
    passes-all s floor n k [] spaced spread ends late low near numbers =
        record { emits = refl; notes = refl }
    passes-all s floor n k (d ∷ ds) spaced spread ends late low near numbers =
        let p : Burst = packet profile rules (suc floor) d in
        let from = spaced.0 in
        let is = passes (suc floor) d spread.1 spaced.1 s spaced.2 (omega arith) (omega arith)
        (omega arith) (omega arith) in
        let v : Verdict = passed_with (suc floor) in
        let end = ends.0 in
        let next : CheckState = state_by profile rules s p v in
        let note : Noted FullNote =
        record { tick = note_tick profile rules p v; note = note_by rules p v } in
        let live = ap length (packet-ticks (suc floor) d spread.1 spaced.1) in
        let many : 1 ≤ words profile = one-le-pow profile.word_len 256 (omega arith) in
        let rest : PassesAll next (suc floor) ds =
        passes-all next (suc floor) (end_of d + pause_len + trailer_len profile + 4) (end_of d + 4)
        ds spaced.3 spread.2 ends.1 (omega arith) (omega arith) (omega arith) (omega arith) in
        let soon : trailer_tick profile rules p < last = omega arith in
        let others : List Burst = packets profile rules (suc floor) ds in
        record {
          emits = ap (λ w. emission_by profile rules p w
              ++ emitted_by (checker profile rules) (state_by profile rules s p w) others) is
              ∙ (ap (λ x. delayed profile p x ∷ emitted_by (checker profile rules) next others)
              (packet-ticks (suc floor) d spread.1 spaced.1)
              ∙ ap (λ l. later (delay profile) d ∷ l) rest.emits);
          notes = ap (λ w. let noted : Noted FullNote =
              record { tick = note_tick profile rules p w; note = note_by rules p w } in
              frames_in (notes_before last
              (noted ∷ walked (checker profile rules) (state_by profile rules s p w) others))) is
              ∙ (ap frames_in
              (before-early last note (walked (checker profile rules) next others) soon)
              ∙ (ap (λ h. let f : NumberedFrame = record {
                number = suc floor;
                start = d.start;
                frame = h;
              } in f ∷ frames_in (notes_before last (walked (checker profile rules) next others)))
              (packet-bytes (suc floor) d spread.1 spaced.1)
              ∙ ap (λ l. let f : NumberedFrame = record {
                number = suc floor;
                start = d.start;
                frame = live_bytes rules d;
              } in f ∷ l) rest.notes));
        }
