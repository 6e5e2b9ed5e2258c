-- The receiver's walk over packets and the transmitter's walk over the bursts of these packets,
-- side by side: each packet finds the receiver free, with a number above the receiver's floor.
use Rattle.frame_ending.proofs.{Spread.AreSpread, Walks.before-early}
use Rattle.frame_ending.specs.Walk.{Noted, walked, emitted_by, notes_before, state_after}
use Rattle.frame_ending.{proofs.LiveTicks.live_end-whole, specs.LiveBytes.live_bytes}
use Rattle.{frame_ending.specs.LiveBytes.has_extra, line_rules.specs.Rules.Rules}
use Rattle.line_rules.specs.{Rules.lacking_of, Rules.lacking_by, RulesLaws.IsLawful, RulesLaws.IsFramed}
use Rattle.link_format.proofs.Profiles.{length-trailer, word_of-trailer}
use Rattle.link_format.specs.{NumberedFrame.last_number, Profile.Profile}
use Rattle.link_format.specs.Profile.{HasTags, pause_len, trailer_len, trailer, words, word_of}
use Rattle.link_box.proofs.Passing.{passed-passing, number-within}
use Rattle.link_box.proofs.Settling.{trailer_tick-soon}
use Rattle.link_box.specs.Checking.{FullNote, state_by, note_by, note_tick, checker}
use Rattle.link_box.specs.{Checking.start_after, Emissions.owed}
use Rattle.link_box.specs.Verdicts.{CheckState, Verdict, trailer_of, checked}
use Rattle.link_box.specs.Verdicts.Verdict.{passed_with, refused, dropped}
use Rattle.receiver_laws.proofs.Delivering.{packet-bytes, packet-ticks, packet-after}
use Rattle.receiver_laws.proofs.{Notes.frames_in, Notes.unnoted, Packing.packet}
use Rattle.receiver_laws.proofs.Sending.{IsSealed, sealed-is}
use Rattle.receiver_laws.proofs.Standing.{byte_ticks, bytes_in-byte_ticks}
use Rattle.link_box.specs.Sealing.{SealState, Judgement, judged, sealer, state_by as seal_by}
use Rattle.link_box.specs.Sealing.{emission_by as sent_by}
use Rattle.link_box.specs.Sealing.Judgement.{sealed_with, unsealed}
use Rattle.link_box.specs.declared.seal_note.UnsealedWhy.TheVariants.{Early}
use Rattle.sequence_journal.{proofs.NumberLaws.least-is, specs.Numbers.least_with}
use Rattle.std.proofs.Common.{◌≡◌, ◌∙◌, ◌⊎◌, ℕ, ◌+◌, ◌-◌, ◌%◌, ◌<◌, ◌≤◌, List, [], ◌∷◌, ◌++◌}
use Rattle.std.proofs.Common.{length, take, drop, refl, sym, ap, subst, arith, ⊎_elim, true, false}
use Rattle.std.proofs.Math.Nat.{mod-lt, one-le-pow}
use Rattle.std.proofs.lemmas.{Bool.eqb-false, List.take_all, List.length-map}
use Rattle.yasir_ticks.specs.{Bursts.Burst, Bursts.end_of, Bursts.AreClosed, BurstsOf.IsContiguous}
use Rattle.yasir_ticks.specs.{Ticks.bytes_in, declared.tick.Tick.TheVariants.Byte}

-- ---- the receiver's floor so far

module _ (profile : Profile) (rules : Rules) where
  abbrev note_of : Burst → Verdict → Noted FullNote
  note_of d v = record { tick = note_tick profile rules d v; note = note_by rules d v }

  floor-step : (m : ℕ) (s : CheckState) (d : Burst) (v : Verdict) (notes : List (Noted FullNote))
      (last : ℕ) → end_of d + 4 ≤ m
      → last_number (state_by profile rules s d v).floor (frames_in (notes_before m notes)) ≡ last
      → last_number s.floor (frames_in (notes_before m (note_of d v ∷ notes))) ≡ last
  floor-step m s d (passed_with n) notes last closed rest =
      let soon = trailer_tick-soon profile rules d in
      let early : (note_of d (passed_with n)).tick < m = omega arith in
      ap (λ l. last_number s.floor (frames_in l))
      (before-early m (note_of d (passed_with n)) notes early) ∙ rest
  floor-step m s d v notes last closed rest =
      ap (λ l. last_number s.floor l) (unnoted m (note_of d v) notes refl) ∙ rest

  -- Once all bursts are closed, the floor so far is that of the state after them.
  pub floor-so-far : (m : ℕ) (s : CheckState) (ds : List Burst) → AreClosed 4 m ds
      → last_number s.floor (frames_in (notes_before m (walked (checker profile rules) s ds)))
      ≡ (state_after (checker profile rules) s ds).floor
  floor-so-far m s [] closed = refl
  floor-so-far m s (d ∷ ds) closed =
      let v : Verdict = checked profile rules s d in
      floor-step m s d v (walked (checker profile rules) (state_by profile rules s d v) ds)
      (state_after (checker profile rules) (state_by profile rules s d v) ds).floor closed.0
      (floor-so-far m (state_by profile rules s d v) ds closed.1)

  -- Holds if all of each of these bursts, and the bytes that it lacks, has left by tick b.
  abbrev pub HaveLeft : ℕ → List Burst → Type 0
  HaveLeft b [] = Unit {0}
  HaveLeft b (d ∷ ds) = (start_after profile rules d + owed rules d ≤ b) × HaveLeft b ds

  pub free-step : (b : ℕ) (s : CheckState) (d : Burst) (v : Verdict) → s.earliest_start ≤ b
      → start_after profile rules d + owed rules d ≤ b
      → (state_by profile rules s d v).earliest_start ≤ b
  free-step b s d (passed_with n) free left = omega arith
  free-step b s d (refused why) free left = left
  free-step b s d (dropped why) free left = free

  pub free-by : (b : ℕ) (s : CheckState) (ds : List Burst) → s.earliest_start ≤ b → HaveLeft b ds
      → (state_after (checker profile rules) s ds).earliest_start ≤ b
  free-by b s [] free left = free
  free-by b s (d ∷ ds) free left =
      let v : Verdict = checked profile rules s d in
      free-by b (state_by profile rules s d v) ds (free-step b s d v free left.0) left.1

  -- ---- the transmitter

  floor-limit : (s : SealState) (d : Burst) (j : Judgement) → judged profile rules s d ≡ j
      → s.floor ≤ profile.limit → (seal_by profile rules s d j).floor ≤ profile.limit
  floor-limit s d (sealed_with n) is within =
      let its : IsSealed profile rules s d n = sealed-is profile rules s d n is in
      let other = eqb-false s.floor profile.limit its.left in
      let next = its.next in
      omega arith
  floor-limit s d (unsealed why) is within = within

  -- The transmitter's floor stays within the limit.
  pub floor-within : (s : SealState) (ds : List Burst) → s.floor ≤ profile.limit
      → (state_after (sealer profile rules) s ds).floor ≤ profile.limit
  floor-within s [] within = within
  floor-within s (d ∷ ds) within =
      let j : Judgement = judged profile rules s d in
      floor-within (seal_by profile rules s d j) ds (floor-limit s d j refl within)

  -- Holds if this burst is early, or sealed with a number above k.
  abbrev pub IsSealedAbove : ℕ → SealState → Burst → Type 0
  IsSealedAbove k s d = (judged profile rules s d ≡ unsealed Early)
      ⊎ ((n : ℕ) × (judged profile rules s d ≡ sealed_with n) × (k < n))

  abbrev pub AreSealedAbove : ℕ → SealState → List Burst → Type 0
  AreSealedAbove k s [] = Unit {0}
  AreSealedAbove k s (d ∷ ds) = IsSealedAbove k s d
      × AreSealedAbove k (seal_by profile rules s d (judged profile rules s d)) ds

  -- If each of these bursts is early or sealed with a number above k, and the burst after them is
  -- sealed with such a number, the transmitter's floor before them isn't below k.
  pub first-above : (k : ℕ) (s : SealState) (ds : List Burst) (d : Burst) (n : ℕ)
      → AreSealedAbove k s ds
      → judged profile rules (state_after (sealer profile rules) s ds) d ≡ sealed_with n → k < n
      → k ≤ s.floor
  first-above k s [] d n above is over =
      let next = (sealed-is profile rules s d n is).next in
      omega arith
  first-above k s (x ∷ ds) d n above is over =
      ⊎_elim
      (λ early.
      let P : Judgement → Type 0 = λ j. AreSealedAbove k (seal_by profile rules s x j) ds in
      let Q : Judgement → Type 0 = λ j. judged profile rules
      (state_after (sealer profile rules) (seal_by profile rules s x j) ds) d ≡ sealed_with n in
      first-above k s ds d n (subst P early above.1) (subst Q early is) over)
      (λ some.
      let next = (sealed-is profile rules s x some.0 some.1).next in
      let low = some.2 in
      omega arith)
      above.0

-- ---- both side by side

-- Holds if the receiver isn't ahead of the transmitter: its floor isn't above the transmitter's,
-- and from tick `late` on it is free whenever the transmitter may seal a burst.
pub record InStep (late : ℕ) (t : SealState) (s : CheckState) : Type 0 where
  pub below : s.floor ≤ t.floor
  pub free : (x : ℕ) → late ≤ x → t.earliest_start ≤ x → s.earliest_start ≤ x

module _ (profile : Profile) (tags : HasTags profile) (some : 1 ≤ profile.word_len)
    (rules : Rules) (lawful : IsLawful rules) (framing : IsFramed rules) where
  -- The trailer of a packet is that of its number and frame.
  packet-trailer : (n : ℕ) (d : Burst) (whole : IsContiguous 4 d.body)
      (none : has_extra rules d ≡ false)
      → trailer_of profile rules (packet profile rules n d)
      ≡ trailer profile n (live_bytes rules d)
  packet-trailer n d whole none =
      let bytes : List ℕ = trailer profile n (live_bytes rules d) in
      let long = length-map bytes (λ b. Byte b)
      ∙ length-trailer profile tags n (live_bytes rules d) in
      ap (λ x. bytes_in (take (trailer_len profile) (drop pause_len x)))
      (packet-after profile tags some rules lawful framing n d whole none)
      ∙ (ap bytes_in (take_all (trailer_len profile) (byte_ticks bytes) (omega arith))
      ∙ bytes_in-byte_ticks bytes)

  -- A packet can only pass with its own number, or with a lower one that has the same word.
  number-low : (s : CheckState) (n low : ℕ) (d : Burst) (whole : IsContiguous 4 d.body)
      (none : has_extra rules d ≡ false) → s.floor < n
      → checked profile rules s (packet profile rules n d) ≡ passed_with low → low ≤ n
  number-low s n low d whole none above is =
      let p : Burst = packet profile rules n d in
      let many : 0 < words profile = one-le-pow profile.word_len 256 (omega arith) in
      let least = least-is (words profile) s.floor (n % words profile) (mod-lt n many) in
      let number = number-within profile s.floor (trailer_of profile rules p) low
      (passed-passing profile rules s p low is).numbered in
      let same : low ≡ least_with (words profile) s.floor (n % words profile) =
      number.0
      ∙ ap (λ w. least_with (words profile) s.floor w)
      (ap (λ x. word_of profile x) (packet-trailer n d whole none)
      ∙ word_of-trailer profile n (live_bytes rules d)) in
      let under = least.least n above refl in
      omega arith

  -- A frame lacks no byte.
  pub frame-whole : (frame : List ℕ) → rules.is_frame frame ≡ true → lacking_of rules frame ≡ 0
  frame-whole frame framed =
      let size = framing.whole frame framed in
      ap (λ h. lacking_by h (rules.size frame - length frame)) (framing.good_header frame framed)
      ∙ omega arith

  module _ (late : ℕ) where
    step-by : (t : SealState) (s : CheckState) (d : Burst) (n : ℕ) (v : Verdict)
        → IsContiguous 4 d.body → judged profile rules t d ≡ sealed_with n → InStep late t s
        → checked profile rules s (packet profile rules n d) ≡ v
        → InStep late (seal_by profile rules t d (sealed_with n))
        (state_by profile rules s (packet profile rules n d) v)
    step-by t s d n (passed_with low) whole is step verdict =
        let its = sealed-is profile rules t d n is in
        let next = its.next in
        let below = step.below in
        let none = its.no_extra in
        let number = number-low s n low d whole none (omega arith) verdict in
        let ticks = ap length
        (packet-ticks profile tags some rules lawful framing n d whole none) in
        let end = live_end-whole rules lawful d whole none in
        record { below = number; free = λ x from after. omega arith }
    step-by t s d n (refused why) whole is step verdict =
        let its = sealed-is profile rules t d n is in
        let next = its.next in
        let below = step.below in
        let none = its.no_extra in
        let ticks = ap length
        (packet-ticks profile tags some rules lawful framing n d whole none) in
        let end = live_end-whole rules lawful d whole none in
        let lacks = ap (λ x. lacking_of rules x)
        (packet-bytes profile tags some rules lawful framing n d whole none)
        ∙ frame-whole (live_bytes rules d) its.framed in
        record { below = omega arith; free = λ x from after. omega arith }
    step-by t s d n (dropped why) whole is step verdict =
        let its = sealed-is profile rules t d n is in
        let next = its.next in
        let below = step.below in
        let end = live_end-whole rules lawful d whole its.no_extra in
        let begins = its.late in
        record {
          below = omega arith;
          free = λ x from after. step.free x from (omega arith);
        }

    -- The two boxes stay in step over packets.
    pub stay-in_step : (k n : ℕ) (t : SealState) (s : CheckState) (ds : List Burst)
        → AreSealedAbove profile rules k t ds → AreSpread 4 n ds → InStep late t s
        → InStep late (state_after (sealer profile rules) t ds)
        (state_after (checker profile rules) s (emitted_by (sealer profile rules) t ds))
    stay-in_step k n t s [] above spread step = step
    stay-in_step k n t s (d ∷ ds) above spread step =
        let P : Judgement → Type 0 = λ j. AreSealedAbove profile rules k
        (seal_by profile rules t d j) ds in
        let Q : Judgement → Type 0 = λ j. InStep late
        (state_after (sealer profile rules) (seal_by profile rules t d j) ds)
        (state_after (checker profile rules) s
        (sent_by profile rules d j
        ++ emitted_by (sealer profile rules) (seal_by profile rules t d j) ds)) in
        ⊎_elim
        (λ early. subst Q (sym early)
        (stay-in_step k (end_of d + 4) t s ds (subst P early above.1) spread.2 step))
        (λ some.
        let p : Burst = packet profile rules some.0 d in
        let v : Verdict = checked profile rules s p in
        subst Q (sym some.1)
        (stay-in_step k (end_of d + 4) (seal_by profile rules t d (sealed_with some.0))
        (state_by profile rules s p v) ds (subst P some.1 above.1) spread.2
        (step-by t s d some.0 v spread.1 some.1 step refl)))
        above.0
