-- The transmitter makes of spaced frames the packets of all of them.
use Rattle.frame_ending.proofs.{Spread.AreSpread, Spread.EndBy, Walks.before-early}
use Rattle.frame_ending.specs.Walk.{Noted, walked, emitted_by, notes_before}
use Rattle.frame_ending.proofs.LiveTicks.{live_ticks-whole}
use Rattle.frame_ending.specs.LiveBytes.{live_bytes, live_ticks, has_extra}
use Rattle.line_rules.specs.{Rules.Rules, RulesLaws.IsLawful}
use Rattle.link_format.{proofs.Profiles.length-trailer, specs.NumberedFrame.NumberedFrame}
use Rattle.link_format.specs.Profile.{Profile, HasTags, pause_len, trailer_len, trailer}
use Rattle.receiver_laws.specs.Untouched.{AreSpaced, numbered}
use Rattle.link_box.proofs.SealCausality.{judge_by, judged-is}
use Rattle.link_box.proofs.SealNumbers.{frames_in}
use Rattle.link_box.specs.Sealing.{SealState, FullNote, judged, state_by, note_by, forwarded}
use Rattle.link_box.specs.Sealing.{trailing, emission_by, sealer, Judgement.sealed_with}
use Rattle.std.proofs.Common.{◌≡◌, ◌∙◌, ◌==◌, ℕ, suc, ◌+◌, ◌<◌, ◌≤◌, nat_lt, ◌||◌, true, false, not}
use Rattle.std.proofs.Common.{List, [], ◌∷◌, ◌++◌, length, map, refl, sym, ap, subst, arith}
use Rattle.std.proofs.Common.{append_assoc, length-append}
use Rattle.std.proofs.lemmas.{Bool.le-ltb, Bool.ne_eqb, List.append-nil, List.length-map}
use Rattle.yasir_ticks.proofs.BurstsOfLaws.{contiguous-more}
use Rattle.yasir_ticks.specs.{Bursts.Burst, Bursts.end_of, BurstsOf.IsContiguous, Ticks.silent}
use Rattle.yasir_ticks.specs.declared.tick.Tick.{Tick, TheVariants.Byte}

-- the packet of a frame with a number, and the packets of several frames with consecutive numbers
-- after a floor
abbrev pub packet : Profile → Rules → ℕ → Burst → Burst
packet profile rules number d =
    forwarded rules d (trailing (trailer profile number (live_bytes rules d)))

abbrev pub packets : Profile → Rules → ℕ → List Burst → List Burst
packets profile rules floor [] = []
packets profile rules floor (d ∷ ds) =
    packet profile rules (suc floor) d ∷ packets profile rules (suc floor) ds

-- ---- bytes without silence between them

pub contiguous-bytes : (c : ℕ) (bytes : List ℕ) (x : List Tick) → 0 < c → IsContiguous c x
    → IsContiguous c (x ++ map (λ b. Byte b) bytes)
contiguous-bytes c [] x some contiguous =
    let P : List Tick → Type 0 = λ y. IsContiguous c y in
    subst P (sym (append-nil x)) contiguous
contiguous-bytes c (b ∷ bytes) x some contiguous =
    let P : List Tick → Type 0 = λ y. IsContiguous c y in
    subst P (append_assoc x (Byte b ∷ []) (map (λ b. Byte b) bytes))
    (contiguous-bytes c bytes (x ++ Byte b ∷ []) some (contiguous-more c x 0 b contiguous some))

contiguous-trailing : (c : ℕ) (bytes : List ℕ) (x : List Tick) → pause_len < c → 0 < length bytes
    → IsContiguous c x → IsContiguous c (x ++ trailing bytes)
contiguous-trailing c [] x wide some contiguous = absurd (omega arith)
contiguous-trailing c (b ∷ bytes) x wide some contiguous =
    let P : List Tick → Type 0 = λ y. IsContiguous c y in
    let y : List Tick = x ++ (silent pause_len ++ Byte b ∷ []) in
    let all : y ++ map (λ b. Byte b) bytes ≡ x ++ trailing (b ∷ bytes) =
    append_assoc x (silent pause_len ++ Byte b ∷ []) (map (λ b. Byte b) bytes) in
    subst P all
    (contiguous-bytes c bytes y (omega arith) (contiguous-more c x pause_len b contiguous wide))

pub length-trailing : (bytes : List ℕ) → length (trailing bytes) ≡ pause_len + length bytes
length-trailing bytes = let same = length-map bytes (λ (b : ℕ). Byte b) in omega arith

module _ (profile : Profile) (tags : HasTags profile) (some : 1 ≤ profile.word_len)
    (rules : Rules) (lawful : IsLawful rules) where
  -- ---- packets on the link

  pub packet-length : (number : ℕ) (d : Burst) → IsContiguous 4 d.body → has_extra rules d ≡ false
      → end_of (packet profile rules number d) ≡ end_of d + pause_len + trailer_len profile
  packet-length number d whole none =
      let bytes : List ℕ = trailer profile number (live_bytes rules d) in
      let live = ap length (live_ticks-whole rules lawful d whole none) in
      let long = length-trailer profile tags number (live_bytes rules d) in
      let tail = length-trailing bytes in
      let all = length-append (live_ticks rules d) (trailing bytes) in
      omega arith

  pub packet-contiguous : (number : ℕ) (d : Burst) → IsContiguous 4 d.body
      → has_extra rules d ≡ false → IsContiguous 4 (packet profile rules number d).body
  packet-contiguous number d whole none =
      let bytes : List ℕ = trailer profile number (live_bytes rules d) in
      let P : List Tick → Type 0 = λ x. IsContiguous 4 (x ++ trailing bytes) in
      let long = length-trailer profile tags number (live_bytes rules d) in
      subst P (sym (live_ticks-whole rules lawful d whole none))
      (contiguous-trailing 4 bytes d.body (omega arith) (omega arith) whole)

  pub packets-spread : (floor n k : ℕ) (ds : List Burst) → AreSpaced profile rules n ds
      → AreSpread 4 k ds → AreSpread 4 n (packets profile rules floor ds)
  packets-spread floor n k [] spaced spread = tt
  packets-spread floor n k (d ∷ ds) spaced spread =
      let P : ℕ → Type 0 = λ i. AreSpread 4 (i + 4) (packets profile rules (suc floor) ds) in (
        spaced.0,
        packet-contiguous (suc floor) d spread.1 spaced.1,
        subst P (sym (packet-length (suc floor) d spread.1 spaced.1))
            (packets-spread (suc floor) (end_of d + pause_len + trailer_len profile + 4)
            (end_of d + 4) ds spaced.3 spread.2),
      )

  pub packets-end : (floor n k m : ℕ) (ds : List Burst) → AreSpaced profile rules n ds
      → AreSpread 4 k ds → EndBy m ds
      → EndBy (m + pause_len + trailer_len profile) (packets profile rules floor ds)
  packets-end floor n k m [] spaced spread ends = tt
  packets-end floor n k m (d ∷ ds) spaced spread ends =
      let long = packet-length (suc floor) d spread.1 spaced.1 in
      let end = ends.0 in (
        omega arith,
        packets-end (suc floor) (end_of d + pause_len + trailer_len profile + 4) (end_of d + 4) m
            ds spaced.3 spread.2 ends.1,
      )

  -- ---- the transmitter seals each

  pub seals : (s : SealState) (d : Burst) → s.earliest_start ≤ d.start → has_extra rules d ≡ false
      → rules.is_frame (live_bytes rules d) ≡ true → s.floor < profile.limit
      → judged profile rules s d ≡ sealed_with (suc s.floor)
  seals s d late none framed within =
      let early : nat_lt d.start s.earliest_start ≡ false = le-ltb d.start s.earliest_start late in
      let wrong : (has_extra rules d || not (rules.is_frame (live_bytes rules d))) ≡ false =
      ap (λ x. x || not (rules.is_frame (live_bytes rules d))) none ∙ ap not framed in
      let last : (s.floor == profile.limit) ≡ false =
      ne_eqb s.floor profile.limit (λ same. omega arith) in
      judged-is profile rules s d
      ∙ (ap (λ e. judge_by e (has_extra rules d || not (rules.is_frame (live_bytes rules d)))
      (s.floor == profile.limit) (suc s.floor)) early
      ∙ (ap (λ e. judge_by false e (s.floor == profile.limit) (suc s.floor)) wrong
      ∙ ap (λ e. judge_by false false e (suc s.floor)) last))

  module _ (m last : ℕ) (after : m + 4 ≤ last) where
    -- what the transmitter emits from a state on, and the frames that it notes
    pub record SealsAll (s : SealState) (ds : List Burst) : Type 0 where
      pub emits : emitted_by (sealer profile rules) s ds ≡ packets profile rules s.floor ds
      pub notes : frames_in (notes_before last (walked (sealer profile rules) s ds))
          ≡ numbered rules s.floor ds

    pub seals-all : (s : SealState) (n k : ℕ) (ds : List Burst) → AreSpaced profile rules n ds
        → AreSpread 4 k ds → EndBy m ds → s.earliest_start ≤ n
        → s.floor + length ds ≤ profile.limit → SealsAll s ds
    seals-all s n k [] spaced spread ends late numbers = record { emits = refl; notes = refl }
    seals-all s n k (d ∷ ds) spaced spread ends late numbers =
        let from = spaced.0 in
        let is = seals s d (omega arith) spaced.1 spaced.2 (omega arith) in
        let end = ends.0 in
        let next : SealState = state_by profile rules s d (sealed_with (suc s.floor)) in
        let note : Noted FullNote = record {
          tick = end_of d + 3;
          note = note_by rules d (sealed_with (suc s.floor));
        } in
        let live = ap length (live_ticks-whole rules lawful d spread.1 spaced.1) in
        let rest : SealsAll next ds =
        seals-all next (end_of d + pause_len + trailer_len profile + 4) (end_of d + 4) ds spaced.3
        spread.2 ends.1 (omega arith) (omega arith) in
        let soon : end_of d + 3 < last = omega arith in
        record {
          emits = ap (λ j. emission_by profile rules d j
              ++ emitted_by (sealer profile rules) (state_by profile rules s d j) ds) is
              ∙ ap (λ l. packet profile rules (suc s.floor) d ∷ l) rest.emits;
          notes = ap (λ j. let noted : Noted FullNote =
              record { tick = end_of d + 3; note = note_by rules d j } in
              frames_in (notes_before last
              (noted ∷ walked (sealer profile rules) (state_by profile rules s d j) ds))) is
              ∙ (ap frames_in (before-early last note (walked (sealer profile rules) next ds) soon)
              ∙ ap (λ l. let f : NumberedFrame = record {
                number = suc s.floor;
                start = d.start;
                frame = live_bytes rules d;
              } in f ∷ l) rest.notes);
        }
