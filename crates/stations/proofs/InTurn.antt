-- What the boxes of several stations make of spaced frames.
use Rattle.frame_ending.proofs.{Spread.AreSpread, Spread.EndBy, Walks.before-early}
use Rattle.frame_ending.proofs.LiveTicks.{live_end-whole}
use Rattle.frame_ending.specs.{Laid.later, Walk.Walker, Walk.Noted, Walk.walked}
use Rattle.frame_ending.specs.Walk.{emitted_by, notes_before}
use Rattle.frame_ending.specs.LiveBytes.{live_bytes, live_ticks}
use Rattle.line_rules.specs.{Rules.Rules, RulesLaws.IsLawful, RulesLaws.IsFramed}
use Rattle.link_box.proofs.SealNumbers.{frames_in as sealed_in_notes}
use Rattle.link_box.specs.Checking.{FullNote, note_by, note_tick, state_by, start_after}
use Rattle.link_box.specs.Checking.{passed_in}
use Rattle.link_box.specs.Emissions.{delayed, emission_by}
use Rattle.link_box.specs.Sealing.{FullNote as SealNote, judged, note_by as seal_note_by}
use Rattle.link_box.specs.Sealing.{emission_by as sent_by, Judgement.sealed_with, SealState}
use Rattle.link_box.specs.Sealing.{sealed_in, start_after as seal_start, state_by as seal_state}
use Rattle.link_box.specs.Verdicts.{CheckState, checked}
use Rattle.link_box.specs.Verdicts.Verdict.{passed_with}
use Rattle.link_format.specs.NumberedFrame.{NumberedFrame}
use Rattle.link_format.specs.Profile.{Profile, HasTags, pause_len, trailer_len, delay, words}
use Rattle.receiver_laws.proofs.Delivering.{packet-bytes, packet-ticks, passes}
use Rattle.receiver_laws.proofs.{Notes.frames_in}
use Rattle.receiver_laws.proofs.Packing.{packet, packet-length, packet-contiguous, seals}
use Rattle.receiver_laws.specs.Standing.{numbered_frame}
use Rattle.receiver_laws.specs.Untouched.{AreSpaced}
use Rattle.std.proofs.Common.{◌≡◌, ◌∙◌, ℕ, ◌+◌, ◌<◌, ◌≤◌, Bool, List, []}
use Rattle.std.proofs.Common.{◌∷◌, ◌++◌, length, map, refl, sym, ap, subst, arith, ⊎_elim}
use Rattle.std.proofs.Common.{if◌then◌else◌}
use Rattle.std.proofs.Math.{Nat.one-le-pow}
use Rattle.std.proofs.lemmas.Bool.{cases_eq, eq-eqb, ne_eqb}
use Rattle.yasir_ticks.specs.{Bursts.Burst, Bursts.end_of}
use Rattle.stations.specs.InTurn.{next_of, floors_past, numbered_in_turn, HaveNumbers, IsNear}
use Rattle.stations.specs.Shared.{SharedState, with_floor, named, its_state, shared}
use Rattle.stations.specs.Shared.{sealing_box, checking_box, floors_after}
use Rattle.stations.specs.Table.{StationTags, profile_for, by_station}

module _ (profile : Profile) (all_tags : StationTags)
    (tags : (i : ℕ) → HasTags (profile_for profile all_tags i)) (some : 1 ≤ profile.word_len)
    (rules : Rules) (lawful : IsLawful rules) (framing : IsFramed rules)
    (station : List ℕ → ℕ) where
  abbrev keys : Profile
  keys = by_station profile all_tags station

  pub key-tags : HasTags keys
  key-tags = record { sized = λ number frame. (tags (station frame)).sized number frame }

  -- the packets of these bursts
  abbrev pub packets_in_turn : (ℕ → ℕ) → List Burst → List Burst
  packets_in_turn floors [] = []
  packets_in_turn floors (d ∷ ds) = packet keys rules (next_of station rules floors d) d
      ∷ packets_in_turn (floors_past station rules floors d) ds

  pub in_turn-spread : (floors : ℕ → ℕ) (n k : ℕ) (ds : List Burst) → AreSpaced profile rules n ds
      → AreSpread 4 k ds → AreSpread 4 n (packets_in_turn floors ds)
  in_turn-spread floors n k [] spaced spread = tt
  in_turn-spread floors n k (d ∷ ds) spaced spread =
      let number : ℕ = next_of station rules floors d in
      let later : ℕ → ℕ = floors_past station rules floors d in
      let P : ℕ → Type 0 = λ i. AreSpread 4 (i + 4) (packets_in_turn later ds) in (
        spaced.0,
        packet-contiguous keys key-tags some rules lawful number d spread.1 spaced.1,
        subst P (sym (packet-length keys key-tags some rules lawful number d spread.1 spaced.1))
            (in_turn-spread later (end_of d + pause_len + trailer_len profile + 4) (end_of d + 4) ds
            spaced.3 spread.2),
      )

  pub in_turn-end : (floors : ℕ → ℕ) (n k m : ℕ) (ds : List Burst) → AreSpaced profile rules n ds
      → AreSpread 4 k ds → EndBy m ds
      → EndBy (m + pause_len + trailer_len profile) (packets_in_turn floors ds)
  in_turn-end floors n k m [] spaced spread ends = tt
  in_turn-end floors n k m (d ∷ ds) spaced spread ends =
      let number : ℕ = next_of station rules floors d in
      let long = packet-length keys key-tags some rules lawful number d spread.1 spaced.1 in
      let end = ends.0 in (
        omega arith,
        in_turn-end (floors_past station rules floors d)
            (end_of d + pause_len + trailer_len profile + 4) (end_of d + 4) m ds spaced.3 spread.2
            ends.1,
      )

  -- ---- the transmitter

  module _ (m last : ℕ) (after : m + 4 ≤ last) where
    abbrev sender : Walker SharedState SealNote
    sender = shared station rules (sealing_box keys rules)

    pub record SealsEach (s : SharedState) (ds : List Burst) : Type 0 where
      pub emits : emitted_by sender s ds ≡ packets_in_turn s.floors ds
      pub notes : sealed_in_notes (notes_before last (walked sender s ds))
          ≡ numbered_in_turn station rules s.floors ds

    pub seals-each : (s : SharedState) (n k : ℕ) (ds : List Burst) → AreSpaced profile rules n ds
        → AreSpread 4 k ds → EndBy m ds → s.free_from ≤ n
        → HaveNumbers station rules profile.limit s.floors ds → SealsEach s ds
    seals-each s n k [] spaced spread ends late numbers = record { emits = refl; notes = refl }
    seals-each s n k (d ∷ ds) spaced spread ends late numbers =
        let from = spaced.0 in
        let t : SealState = its_state station rules (sealing_box keys rules) s d in
        let number : ℕ = next_of station rules s.floors d in
        let is : judged keys rules t d ≡ sealed_with number =
        seals keys key-tags some rules lawful t d (omega arith) spaced.1 spaced.2 numbers.0 in
        let end = ends.0 in
        let next : SharedState = record {
          floors = floors_past station rules s.floors d;
          free_from = seal_start keys rules d;
        } in
        let step : sender.next s d ≡ next = ap (λ j. let u : SharedState = record {
          floors = floors_after station s.floors
              (sealed_in (seal_note_by rules d j));
          free_from = (seal_state keys rules t d j).earliest_start;
        } in u) is in
        let live = live_end-whole rules lawful d spread.1 spaced.1 in
        let rest : SealsEach next ds =
        seals-each next (end_of d + pause_len + trailer_len profile + 4) (end_of d + 4) ds spaced.3
        spread.2 ends.1 (omega arith) numbers.1 in
        let told : Noted SealNote = record {
          tick = end_of d + 3;
          note = seal_note_by rules d (sealed_with number);
        } in
        let soon : end_of d + 3 < last = omega arith in
        record {
          emits = ap (λ j. sent_by keys rules d j ++ emitted_by sender (sender.next s d) ds) is
              ∙ (ap (λ u. packet keys rules number d ∷ emitted_by sender u ds) step
              ∙ ap (λ l. packet keys rules number d ∷ l) rest.emits);
          notes = ap (λ j. let note : Noted SealNote =
              record { tick = end_of d + 3; note = seal_note_by rules d j } in
              sealed_in_notes (notes_before last (note ∷ walked sender (sender.next s d) ds))) is
              ∙ (ap (λ u. sealed_in_notes (notes_before last (told ∷ walked sender u ds))) step
              ∙ (ap sealed_in_notes (before-early last told (walked sender next ds) soon)
              ∙ ap (λ l. numbered_frame rules d number ∷ l) rest.notes));
        }

  -- ---- the receiver of several stations

  module _ (m last : ℕ) (after : m + pause_len + trailer_len profile ≤ last) where
    abbrev receiver : Walker SharedState FullNote
    receiver = shared station rules (checking_box keys rules)

    abbrev AreNear : (ℕ → ℕ) → (ℕ → ℕ) → Type 0
    AreNear behind floors = (i : ℕ) → IsNear profile (behind i) (floors i)

    many : 1 ≤ words profile
    many = one-le-pow profile.word_len 256 (omega arith)

    near-past : (behind floors : ℕ → ℕ) (i number : ℕ) → AreNear behind floors
        → AreNear (with_floor behind i number) (with_floor floors i number)
    near-past behind floors i number near j =
        let more = many in
        let P : Bool → Type 0 = λ b. IsNear profile (if b then number else behind j)
        (if b then number else floors j) in
        ⊎_elim
        (λ same. subst P (sym (eq-eqb i j same))
        (record { not_above = omega arith; near = omega arith }))
        (λ other. subst P (sym (ne_eqb i j other)) (near j))
        (cases_eq i j)

    pub record PassesEach (s : SharedState) (floors : ℕ → ℕ) (ds : List Burst) : Type 0 where
      pub emits : emitted_by receiver s (packets_in_turn floors ds) ≡ map (later (delay profile)) ds
      pub notes :
          frames_in (notes_before last (walked receiver s (packets_in_turn floors ds)))
          ≡ numbered_in_turn station rules floors ds

    pub passes-each : (s : SharedState) (floors : ℕ → ℕ) (n k : ℕ) (ds : List Burst)
        → AreSpaced profile rules n ds → AreSpread 4 k ds → EndBy m ds → s.free_from ≤ n
        → AreNear s.floors floors → HaveNumbers station rules profile.limit floors ds
        → PassesEach s floors ds
    passes-each s floors n k [] spaced spread ends late near numbers =
        record { emits = refl; notes = refl }
    passes-each s floors n k (d ∷ ds) spaced spread ends late near numbers =
        let number : ℕ = next_of station rules floors d in
        let i : ℕ = named station rules d in
        let p : Burst = packet keys rules number d in
        let from = spaced.0 in
        let bytes : live_bytes rules p ≡ live_bytes rules d =
        packet-bytes keys key-tags some rules lawful framing number d spread.1 spaced.1 in
        let ticks = packet-ticks keys key-tags some rules lawful framing number d spread.1 spaced.1 in
        let live = ap length ticks in
        let at : ℕ → CheckState = λ j. record {
          floor = s.floors j;
          earliest_start = s.free_from;
        } in
        let low = (near i).not_above in
        let high = (near i).near in
        let left = numbers.0 in
        let is : checked keys rules (at (named station rules p)) p ≡ passed_with number =
        ap (λ x. checked keys rules (at (station x)) p) bytes
        ∙ passes keys key-tags some rules lawful framing number d spread.1 spaced.1 (at i) spaced.2
        (omega arith) (omega arith) (omega arith) (omega arith) in
        let end = ends.0 in
        let after_it : SharedState = record {
          floors = with_floor s.floors i number;
          free_from = start_after keys rules p;
        } in
        let step : receiver.next s p ≡ after_it = ap (λ v. let u : SharedState = record {
          floors = floors_after station s.floors
              (passed_in (note_by rules p v));
          free_from =
              (state_by keys rules (at (named station rules p)) p v).earliest_start;
        } in u) is
        ∙ ap (λ x. let u : SharedState = record {
          floors = with_floor s.floors (station x) number;
          free_from = start_after keys rules p;
        } in u) bytes in
        let past : ℕ → ℕ = floors_past station rules floors d in
        let rest : PassesEach after_it past ds =
        passes-each after_it past (end_of d + pause_len + trailer_len profile + 4) (end_of d + 4) ds
        spaced.3 spread.2 ends.1 (omega arith) (near-past s.floors floors i number near)
        numbers.1 in
        let others : List Burst = packets_in_turn past ds in
        let told : Noted FullNote = record {
          tick = note_tick keys rules p (passed_with number);
          note = note_by rules p (passed_with number);
        } in
        let soon : told.tick < last = omega arith in
        record {
          emits = ap (λ v. emission_by keys rules p v
              ++ emitted_by receiver (receiver.next s p) others) is
              ∙ (ap (λ u. delayed keys p (live_ticks rules p) ∷ emitted_by receiver u others) step
              ∙ (ap (λ x. delayed keys p x ∷ emitted_by receiver after_it others) ticks
              ∙ ap (λ l. later (delay profile) d ∷ l) rest.emits));
          notes = ap (λ v. let note : Noted FullNote =
              record { tick = note_tick keys rules p v; note = note_by rules p v } in
              frames_in (notes_before last (note ∷ walked receiver (receiver.next s p) others))) is
              ∙ (ap (λ u. frames_in (notes_before last (told ∷ walked receiver u others))) step
              ∙ (ap frames_in (before-early last told (walked receiver after_it others) soon)
              ∙ (ap (λ h. let f : NumberedFrame = record {
                number = number;
                start = d.start;
                frame = h;
              } in f ∷ frames_in (notes_before last (walked receiver after_it others))) bytes
              ∙ ap (λ l. numbered_frame rules d number ∷ l) rest.notes)));
        }
