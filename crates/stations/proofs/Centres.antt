-- What control centres of each protocol read.
use Rattle.device_model.proofs.ReadLaws.{frames_ended}
use Rattle.device_model.specs.{DnpHunted.dnp_hunted, Frames.FrameRead}
use Rattle.device_model.specs.Hunt.{timed, hunt, hunt_anew}
use Rattle.device_model.specs.HuntFamily.{dnp_family_reads}
use Rattle.device_model.specs.RtuReads.{frames_read}
use Rattle.device_model.specs.Stated.{StatedDevice, stated_rules, stated_reads, stated_silence}
use Rattle.device_model.specs.Stated.{IsStatedWithin}
use Rattle.device_model.specs.Stated.StatedDevice.{rtu, dnp, rtu_member, dnp_member}
use Rattle.dnp_link_frame.specs.Rules.{dnp_rules}
use Rattle.dnp_link_frame.specs.RulesLaws.{dnp_lawful, dnp_headed, dnp_framed, dnp_spoiling}
use Rattle.frame_ending.proofs.Spread.{AreSpread, bursts-spread}
use Rattle.frame_ending.specs.Walk.{emitted_by}
use Rattle.link_format.specs.Profile.{Profile, delay}
use Rattle.link_box.specs.Verdicts.{checked}
use Rattle.receiver_laws.proofs.Anew.{anew-hunter}
use Rattle.receiver_laws.proofs.HunterReadings.{plain-hunter, emission-taken}
use Rattle.receiver_laws.proofs.HunterReadings as hunters
use Rattle.receiver_laws.proofs.Hunters.{AreTaken, hunter-laid}
use Rattle.receiver_laws.proofs.RtuReadings as readings
use Rattle.receiver_laws.proofs.Settled.{reads_with, reads-laid}
use Rattle.receiver_laws.specs.Hunters.{IsHunter}
use Rattle.rtu_frame.specs.Rules.{rtu_rules, rtu_lawful}
use Rattle.std.proofs.Common.{◌≡◌, ◌⊎◌, inl, inr, ℕ, zero, suc, ◌+◌, ◌≤◌, List, [], ◌∷◌, length, refl}
use Rattle.std.proofs.Common.{arith}
use Rattle.yasir_ticks.specs.{Bursts.Burst, Bursts.bursts, Bursts.end_of, Ticks.bytes_in}
use Rattle.yasir_ticks.specs.declared.tick.Tick.{Tick}
use Rattle.stations.proofs.{Packets.packets-stand, Reading.centre, Reading.centre-spread}
use Rattle.stations.proofs.Reading.{centre-begins, centre-all}
use Rattle.stations.specs.Shared.{SharedState, at_floors, its_state, checking_box, given_line}
use Rattle.stations.specs.StationLaws.{CentreReads}
use Rattle.stations.specs.Table.{StationTags, by_station}

module _ (profile : Profile) (tags : StationTags) (station : List ℕ → ℕ) (floors : ℕ → ℕ) where
  abbrev keys : Profile
  keys = by_station profile tags station

  -- ---- Modbus RTU

  module _ (cut pause : ℕ) (wide : 2 ≤ cut) (near : cut ≤ delay profile) (long : 2 ≤ pause) where
    rtu-link : (link : List Tick)
        → reads_with cut pause (given_line station keys rtu_rules floors link)
        ≡ frames_read cut pause (length link)
        (emitted_by (centre station keys rtu_rules rtu_lawful) (at_floors floors) (bursts link))
    rtu-link link =
        reads-laid cut pause (length link)
        (emitted_by (centre station keys rtu_rules rtu_lawful) (at_floors floors) (bursts link))
        (centre-spread station keys rtu_rules rtu_lawful cut wide near (at_floors floors) 0 0
        (bursts link) (bursts-spread link) (omega arith))

    pub rtu-centre : (link : List Tick)
        → CentreReads rtu_rules (reads_with cut pause) cut profile tags station floors link
    rtu-centre link = record {
      prefix = centre-begins station keys rtu_rules rtu_lawful cut near
          (readings.is_whole keys cut pause wide near long) (readings.whole-frame keys cut pause wide near long)
          (readings.wrong-frame keys cut pause wide near long) floors (reads_with cut pause) rtu-link
          link;
      all = centre-all station keys rtu_rules rtu_lawful cut near
          (readings.is_whole keys cut pause wide near long) (readings.whole-frame keys cut pause wide near long)
          (readings.wrong-frame keys cut pause wide near long) floors (reads_with cut pause) rtu-link
          link;
      stand = packets-stand station profile tags rtu_rules rtu_lawful floors link;
    }

  -- ---- DNP3

  dnp-taken : (s : SharedState) (n : ℕ) (ds : List Burst) → AreSpread 4 n ds
      → AreTaken 0x05 0x64 dnp_rules (emitted_by (centre station keys dnp_rules dnp_lawful) s ds)
  dnp-taken s n [] spread = tt
  dnp-taken s n (d ∷ ds) spread =
      let w = centre station keys dnp_rules dnp_lawful in
      let its = its_state station dnp_rules (checking_box keys dnp_rules) s d in
      emission-taken 0x05 0x64 dnp_rules dnp_headed dnp_framed dnp_hunted keys dnp_lawful its d
      (checked keys dnp_rules its d) (emitted_by w (w.next s d) ds) spread.1 refl
      (dnp-taken (w.next s d) (end_of d + 4) ds spread.2)

  module _ (read : ℕ → List Tick → List FrameRead) (hunter : IsHunter 0x05 0x64 dnp_rules read)
    where
      dnp-link : (link : List Tick)
          → read 0 (given_line station keys dnp_rules floors link)
          ≡ frames_ended 0 (λ d. dnp_rules.is_frame (bytes_in d.body)) (length link)
          (emitted_by (centre station keys dnp_rules dnp_lawful) (at_floors floors) (bursts link))
      dnp-link link =
          hunter-laid 0x05 0x64 dnp_rules dnp_headed dnp_framed dnp_hunted read hunter (length link)
          (emitted_by (centre station keys dnp_rules dnp_lawful) (at_floors floors) (bursts link))
          (centre-spread station keys dnp_rules dnp_lawful 2 (omega arith) (omega arith)
          (at_floors floors) 0 0 (bursts link) (bursts-spread link) (omega arith))
          (dnp-taken (at_floors floors) 0 (bursts link) (bursts-spread link))

      pub hunter-centre : (link : List Tick)
          → CentreReads dnp_rules (read 0) 0 profile tags station floors link
      hunter-centre link = record {
        prefix = centre-begins station keys dnp_rules dnp_lawful 0 (omega arith)
            (λ d. dnp_rules.is_frame (bytes_in d.body))
            (hunters.whole-frame 0x05 0x64 dnp_rules dnp_headed dnp_framed dnp_hunted keys dnp_lawful)
            (hunters.wrong-frame 0x05 0x64 dnp_rules dnp_headed dnp_framed dnp_hunted keys dnp_lawful
            dnp_spoiling) floors (read 0) dnp-link link;
        all = centre-all station keys dnp_rules dnp_lawful 0 (omega arith)
            (λ d. dnp_rules.is_frame (bytes_in d.body))
            (hunters.whole-frame 0x05 0x64 dnp_rules dnp_headed dnp_framed dnp_hunted keys dnp_lawful)
            (hunters.wrong-frame 0x05 0x64 dnp_rules dnp_headed dnp_framed dnp_hunted keys dnp_lawful
            dnp_spoiling) floors (read 0) dnp-link link;
        stand = packets-stand station profile tags dnp_rules dnp_lawful floors link;
      }

  pub dnp-centre : (cut : ℕ) → (cut ≡ 0) ⊎ (2 ≤ cut) → (link : List Tick)
      → CentreReads dnp_rules (dnp_family_reads cut) 0 profile tags station floors link
  dnp-centre zero member link = hunter-centre (λ n line. hunt 0x05 0x64 dnp_rules 0 (timed n line))
      (plain-hunter 0x05 0x64 dnp_rules) link
  dnp-centre (suc cut) (inl none) link = absurd (omega arith)
  dnp-centre (suc cut) (inr wide) link =
      hunter-centre (hunt_anew 0x05 0x64 dnp_rules (suc cut))
      (anew-hunter (suc cut) wide 0x05 0x64 dnp_rules) link

  -- ---- each stated device

  pub stated-centre : (device : StatedDevice) → IsStatedWithin (delay profile) device
      → (link : List Tick)
      → CentreReads (stated_rules device) (stated_reads device) (stated_silence device) profile tags
      station floors link
  stated-centre rtu any link =
      rtu-centre 4 2 (omega arith) (omega arith) (omega arith) link
  stated-centre dnp any link = dnp-centre 0 (inl refl) link
  stated-centre (rtu_member cut gap) member link =
      rtu-centre cut (suc gap) member.0 member.1 (omega arith) link
  stated-centre (dnp_member cut) member link = dnp-centre cut member link
