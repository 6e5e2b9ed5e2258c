-- The packet of each frame that passes is on the link, with a tag under the key of the station that
-- the frame names.
use Rattle.frame_ending.specs.Walk.{walked, notes_before}
use Rattle.line_rules.specs.{Rules.Rules, RulesLaws.IsLawful}
use Rattle.link_format.specs.NumberedFrame.{NumberedFrame}
use Rattle.link_format.specs.Profile.{Profile}
use Rattle.link_box.proofs.Passing.{passed-passing}
use Rattle.link_box.specs.Verdicts.{CheckState, checked}
use Rattle.receiver_laws.proofs.Notes.{frames_in}
use Rattle.receiver_laws.proofs.Rising.{each-step}
use Rattle.receiver_laws.proofs.Standing.{AreOn, bursts-on, stands-on}
use Rattle.receiver_laws.specs.Standing.{StandsOn, numbered_frame}
use Rattle.std.proofs.Common.{ℕ, ◌≤◌, List, [], ◌∷◌, length, refl}
use Rattle.std.proofs.lemmas.List.Elements.{All-nil}
use Rattle.{std.specs.List.All, yasir_ticks.proofs.BurstsOfLaws.bursts_from-are}
use Rattle.yasir_ticks.specs.{Bursts.Burst, Bursts.bursts, Ticks.AreTicks, declared.tick.Tick.Tick}
use Rattle.stations.proofs.Reading.{centre}
use Rattle.stations.specs.Shared.{SharedState, at_floors, its_state, checking_box, passed_frames}
use Rattle.stations.specs.Table.{StationTags, profile_for, by_station}

module _ (station : List ℕ → ℕ) (profile : Profile) (tags : StationTags) (rules : Rules)
    (lawful : IsLawful rules) (floors : ℕ → ℕ) (link : List Tick) (ticks : AreTicks link)
    (some : 1 ≤ profile.word_len) where
  abbrev all_keys : Profile
  all_keys = by_station profile tags station

  -- the packet is on the link, with a tag under the key of its own station
  abbrev HasOwn : NumberedFrame → Type 0
  HasOwn f = StandsOn (profile_for profile tags (station f.frame)) link f

  under-own : (f : NumberedFrame) → StandsOn all_keys link f → HasOwn f
  under-own f on = record {
    front = on.front;
    body = on.body;
    back = on.back;
    is = on.is;
    begins = on.begins;
    spells = on.spells;
    contiguous = on.contiguous;
  }

  each : (s : SharedState) (ds : List Burst) → AreOn link ds
      → All HasOwn (frames_in (notes_before (length link)
      (walked (centre station all_keys rules lawful) s ds)))
  each s [] on = All-nil HasOwn
  each s (d ∷ ds) on =
      let w = centre station all_keys rules lawful in
      let its : CheckState = its_state station rules (checking_box all_keys rules) s d in
      each-step all_keys rules HasOwn (length link) its d (walked w (w.next s d) ds)
      (checked all_keys rules its d)
      (λ n is. under-own (numbered_frame rules d n)
      (stands-on all_keys some rules lawful link ticks its d ds n
      (passed-passing all_keys rules its d n is) on))
      (each (w.next s d) ds on.5)

  pub packets-stand : All HasOwn (passed_frames station all_keys rules floors link)
  packets-stand = each (at_floors floors) (bursts link)
      (bursts-on link (bursts link) [] link 0 refl refl (bursts_from-are 4 0 link))
