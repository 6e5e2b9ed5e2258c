-- What each station reads, and what is read of each station, was sealed.
use Rattle.device_model.specs.{Frames.FrameRead}
use Rattle.frame_ending.specs.Longer.{Begins}
use Rattle.line_rules.specs.{Rules.Rules, RulesLaws.IsLawful}
use Rattle.link_box.specs.{Checking.passed, Checking.received_line, Sealing.sealed}
use Rattle.link_format.specs.NumberedFrame.{NumberedFrame, numbers_of, last_number}
use Rattle.link_format.specs.Profile.{Profile}
use Rattle.receiver_laws.proofs.Accounting.{sealed-rise, rising-accounted}
use Rattle.receiver_laws.proofs.Headline.{bytes-delivered, passed-sealed, reads-front, reads-passed}
use Rattle.receiver_laws.proofs.OverUptimes.{rise-over, last-is}
use Rattle.receiver_laws.proofs.Rising.{have_passed}
use Rattle.receiver_laws.proofs.Subsequences.{front-is, chain-is, join-is}
use Rattle.receiver_laws.specs.Accounted.{IsSubsequence, IsAccountedFor}
use Rattle.receiver_laws.specs.Accounted.IsSubsequence.{none, skip, keep}
use Rattle.receiver_laws.specs.Headline.{bytes_read, bytes_sealed}
use Rattle.receiver_laws.specs.OverUptimes.{BoxUptime, GoOnFrom, bytes_over, passed_over_uptimes}
use Rattle.receiver_laws.specs.OverUptimes.{sealed_over}
use Rattle.receiver_laws.specs.Reading.{ReadsWhatPassed, delivered}
use Rattle.sequence_journal.proofs.UptimeLaws.{rise-lower, rise-append}
use Rattle.sequence_journal.specs.Uptimes.{RiseFrom, last_from}
use Rattle.std.proofs.Common.{◌≡◌, ◌∙◌, ◌==◌, ℕ, Bool, List, [], ◌∷◌, ◌++◌, map, refl, sym, ap}
use Rattle.std.proofs.Common.{subst, if◌then◌else◌, ⊎_elim}
use Rattle.std.proofs.lemmas.{Bool.cases_Bool, List.map-append}
use Rattle.std.specs.List.{filter}
use Rattle.yasir_ticks.specs.declared.tick.Tick.{Tick}
use Rattle.stations.proofs.{Numbering.checks-number, Numbering.seals-number, Rising.station-rises}
use Rattle.stations.specs.Shared.{of_station, bytes_of_station, sealing_box, checking_box}
use Rattle.stations.specs.Shared.{given_line, passed_frames, sealed_frames}
use Rattle.stations.specs.StationLaws.{StationReadsSealed, CentreReads, SharedUptime}
use Rattle.stations.specs.StationLaws.{frames_in_uptime, station_frames_over, station_bytes_over}
use Rattle.stations.specs.StationLaws.{StationGoesOn}
use Rattle.stations.specs.Table.{StationTags, profile_for, by_station}

-- ---- lists with some elements left out

filter-is : {X : Type 0} (p : X → Bool) {x y : List X} → IsSubsequence x y
    → IsSubsequence (filter p x) (filter p y)
filter-is p none = none
filter-is p (skip {x} {a} {y} is) =
    let P : Bool → Type 0 = λ b.
    IsSubsequence (filter p x) (if b then a ∷ filter p y else filter p y) in
    ⊎_elim
    (λ here. subst P (sym here) (skip (filter-is p is)))
    (λ gone. subst P (sym gone) (filter-is p is))
    (cases_Bool (p a))
filter-is p (keep {x} {a} {y} is) =
    let P : Bool → Type 0 = λ b. IsSubsequence (if b then a ∷ filter p x else filter p x)
    (if b then a ∷ filter p y else filter p y) in
    ⊎_elim
    (λ here. subst P (sym here) (keep (filter-is p is)))
    (λ gone. subst P (sym gone) (filter-is p is))
    (cases_Bool (p a))

module _ (station : List ℕ → ℕ) (i : ℕ) where
  bytes-of : (frames : List NumberedFrame) → bytes_of_station station i (bytes_sealed frames)
      ≡ bytes_sealed (of_station station i frames)
  bytes-of [] = refl
  bytes-of (f ∷ frames) =
      let rest = bytes-of frames in
      let P : Bool → Type 0 = λ b.
      (if b then f.frame ∷ bytes_of_station station i (bytes_sealed frames)
      else bytes_of_station station i (bytes_sealed frames))
      ≡ bytes_sealed (if b then f ∷ of_station station i frames
      else of_station station i frames) in
      ⊎_elim
      (λ is. subst P (sym is) (ap (λ l. f.frame ∷ l) rest))
      (λ isn't. subst P (sym isn't) rest)
      (cases_Bool (station f.frame == i))

  -- what is read of the station, if a front of what passed is read
  front-of : (profile : Profile) (read : List FrameRead) (frames : List NumberedFrame)
      → Begins read (map (delivered profile) frames)
      → IsSubsequence (bytes_of_station station i (bytes_read read))
      (bytes_sealed (of_station station i frames))
  front-of profile read frames begins =
      let whole : bytes_sealed frames ≡ bytes_read read ++ bytes_read begins.rest =
      sym (bytes-delivered profile frames)
      ∙ ap (λ l. bytes_read l) begins.is
      ∙ map-append (λ f. f.frame) read begins.rest in
      let P : List (List ℕ) → Type 0 = λ y. IsSubsequence (bytes_read read) y in
      subst (λ y. IsSubsequence (bytes_of_station station i (bytes_read read)) y) (bytes-of frames)
      (filter-is (λ x. station x == i)
      (subst P (sym whole) (front-is (bytes_read read) (bytes_read begins.rest))))

  -- ---- uptimes of a box of several stations

  module _ (frames : (ℕ → ℕ) → List Tick → List NumberedFrame)
      (each : (floors : ℕ → ℕ) (line : List Tick)
      → RiseFrom (floors i) (numbers_of (of_station station i (frames floors line)))) where
    pub station-rise_over : (floor : ℕ) (uptimes : List SharedUptime)
        → StationGoesOn station frames i floor uptimes
        → RiseFrom floor (numbers_of (station_frames_over station frames i uptimes))
    station-rise_over floor [] go_on = tt
    station-rise_over floor (uptime ∷ uptimes) go_on =
        let first : List NumberedFrame = frames_in_uptime station frames i uptime in
        let later : List NumberedFrame = station_frames_over station frames i uptimes in
        let rest : RiseFrom (last_from (uptime.floors i) (numbers_of first)) (numbers_of later) =
        subst (λ n. RiseFrom n (numbers_of later)) (sym (last-is (uptime.floors i) first))
        (station-rise_over (last_number (uptime.floors i) first) uptimes go_on.1) in
        rise-lower floor (uptime.floors i) (numbers_of (first ++ later)) go_on.0
        (subst (λ l. RiseFrom (uptime.floors i) l) (sym (map-append (λ f. f.number) first later))
        (rise-append (uptime.floors i) (numbers_of first) (numbers_of later)
        (each uptime.floors uptime.line) rest))

-- ---- if numbers rise on both sides, and what is read has passed, it was sealed

only-sealed : (seal_floor check_floor : ℕ) (sealed_ones passed_ones : List NumberedFrame)
    (read : List (List ℕ)) → RiseFrom seal_floor (numbers_of sealed_ones)
    → RiseFrom check_floor (numbers_of passed_ones)
    → IsSubsequence read (bytes_sealed passed_ones)
    → StationReadsSealed seal_floor check_floor sealed_ones passed_ones read
only-sealed seal_floor check_floor sealed_ones passed_ones read sealing passing is =
    let accounted : IsAccountedFor seal_floor check_floor sealed_ones passed_ones =
    rising-accounted seal_floor check_floor sealed_ones passed_ones sealing passing in
    record {
      only_sealed = λ unforged. chain-is read (bytes_sealed passed_ones) (bytes_sealed sealed_ones)
          is (passed-sealed seal_floor check_floor sealed_ones passed_ones accounted unforged);
      only_passed = is;
      accounted = accounted;
    }

module _ (rules : Rules) (lawful : IsLawful rules) (profile : Profile) (tags : StationTags)
    (station : List ℕ → ℕ) (i : ℕ) (reads : List Tick → List FrameRead) (ends : ℕ) where
  abbrev own : Profile
  own = profile_for profile tags i

  abbrev all_keys : Profile
  all_keys = by_station profile tags station

  -- ---- requests

  module _ (passes : (floor : ℕ) (link : List Tick)
      → ReadsWhatPassed rules reads ends own floor link) where
    sealing : (floors : ℕ → ℕ) (line : List Tick) → RiseFrom (floors i)
        (numbers_of (of_station station i (sealed_frames station all_keys rules floors line)))
    sealing floors line = station-rises station rules (sealing_box all_keys rules)
        (seals-number all_keys rules) i floors line

    pub station-reads : (floors : ℕ → ℕ) (check_floor : ℕ) (line link : List Tick)
        → StationReadsSealed (floors i) check_floor
        (of_station station i (sealed_frames station all_keys rules floors line))
        (passed own rules check_floor link) (bytes_read (reads
        (received_line own rules check_floor link)))
    station-reads floors check_floor line link =
        only-sealed (floors i) check_floor
        (of_station station i (sealed_frames station all_keys rules floors line))
        (passed own rules check_floor link)
        (bytes_read (reads (received_line own rules check_floor link))) (sealing floors line)
        (have_passed own rules lawful check_floor link).rise
        (reads-front rules lawful reads ends own passes check_floor link)

    pub station-reads_over : (floor check_floor : ℕ) (seals : List SharedUptime)
        (checks : List BoxUptime)
        → StationGoesOn station (sealed_frames station all_keys rules) i floor seals
        → GoOnFrom (passed own rules) check_floor checks
        → StationReadsSealed floor check_floor
        (station_frames_over station (sealed_frames station all_keys rules) i seals)
        (passed_over_uptimes own rules checks) (bytes_over reads own rules checks)
    station-reads_over floor check_floor seals checks sealing_on checking_on =
        only-sealed floor check_floor
        (station_frames_over station (sealed_frames station all_keys rules) i seals)
        (passed_over_uptimes own rules checks) (bytes_over reads own rules checks)
        (station-rise_over station i (sealed_frames station all_keys rules) sealing floor seals
        sealing_on)
        (rise-over (passed own rules) (λ floor link. (have_passed own rules lawful floor link).rise)
        check_floor checks checking_on)
        (reads-passed rules lawful reads ends own passes checks)

  -- ---- replies

  module _ (passes : (floors : ℕ → ℕ) (link : List Tick)
      → CentreReads rules reads ends profile tags station floors link) where
    passing : (floors : ℕ → ℕ) (link : List Tick) → RiseFrom (floors i)
        (numbers_of (of_station station i (passed_frames station all_keys rules floors link)))
    passing floors link = station-rises station rules (checking_box all_keys rules)
        (checks-number all_keys rules) i floors link

    abbrev read_of : (ℕ → ℕ) → List Tick → List (List ℕ)
    read_of floors link = bytes_of_station station i
        (bytes_read (reads (given_line station all_keys rules floors link)))

    its-front : (floors : ℕ → ℕ) (link : List Tick)
        → IsSubsequence (read_of floors link)
        (bytes_sealed (of_station station i (passed_frames station all_keys rules floors link)))
    its-front floors link =
        front-of station i profile (reads (given_line station all_keys rules floors link))
        (passed_frames station all_keys rules floors link) (passes floors link).prefix

    fronts-over : (checks : List SharedUptime)
        → IsSubsequence (station_bytes_over station reads all_keys rules i checks)
        (bytes_sealed
        (station_frames_over station (passed_frames station all_keys rules) i checks))
    fronts-over [] = none
    fronts-over (check ∷ checks) =
        let first : List NumberedFrame =
        frames_in_uptime station (passed_frames station all_keys rules) i check in
        let later : List NumberedFrame =
        station_frames_over station (passed_frames station all_keys rules) i checks in
        subst (λ y. IsSubsequence
        (station_bytes_over station reads all_keys rules i (check ∷ checks)) y)
        (sym (map-append (λ f. f.frame) first later))
        (join-is (station_bytes_over station reads all_keys rules i checks) (bytes_sealed later)
        (its-front check.floors check.line) (fronts-over checks))

    pub centre-reads : (floors : ℕ → ℕ) (seal_floor : ℕ) (line link : List Tick)
        → StationReadsSealed seal_floor (floors i) (sealed own rules seal_floor line)
        (of_station station i (passed_frames station all_keys rules floors link))
        (read_of floors link)
    centre-reads floors seal_floor line link =
        only-sealed seal_floor (floors i) (sealed own rules seal_floor line)
        (of_station station i (passed_frames station all_keys rules floors link))
        (read_of floors link) (sealed-rise own rules lawful seal_floor line) (passing floors link)
        (its-front floors link)

    pub centre-reads_over : (seal_floor floor : ℕ) (seals : List BoxUptime)
        (checks : List SharedUptime)
        → GoOnFrom (sealed own rules) seal_floor seals
        → StationGoesOn station (passed_frames station all_keys rules) i floor checks
        → StationReadsSealed seal_floor floor (sealed_over own rules seals)
        (station_frames_over station (passed_frames station all_keys rules) i checks)
        (station_bytes_over station reads all_keys rules i checks)
    centre-reads_over seal_floor floor seals checks sealing_on checking_on =
        only-sealed seal_floor floor (sealed_over own rules seals)
        (station_frames_over station (passed_frames station all_keys rules) i checks)
        (station_bytes_over station reads all_keys rules i checks)
        (rise-over (sealed own rules) (sealed-rise own rules lawful) seal_floor seals sealing_on)
        (station-rise_over station i (passed_frames station all_keys rules) passing floor checks
        checking_on)
        (fronts-over checks)
