-- What passed in all uptimes of a receiver is accounted for by what was sealed in all uptimes of a
-- transmitter. So it is for one uptime of each.
use Rattle.line_rules.specs.{Rules.Rules, RulesLaws.IsLawful}
use Rattle.link_format.specs.NumberedFrame.{NumberedFrame, numbers_of, last_number}
use Rattle.{link_format.specs.Profile.Profile, link_box.specs.Checking.passed}
use Rattle.receiver_laws.proofs.Accounting.{sealed-rise, rising-accounted}
use Rattle.receiver_laws.{proofs.Rising.have_passed, specs.Accounted.IsAccountedFor}
use Rattle.receiver_laws.specs.OverUptimes.{BoxUptime, frames_over, GoOnFrom, ShareDisk, BothGoOn}
use Rattle.receiver_laws.specs.OverUptimes.{sealed_over, passed_over_uptimes}
use Rattle.link_box.specs.Sealing.{sealed}
use Rattle.sequence_journal.proofs.UptimeLaws.{rise-lower, rise-append, some_weaker}
use Rattle.sequence_journal.specs.{Journal.HasFloorAtLeast, Slots.floor_of}
use Rattle.sequence_journal.specs.Uptimes.{RiseFrom, last_from, HasNoFloorBelow}
use Rattle.sequence_journal.specs.declared.link.LinkId.{LinkId}
use Rattle.std.proofs.Common.{◌≡◌, ◌∙◌, ℕ, ◌≤◌, List, [], ◌∷◌, ◌++◌, Some, IfSome, refl, sym, subst}
use Rattle.std.proofs.{Common.arith, lemmas.List.map-append, lemmas.List.append-nil}
use Rattle.{yasir_io.specs.Disks.Slots, yasir_ticks.specs.declared.tick.Tick.Tick}

-- The last of the numbers is the number of the last frame.
pub last-is : (floor : ℕ) (frames : List NumberedFrame)
    → last_from floor (numbers_of frames) ≡ last_number floor frames
last-is floor [] = refl
last-is floor (f ∷ frames) = last-is f.number frames

module _ (frames : ℕ → List Tick → List NumberedFrame) where
  -- If numbers rise in each uptime, and the uptimes go on from one another, numbers rise over all
  -- of them.
  pub rise-over : ((floor : ℕ) (line : List Tick) → RiseFrom floor (numbers_of (frames floor line)))
      → (floor : ℕ) (uptimes : List BoxUptime) → GoOnFrom frames floor uptimes
      → RiseFrom floor (numbers_of (frames_over frames uptimes))
  rise-over each floor [] go_on = tt
  rise-over each floor (uptime ∷ uptimes) go_on =
      let first : List NumberedFrame = frames uptime.floor uptime.line in
      let later : List NumberedFrame = frames_over frames uptimes in
      let rest : RiseFrom (last_from uptime.floor (numbers_of first)) (numbers_of later) =
      subst (λ n. RiseFrom n (numbers_of later)) (sym (last-is uptime.floor first))
      (rise-over each (last_number uptime.floor first) uptimes go_on.1) in
      rise-lower floor uptime.floor (numbers_of (first ++ later)) go_on.0
      (subst (λ l. RiseFrom uptime.floor l) (sym (map-append (λ f. f.number) first later))
      (rise-append uptime.floor (numbers_of first) (numbers_of later)
      (each uptime.floor uptime.line) rest))

  -- If the slots have no floor below n, uptimes that share them go on from n.
  pub share-go_on : (link : LinkId) (begins : Slots) (n : ℕ) (uptimes : List BoxUptime)
      → HasNoFloorBelow link n begins → ShareDisk frames link begins uptimes
      → GoOnFrom frames n uptimes
  share-go_on link begins n [] below share = tt
  share-go_on link begins n (uptime ∷ uptimes) below (found, idle, loads, is, share) =
      let first : List NumberedFrame = frames uptime.floor uptime.line in
      let same : Some is.floor ≡ Some uptime.floor = sym is.loads ∙ loads in
      let loaded : is.floor ≡ uptime.floor = cc in
      let leaves : HasFloorAtLeast link (last_from uptime.floor (numbers_of first)) uptime.image =
      subst (λ m. HasFloorAtLeast link (last_from m (numbers_of first)) uptime.image) loaded
      is.leaves in
      let last = last_number uptime.floor first in
      let from : HasFloorAtLeast link last uptime.image =
      subst (λ m. HasFloorAtLeast link m uptime.image) (last-is uptime.floor first) leaves in (
        subst (λ o. IfSome o (λ floor. n ≤ floor)) loads (idle.leaves n below),
        share-go_on link uptime.image last uptimes
            (some_weaker (floor_of link uptime.image) last from) share,
      )

-- ---- the law over uptimes, and of one uptime on each side

-- a single uptime, of which the image doesn't matter
abbrev pub alone : ℕ → List Tick → List BoxUptime
alone floor line = record {
  floor = floor;
  line = line;
  image = record { a = []; b = []; old = record { a = []; b = [] } };
} ∷ []

pub alone-is : (frames : ℕ → List Tick → List NumberedFrame) (floor : ℕ) (line : List Tick)
    → frames_over frames (alone floor line) ≡ frames floor line
alone-is frames floor line = append-nil (frames floor line)

module _ (profile : Profile) (rules : Rules) (lawful : IsLawful rules) where
  pub accounted-over : (seal_floor check_floor : ℕ) (seals checks : List BoxUptime)
      → BothGoOn profile rules seal_floor check_floor seals checks
      → IsAccountedFor seal_floor check_floor (sealed_over profile rules seals)
      (passed_over_uptimes profile rules checks)
  accounted-over seal_floor check_floor seals checks go_on =
      rising-accounted seal_floor check_floor (sealed_over profile rules seals)
      (passed_over_uptimes profile rules checks)
      (rise-over (sealed profile rules) (sealed-rise profile rules lawful) seal_floor seals
      go_on.sealing)
      (rise-over (passed profile rules) (λ floor link.
      (have_passed profile rules lawful floor link).rise) check_floor checks go_on.checking)

  pub alone-go_on : (seal_floor check_floor : ℕ) (line link : List Tick)
      → BothGoOn profile rules seal_floor check_floor (alone seal_floor line)
      (alone check_floor link)
  alone-go_on seal_floor check_floor line link = record {
    sealing = (omega arith, tt);
    checking = (omega arith, tt);
  }

  pub accounted-for : (seal_floor check_floor : ℕ) (line link : List Tick)
      → IsAccountedFor seal_floor check_floor (sealed profile rules seal_floor line)
      (passed profile rules check_floor link)
  accounted-for seal_floor check_floor line link =
      let over = accounted-over seal_floor check_floor (alone seal_floor line)
      (alone check_floor link) (alone-go_on seal_floor check_floor line link) in
      subst (λ x. IsAccountedFor seal_floor check_floor x (passed profile rules check_floor link))
      (alone-is (sealed profile rules) seal_floor line)
      (subst (λ y. IsAccountedFor seal_floor check_floor
      (sealed_over profile rules (alone seal_floor line)) y)
      (alone-is (passed profile rules) check_floor link) over)
