-- The numbers of uptimes over one disk rise, at whatever moments the uptimes end.
use Rattle.sequence_journal.proofs.LoadLemmas.{no_floor_of_others}
use Rattle.sequence_journal.specs.{Journal.HasFloorAtLeast, Loading.KeepsLoadable, Slots.floor_of}
use Rattle.sequence_journal.specs.Uptimes.{RiseFrom, last_from, IsUptime, IsIdle, HasNoFloorBelow}
use Rattle.sequence_journal.specs.Uptimes.{Uptime, AreUptimes, all_numbers, Step, answered_in}
use Rattle.sequence_journal.specs.Uptimes.{disk_after, IsStep, AreSteps, EndsInside}
use Rattle.sequence_journal.specs.declared.link.LinkId.{LinkId}
use Rattle.std.proofs.Common.{◌≡◌, ℕ, ◌<◌, ◌≤◌, List, [], ◌∷◌, ◌++◌, Option, Some, None, IsSomeAnd}
use Rattle.std.proofs.Common.{IfSome, inl, inr, refl, sym, subst, arith}
use Rattle.yasir_io.specs.Disks.{Slots}
use Rattle.yasir_io.specs.declared.disk.{Slot.TheVariants.A, SlotDisk.Ghosts as SlotDisk}

-- numbers that rise from a floor rise from a lower one too
pub rise-lower : (low high : ℕ) (numbers : List ℕ) → low ≤ high → RiseFrom high numbers
    → RiseFrom low numbers
rise-lower low high [] le rise = tt
rise-lower low high (n ∷ numbers) le rise = let above : high < n = rise.0 in (omega arith, rise.1)

pub rise-append : (floor : ℕ) (a b : List ℕ) → RiseFrom floor a → RiseFrom (last_from floor a) b
    → RiseFrom floor (a ++ b)
rise-append floor [] b first second = second
rise-append floor (n ∷ a) b first second = (first.0, rise-append n a b first.1 second)

last-append : (floor : ℕ) (a b : List ℕ)
    → last_from floor (a ++ b) ≡ last_from (last_from floor a) b
last-append floor [] b = refl
last-append floor (n ∷ a) b = last-append n a b

-- the floor that the next uptime loads
pub next_floor : (link : LinkId) (n : ℕ) (image : Slots) → HasFloorAtLeast link n image
    → (floor : ℕ) × (floor_of link image ≡ Some floor) × (n ≤ floor)
next_floor link n image from =
    let P : Option ℕ → Type 0 = λ o. floor_of link image ≡ o → IsSomeAnd o (λ floor. n ≤ floor)
    → (floor : ℕ) × (floor_of link image ≡ Some floor) × (n ≤ floor) in
    elim (floor_of link image) as P [
      | None ↦ λ is none. absurd none
      | Some floor ↦ λ is le. (floor, is, le)
    ] refl from

pub some_weaker : (o : Option ℕ) (n : ℕ) → IsSomeAnd o (λ floor. n ≤ floor)
    → IfSome o (λ floor. n ≤ floor)
some_weaker None n from = absurd from
some_weaker (Some floor) n le = le

lower_still : (o : Option ℕ) (m n : ℕ) → m ≤ n → IfSome o (λ floor. n ≤ floor)
    → IfSome o (λ floor. m ≤ floor)
lower_still None m n le from = tt
lower_still (Some floor) m n le from = omega arith

pub uptimes-rise : (link : LinkId) (begins : Slots) (floor : ℕ) (uptimes : List Uptime)
    → HasNoFloorBelow link floor begins → AreUptimes link begins uptimes
    → RiseFrom floor (all_numbers uptimes)
uptimes-rise link begins floor [] from are = tt
uptimes-rise link begins floor (uptime ∷ uptimes) from (inl is, are) =
    let loads : floor ≤ is.floor =
    subst (λ o. IfSome o (λ loaded. floor ≤ loaded)) is.loads from in
    let last = last_from is.floor uptime.numbers in
    rise-lower floor is.floor (uptime.numbers ++ all_numbers uptimes) loads
    (rise-append is.floor uptime.numbers (all_numbers uptimes) is.rise
    (uptimes-rise link uptime.image last uptimes
    (some_weaker (floor_of link uptime.image) last is.leaves) are))
uptimes-rise link begins floor (uptime ∷ uptimes) from (inr idle, are) =
    subst (λ numbers. RiseFrom floor (numbers ++ all_numbers uptimes)) (sym idle.answers_none)
    (uptimes-rise link uptime.image floor uptimes (idle.leaves floor from) are)

-- an uptime that ends while its journal is being loaded is idle
pub ends-loading : (link : LinkId) (begins : Slots) (floor : ℕ) (image : Slots)
    → floor_of link begins ≡ Some floor → KeepsLoadable link begins floor image
    → IsIdle link begins [] image
ends-loading link begins floor image is (inl from) = record {
  answers_none = refl;
  leaves = λ n below. (
      let le : n ≤ floor = subst (λ o. IfSome o (λ floor. n ≤ floor)) is below in
      lower_still (floor_of link image) n floor le (some_weaker (floor_of link image) floor from)
      );
}
ends-loading link begins floor image is (inr others) = record {
  answers_none = refl;
  leaves = λ n below. (
      let none : floor_of link image ≡ None =
      no_floor_of_others link image A others.1 in
      subst (λ o. IfSome o (λ floor. n ≤ floor)) (sym none) tt
      );
}

-- an uptime that leaves the slots as they were and returns no number is idle
pub idle-same : (link : LinkId) (slots : Slots) → IsIdle link slots [] slots
idle-same link slots = record { answers_none = refl; leaves = λ n below. below }

pub idle-joined : (link : LinkId) (begins between image : Slots) → IsIdle link begins [] between
    → IsIdle link between [] image → IsIdle link begins [] image
idle-joined link begins between image first second = record {
  answers_none = refl;
  leaves = λ n below. second.leaves n (first.leaves n below);
}

module _ {D : Type 0} (disk : SlotDisk D) (link : LinkId) where
  -- the steps that are done, and the one in which the uptime ends
  steps-part : (floor : ℕ) (before : D) (done : List (Step D)) (last : Step D)
      → AreSteps disk link floor before (done ++ last ∷ [])
      → RiseFrom floor (answered_in done)
      × IsStep disk link (last_from floor (answered_in done)) (disk_after before done) last
  steps-part floor before [] last are = (tt, are.0)
  steps-part floor before (step ∷ done) last are =
      let rest = steps-part (last_from floor step.numbers) step.after done last are.1 in
      let S : ℕ → Type 0 = λ n. IsStep disk link n (disk_after step.after done) last in (
        rise-append floor step.numbers (answered_in done) are.0.rise rest.0,
        subst S (sym (last-append floor step.numbers (answered_in done))) rest.1,
      )

  pub ends-inside : (begins : Slots) (floor : ℕ) (loaded : D) (done : List (Step D)) (image : Slots)
      → floor_of link begins ≡ Some floor → EndsInside disk link floor loaded done image
      → IsUptime link begins (answered_in done) image
  ends-inside begins floor loaded done image is ends =
      let parts = steps-part floor loaded done ends.last ends.are_steps in
      record {
        floor = floor;
        loads = is;
        rise = parts.0;
        leaves = parts.1.any_moment.each image ends.left;
      }
