-- Where a station is in a table, and what a table becomes when a number is committed.
use Rattle.sequence_journal.specs.Journal.{journal_floor}
use Rattle.sequence_journal.specs.declared.numbers.TheConstants.{LIMIT}
use Rattle.stations.specs.Shared.{SharedState, with_floor}
use Rattle.stations.specs.Table.{StationEntry, has_station, table_floor, table_key}
use Rattle.station_boxes.specs.Served.{IsPlaceOf, table_of}
use Rattle.station_boxes.specs.Stands.{Agrees}
use Rattle.station_boxes.specs.declared.station.Station.{Station}
use Rattle.std.proofs.Common.{◌≡◌, ◌∙◌, ◌==◌, ℕ, ◌+◌, Bool, true, false, List, [], ◌∷◌, ◌++◌}
use Rattle.std.proofs.Common.{length, refl, sym, ap, subst, arith, ⊎_elim, Some, None}
use Rattle.std.proofs.Common.{if◌then◌else◌}
use Rattle.std.proofs.lemmas.Bool.{cases_Bool, eqb-true, eq-eqb}
use Rattle.std.proofs.lemmas.Iterator.Adapters.{position_from-zero}
use Rattle.std.specs.List.{All, position, position_from}
use Rattle.std.proofs.Common.{◌<◌, length-append, Result, Ok, Err, OnOk, OnErr}
use Rattle.std.proofs.lemmas.List.{get_or_at, set_at}
use Rattle.std.proofs.lemmas.List.Elements.{All-set}
use Rattle.sequence_journal.specs.Commits.{HasCommitted, HasFailed}
use Rattle.sequence_journal.specs.declared.journal.JournalFault.{JournalFault}
use Rattle.station_boxes.specs.Committing.{CommitsOne, FailsOne, KeepsStation}
use Rattle.station_boxes.specs.Served.{FitsOf}
use Rattle.yasir_io.specs.{Causes.HasCause, Causes.Rose}
use Rattle.yasir_io.specs.declared.disk.SlotDisk.{Ghosts as SlotDisk}

module _ {D : Type 0} (name : ℕ) where
  -- whether a station has this name
  abbrev pub has_name : Station D → Bool
  has_name one = one.name == name

  -- Holds if the first station with this name is at this place, counted from `n`.
  record IsFrom (stations : List (Station D)) (n place : ℕ) : Type 0 where
    pub front : List (Station D)
    pub one : Station D
    pub back : List (Station D)
    pub is : stations ≡ front ++ one ∷ back
    pub at : n + length front ≡ place
    pub named : one.name ≡ name
    pub first : has_station (table_of front) name ≡ false

  from-hit : (one : Station D) (back : List (Station D)) (n place : ℕ) → has_name one ≡ true
      → Some n ≡ Some place → IsFrom (one ∷ back) n place
  from-hit one back n place hit is = record {
    front = [];
    one = one;
    back = back;
    is = refl;
    at = let same : n ≡ place = cc in omega arith;
    named = eqb-true one.name name hit;
    first = refl;
  }

  from-miss : (one : Station D) (back : List (Station D)) (n place : ℕ) → has_name one ≡ false
      → IsFrom back (n + 1) place → IsFrom (one ∷ back) n place
  from-miss one back n place miss later = record {
    front = one ∷ later.front;
    one = later.one;
    back = later.back;
    is = ap (λ l. one ∷ l) later.is;
    at = let at = later.at in omega arith;
    named = later.named;
    first = ap (λ b. if b then true else has_station (table_of later.front) name) miss
        ∙ later.first;
  }

  place-from : (stations : List (Station D)) (n place : ℕ)
      → position_from has_name n stations ≡ Some place → IsFrom stations n place
  place-from [] n place is = cc
  place-from (one ∷ back) n place is =
      let P : Bool → Type 0 = λ b. (if b then Some n else position_from has_name (n + 1) back)
      ≡ Some place in
      ⊎_elim
      (λ hit. from-hit one back n place hit (subst P hit is))
      (λ miss. from-miss one back n place miss (place-from back (n + 1) place (subst P miss is)))
      (cases_Bool (has_name one))

  none-from : (stations : List (Station D)) (n : ℕ)
      → position_from has_name n stations ≡ None → has_station (table_of stations) name ≡ false
  none-from [] n is = refl
  none-from (one ∷ back) n is =
      let P : Bool → Type 0 = λ b. (if b then Some n else position_from has_name (n + 1) back)
      ≡ None in
      ⊎_elim
      (λ hit. let never : Some n ≡ None = subst P hit is in cc)
      (λ miss. ap (λ b. if b then true else has_station (table_of back) name) miss
      ∙ none-from back (n + 1) (subst P miss is))
      (cases_Bool (has_name one))

  -- The first station with a name is where the code finds it.
  pub place-found : (stations : List (Station D)) (place : ℕ)
      → position has_name stations ≡ Some place → IsPlaceOf stations name place
  place-found stations place is =
      let from = place-from stations 0 place
      (sym (position_from-zero has_name stations) ∙ is) in
      record {
        front = from.front;
        one = from.one;
        back = from.back;
        is = from.is;
        at = let at : 0 + length from.front ≡ place = from.at in omega arith;
        named = from.named;
        first = from.first;
      }

  pub none-found : (stations : List (Station D)) → position has_name stations ≡ None
      → has_station (table_of stations) name ≡ false
  none-found stations is = none-from stations 0 (sym (position_from-zero has_name stations) ∙ is)

  -- ---- what the table says of a name

  -- A name without a station has no key.
  pub no-key : (stations : List (Station D)) → has_station (table_of stations) name ≡ false
      → table_key (table_of stations) name ≡ []
  no-key [] none = refl
  no-key (one ∷ back) none =
      let P : Bool → Type 0 = λ b. (if b then true else has_station (table_of back) name) ≡ false
      → (if b then one.key.items else table_key (table_of back) name) ≡ [] in
      ⊎_elim
      (λ hit. subst P (sym hit) (λ never. cc) none)
      (λ miss. subst P (sym miss) (λ rest. no-key back rest) none)
      (cases_Bool (has_name one))

  -- A name without a station has the limit as its floor.
  pub no-floor : (stations : List (Station D)) → has_station (table_of stations) name ≡ false
      → table_floor LIMIT (table_of stations) name ≡ LIMIT
  no-floor [] none = refl
  no-floor (one ∷ back) none =
      let P : Bool → Type 0 = λ b. (if b then true else has_station (table_of back) name) ≡ false
      → (if b then journal_floor one.journal else table_floor LIMIT (table_of back) name) ≡ LIMIT in
      ⊎_elim
      (λ hit. subst P (sym hit) (λ never. cc) none)
      (λ miss. subst P (sym miss) (λ rest. no-floor back rest) none)
      (cases_Bool (has_name one))

  module _ (one : Station D) (back : List (Station D)) (named : one.name ≡ name) where
    hit : has_name one ≡ true
    hit = eq-eqb one.name name named

    pub first-listed : (front : List (Station D))
        → has_station (table_of (front ++ one ∷ back)) name ≡ true
    first-listed [] = ap (λ b. if b then true else has_station (table_of back) name) hit
    first-listed (other ∷ front) =
        let P : Bool → Type 0 = λ b. (if b then true
        else has_station (table_of (front ++ one ∷ back)) name) ≡ true in
        ⊎_elim (λ yes. subst P (sym yes) refl) (λ no. subst P (sym no) (first-listed front))
        (cases_Bool (has_name other))

    pub first-key : (front : List (Station D)) → has_station (table_of front) name ≡ false
        → table_key (table_of (front ++ one ∷ back)) name ≡ one.key.items
    first-key [] none =
        ap (λ b. if b then one.key.items else table_key (table_of back) name) hit
    first-key (other ∷ front) none =
        let P : Bool → Type 0 = λ b. (if b then true else has_station (table_of front) name) ≡ false
        → (if b then other.key.items else table_key (table_of (front ++ one ∷ back)) name)
        ≡ one.key.items in
        ⊎_elim
        (λ yes. subst P (sym yes) (λ never. cc) none)
        (λ no. subst P (sym no) (λ rest. first-key front rest) none)
        (cases_Bool (has_name other))

    pub first-floor : (front : List (Station D)) → has_station (table_of front) name ≡ false
        → table_floor LIMIT (table_of (front ++ one ∷ back)) name ≡ journal_floor one.journal
    first-floor [] none =
        ap (λ b. if b then journal_floor one.journal else table_floor LIMIT (table_of back) name) hit
    first-floor (other ∷ front) none =
        let P : Bool → Type 0 = λ b. (if b then true else has_station (table_of front) name) ≡ false
        → (if b then journal_floor other.journal
        else table_floor LIMIT (table_of (front ++ one ∷ back)) name)
        ≡ journal_floor one.journal in
        ⊎_elim
        (λ yes. subst P (sym yes) (λ never. cc) none)
        (λ no. subst P (sym no) (λ rest. first-floor front rest) none)
        (cases_Bool (has_name other))

-- ---- the table after a number

split-none : {D : Type 0} (one : Station D) (front : List (Station D)) (name : ℕ)
    → has_station (table_of (one ∷ front)) name ≡ false
    → ((one.name == name) ≡ false) × (has_station (table_of front) name ≡ false)
split-none one front name none =
    let P : Bool → Type 0 = λ b. (if b then true else has_station (table_of front) name) ≡ false
    → (b ≡ false) × (has_station (table_of front) name ≡ false) in
    ⊎_elim
    (λ yes. subst P (sym yes) (λ never. cc) none)
    (λ no. subst P (sym no) (λ rest. (refl, rest)) none)
    (cases_Bool (one.name == name))

swapped : (a b : Bool) (x y z : ℕ) → (b ≡ true → a ≡ false)
    → (if a then x else (if b then y else z)) ≡ (if b then y else (if a then x else z))
swapped true true x y z apart = let never : true ≡ false = apart refl in cc
swapped true false x y z apart = refl
swapped false true x y z apart = refl
swapped false false x y z apart = refl

-- If only the first station with a name changes, and keeps its name and its key, all names and keys
-- stay, and only the floor of this name is another one.
module _ {D : Type 0} (before after : Station D) (back : List (Station D))
    (name : after.name ≡ before.name) (key : after.key ≡ before.key) where
  abbrev old : List (Station D) → List StationEntry
  old front = table_of (front ++ before ∷ back)

  abbrev new : List (Station D) → List StationEntry
  new front = table_of (front ++ after ∷ back)

  pub listed-stays : (front : List (Station D)) (i : ℕ)
      → has_station (new front) i ≡ has_station (old front) i
  listed-stays [] i = ap (λ n. if n == i then true else has_station (table_of back) i) name
  listed-stays (one ∷ front) i = ap (λ b. if one.name == i then true else b) (listed-stays front i)

  pub key-stays : (front : List (Station D)) (i : ℕ)
      → table_key (new front) i ≡ table_key (old front) i
  key-stays [] i =
      let items : after.key.items ≡ before.key.items = cc in
      ap (λ n. if n == i then after.key.items else table_key (table_of back) i) name
      ∙ ap (λ k. if before.name == i then k else table_key (table_of back) i) items
  key-stays (one ∷ front) i =
      ap (λ k. if one.name == i then one.key.items else k) (key-stays front i)

  pub floor-moves : (front : List (Station D)) → has_station (table_of front) before.name ≡ false
      → (i : ℕ) → table_floor LIMIT (new front) i
      ≡ (if before.name == i then journal_floor after.journal
      else table_floor LIMIT (old front) i)
  floor-moves [] none i =
      let P : Bool → Type 0 = λ b.
      (if b then journal_floor after.journal else table_floor LIMIT (table_of back) i)
      ≡ (if b then journal_floor after.journal else (if b then journal_floor before.journal
      else table_floor LIMIT (table_of back) i)) in
      ap (λ n. if n == i then journal_floor after.journal
      else table_floor LIMIT (table_of back) i) name
      ∙ ⊎_elim (λ yes. subst P (sym yes) refl) (λ no. subst P (sym no) refl)
      (cases_Bool (before.name == i))
  floor-moves (one ∷ front) none i =
      let apart = split-none one front before.name none in
      let P : ℕ → Type 0 = λ n. (one.name == n) ≡ false in
      ap (λ f. if one.name == i then journal_floor one.journal else f)
      (floor-moves front apart.1 i)
      ∙ swapped (one.name == i) (before.name == i) (journal_floor one.journal)
      (journal_floor after.journal) (table_floor LIMIT (old front) i)
      (λ same. subst P (eqb-true before.name i same) apart.0)

-- If the first station with a name commits a number, the table agrees with the state in which this
-- is the floor of the name.
pub agrees-then : {D : Type 0} (before after : Station D) (front back : List (Station D))
    → after.name ≡ before.name → after.key ≡ before.key
    → has_station (table_of front) before.name ≡ false
    → (start : List StationEntry) (s : SharedState)
    → Agrees (table_of (front ++ before ∷ back)) start s
    → (number : ℕ) → journal_floor after.journal ≡ number → (from : ℕ)
    → Agrees (table_of (front ++ after ∷ back)) start
    (record { floors = with_floor s.floors before.name number; free_from = from })
agrees-then before after front back name key first start s old number floor from = record {
  listed = λ i. listed-stays before after back name key front i ∙ old.listed i;
  keys = λ i. key-stays before after back name key front i ∙ old.keys i;
  floors = λ i. floor-moves before after back name key front first i
      ∙ (ap (λ n. if before.name == i then n
      else table_floor LIMIT (table_of (front ++ before ∷ back)) i) floor
      ∙ ap (λ f. if before.name == i then number else f) (old.floors i));
}

-- ---- one station of all

-- What holds of all stations holds of one of them, and still of all if it holds of the one that
-- takes its place.
pub all-one : {X : Type 0} (P : X → Type 0) (front : List X) (one : X) (back : List X)
    → All P (front ++ one ∷ back) → P one
all-one P front one back all =
    let long = length-append front (one ∷ back) in
    let within : length front < length (front ++ one ∷ back) = omega arith in
    subst P (get_or_at front one back one (length front) refl) (all (length front) one within)

pub all-then : {X : Type 0} (P : X → Type 0) (front : List X) (before after : X) (back : List X)
    → P after → All P (front ++ before ∷ back) → All P (front ++ after ∷ back)
all-then {X = X} P front before after back holds all =
    let A : List X → Type 0 = λ l. All P l in
    subst A (set_at front before back after (length front) refl)
    (All-set P (front ++ before ∷ back) (length front) after holds all)

module _ {D : Type 0} (d : SlotDisk D) (before after : Station D) (number : ℕ)
    (result : Result (Unit {0}) JournalFault) (keeps : KeepsStation d before after) where
  pub ok-one : OnOk result (HasCommitted before.journal after.journal (d.told before.disk)
      (d.told after.disk) (d.may_leave after.disk) number)
      → OnOk result (FitsOf d after) → HasCause (d.faults before.disk) (d.faults after.disk) result
      → OnOk result (CommitsOne d before after number)
  ok-one committed fits cause = by result committed fits cause.same where
    by : (r : Result (Unit {0}) JournalFault)
        → OnOk r (HasCommitted before.journal after.journal (d.told before.disk)
        (d.told after.disk) (d.may_leave after.disk) number)
        → OnOk r (FitsOf d after) → OnOk r (d.faults after.disk ≡ d.faults before.disk)
        → OnOk r (CommitsOne d before after number)
    by (Ok x) committed fits same =
        record { keeps = keeps; committed = committed; fits = fits; same = same }
    by (Err e) committed fits same = tt

  pub err-one : OnErr result (HasFailed before.journal after.journal (d.told before.disk)
      (d.told after.disk) number)
      → HasCause (d.faults before.disk) (d.faults after.disk) result
      → OnErr result (FailsOne d before after number)
  err-one failed cause = by result failed cause.failed where
    by : (r : Result (Unit {0}) JournalFault)
        → OnErr r (HasFailed before.journal after.journal (d.told before.disk)
        (d.told after.disk) number)
        → OnErr r (Rose (d.faults before.disk) (d.faults after.disk))
        → OnErr r (FailsOne d before after number)
    by (Ok x) failed rose = tt
    by (Err e) failed rose = record { keeps = keeps; failed = failed; rose = rose }
