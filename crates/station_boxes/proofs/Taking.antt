-- How the next number of a station is taken.
use Rattle.sequence_journal.specs.Journal.{journal_floor}
use Rattle.sequence_journal.specs.declared.journal.JournalFault.{JournalFault}
use Rattle.sequence_journal.specs.declared.numbers.TheConstants.{LIMIT}
use Rattle.stations.specs.Table.{has_station, table_floor}
use Rattle.station_boxes.proofs.Tables.{all-one, first-floor, first-listed}
use Rattle.station_boxes.specs.Committing.{ChangesFirst, CommitsBetween, CommitsOne, FailsOne}
use Rattle.station_boxes.specs.Committing.{HasCommittedOrNot}
use Rattle.station_boxes.specs.Committing.{HasFailedAt, HasFailedNext, HasTakenNumber, MayCommitAt}
use Rattle.station_boxes.specs.Served.{FitsOf, IsPlaceOf, table_of}
use Rattle.station_boxes.specs.declared.station.Station.{Station}
use Rattle.station_boxes.specs.declared.station.Taken.TheVariants.{Number, Spent}
use Rattle.std.proofs.Common.{◌≡◌, ◌∙◌, ℕ, ◌+◌, ◌<◌, ◌≤◌, true, false, List, refl, sym, ap, subst}
use Rattle.std.proofs.Common.{arith, get_or, Result, Ok, Err, OnOk, OnErr, IfOk, ⊎_elim}
use Rattle.std.proofs.lemmas.Bool.{cases_lt}
use Rattle.std.proofs.lemmas.List.{get_or_at}
use Rattle.std.specs.List.{All}
use Rattle.yasir_io.specs.declared.disk.SlotDisk.{Ghosts as SlotDisk}

pub ok-then : {A E : Type 0} (P Q : A → Type 0) → ((x : A) → P x → Q x) → (r : Result A E)
    → IfOk r P → IfOk r Q
ok-then P Q f (Ok x) p = f x p
ok-then P Q f (Err e) p = tt

pub err-then : {A E : Type 0} (P Q : Type 0) → (P → Q) → (r : Result A E) → OnErr r P → OnErr r Q
err-then P Q f (Ok x) p = tt
err-then P Q f (Err e) p = f p

pub ok-always : {A E P : Type 0} (r : Result A E) → P → OnOk r P
ok-always (Ok x) p = p
ok-always (Err e) p = tt

module _ {D : Type 0} (d : SlotDisk D) (stations : List (Station D)) (name place : ℕ)
    (p : IsPlaceOf stations name place) where
  one-at : (e : Station D) → get_or stations place e ≡ p.one
  one-at e = ap (λ l. get_or l place e) p.is ∙ get_or_at p.front p.one p.back e place p.at

  listed : has_station (table_of stations) name ≡ true
  listed = ap (λ l. has_station (table_of l) name) p.is
      ∙ first-listed name p.one p.back p.named p.front

  -- the floor of the name is that of the station at its place
  floor-at : (e : Station D) (floor : ℕ)
      → floor ≡ journal_floor (get_or stations place e).journal
      → table_floor LIMIT (table_of stations) name ≡ floor
  floor-at e floor is =
      ap (λ l. table_floor LIMIT (table_of l) name) p.is
      ∙ (first-floor name p.one p.back p.named p.front p.first
      ∙ sym (is ∙ ap (λ (x : Station D). journal_floor x.journal) (one-at e)))

  pub takes-none : (e : Station D) (floor : ℕ)
      → floor ≡ journal_floor (get_or stations place e).journal → floor ≡ LIMIT
      → HasTakenNumber d stations stations name Spent
  takes-none e floor is spent = (listed, floor-at e floor is ∙ spent, refl)

  pub may-take : (e : Station D) (floor number : ℕ)
      → floor ≡ journal_floor (get_or stations place e).journal → floor + 1 ≡ number
      → number ≤ LIMIT → All (FitsOf d) stations → MayCommitAt d stations place number
  may-take e floor number is next within fits =
      let A : List (Station D) → Type 0 = λ l. All (FitsOf d) l in
      let its : floor ≡ journal_floor p.one.journal =
      is ∙ ap (λ (x : Station D). journal_floor x.journal) (one-at e) in
      record {
        front = p.front;
        one = p.one;
        back = p.back;
        is = p.is;
        at = p.at;
        fits = all-one (FitsOf d) p.front p.one p.back (subst A p.is fits);
        rises = omega arith;
        within = within;
      }

  pub may-commit : (e : Station D) (floor number : ℕ)
      → floor ≡ journal_floor (get_or stations place e).journal → (number ≤ floor → ⊥)
      → number ≤ LIMIT → All (FitsOf d) stations → MayCommitAt d stations place number
  may-commit e floor number is above within fits =
      let A : List (Station D) → Type 0 = λ l. All (FitsOf d) l in
      let its : floor ≡ journal_floor p.one.journal =
      is ∙ ap (λ (x : Station D). journal_floor x.journal) (one-at e) in
      let rises : floor < number =
      ⊎_elim (λ less. less) (λ not_less. absurd (above (omega arith))) (cases_lt floor number) in
      record {
        front = p.front;
        one = p.one;
        back = p.back;
        is = p.is;
        at = p.at;
        fits = all-one (FitsOf d) p.front p.one p.back (subst A p.is fits);
        rises = omega arith;
        within = within;
      }

  pub not-above : (e : Station D) (floor number : ℕ)
      → floor ≡ journal_floor (get_or stations place e).journal → number ≤ floor
      → HasCommittedOrNot d stations stations name number false
  not-above e floor number is few = let at = floor-at e floor is in (omega arith, refl)

  module _ (number : ℕ) (new : List (Station D)) (r : Result (Unit {0}) JournalFault)
      (b : CommitsBetween d new p.front p.one p.back number r) where
    abbrev changed : ChangesFirst d stations new name
    changed = record {
      front = p.front;
      before = p.one;
      after = b.after;
      back = p.back;
      old_is = p.is;
      new_is = b.new_is;
      named = p.named;
      first = p.first;
    }

    pub commits-number : (x : Unit {0}) → r ≡ Ok x
        → HasCommittedOrNot d stations new name number true
    commits-number x ok =
        let R : Result (Unit {0}) JournalFault → Type 0 = λ r.
        OnOk r (CommitsOne d p.one b.after number) in
        record { one = changed; done = subst R ok b.done }

    pub commits-fault : (x : JournalFault) → r ≡ Err x → HasFailedAt d stations new name number
    commits-fault x err =
        let R : Result (Unit {0}) JournalFault → Type 0 = λ r.
        OnErr r (FailsOne d p.one b.after number) in
        record { one = changed; failed = subst R err b.failed }

  module _ (e : Station D) (floor number : ℕ)
      (is : floor ≡ journal_floor (get_or stations place e).journal) (next : floor + 1 ≡ number)
      (within : number ≤ LIMIT) (new : List (Station D)) (r : Result (Unit {0}) JournalFault)
      (b : CommitsBetween d new p.front p.one p.back number r) where
    abbrev changes : ChangesFirst d stations new name
    changes = record {
      front = p.front;
      before = p.one;
      after = b.after;
      back = p.back;
      old_is = p.is;
      new_is = b.new_is;
      named = p.named;
      first = p.first;
    }

    pub takes-number : (x : Unit {0}) → r ≡ Ok x → HasTakenNumber d stations new name (Number number)
    takes-number x ok =
        let at = floor-at e floor is in
        let R : Result (Unit {0}) JournalFault → Type 0 = λ r.
        OnOk r (CommitsOne d p.one b.after number) in
        (omega arith, omega arith, record { one = changes; done = subst R ok b.done })

    pub takes-fault : (x : JournalFault) → r ≡ Err x → HasFailedNext d stations new name
    takes-fault x err =
        let at = floor-at e floor is in
        let R : Result (Unit {0}) JournalFault → Type 0 = λ r.
        OnErr r (FailsOne d p.one b.after number) in
        let number_is : number ≡ table_floor LIMIT (table_of stations) name + 1 = omega arith in
        let N : ℕ → Type 0 = λ n. HasFailedAt d stations new name n in
        record {
          left = omega arith;
          failed = subst N number_is (record { one = changes; failed = subst R err b.failed });
        }

pub within-limit : (floor : ℕ) → floor ≤ LIMIT → (floor ≡ LIMIT → ⊥) → floor + 1 ≤ LIMIT
within-limit floor below other =
    ⊎_elim (λ less. omega arith) (λ not_less. absurd (other (omega arith))) (cases_lt floor LIMIT)
