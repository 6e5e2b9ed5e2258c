-- How the receiver of several stations takes a tick: the receiver of one station goes on, or is begun
-- anew.
use Rattle.frame_ending.proofs.{Dividing.longer-line, Running.start-tick}
use Rattle.frame_ending.specs.Answers.{AnswersTick}
use Rattle.frame_ending.specs.{Cuts.cut_of, Stands.CutStandsFor, Stands.ticks_taken as ticks_cut}
use Rattle.frame_ending.specs.declared.box_step.BoxStep.{BoxStep}
use Rattle.frame_ending.specs.declared.burst_cut.BurstCut.{BurstCut}
use Rattle.frame_ending.specs.declared.cut.Cut.{Cut}
use Rattle.frame_ending.specs.declared.cut.Cut.TheVariants.{Start, Live, Extra, Pause, Closed, Quiet}
use Rattle.line_rules.specs.declared.line_rules.LineRules.{Ghosts as LineRules}
use Rattle.link_box.specs.Checking.{at_floor, brief_note}
use Rattle.link_box.specs.declared.check_note.CheckNote.{CheckNote}
use Rattle.link_box.specs.declared.check_note.CheckNote.TheVariants.{Passed, Refused, Dropped}
use Rattle.link_box.specs.declared.check_note.DroppedWhy.TheVariants.{Busy, Head as NoHead}
use Rattle.link_format.specs.declared.tag.Mac.{Ghosts as Mac}
use Rattle.link_format.specs.{Setup.Setup, Tag.direction_number}
use Rattle.check_receiver.proofs.Beginnings.{byte-begins}
use Rattle.check_receiver.specs.{Checkings.CheckerCommitsNoted, Checkings.CheckerKeepsJournal}
use Rattle.check_receiver.specs.Stands.{CheckerHasTaken}
use Rattle.check_receiver.specs.Stands.{CheckerStandsAt, CheckerStandsFor}
use Rattle.check_receiver.specs.declared.checker.Checker.{Checker}
use Rattle.sequence_journal.specs.{Journal.RefusesInit, Journal.journal_floor, Slots.greatest}
use Rattle.sequence_journal.specs.declared.journal.{InitError.InitError, JournalFault.JournalFault}
use Rattle.sequence_journal.specs.declared.journal.InitError.TheVariants.{Fault, Stands}
use Rattle.sequence_journal.specs.declared.link.LinkId.{LinkId}
use Rattle.sequence_journal.specs.declared.journal.Journal.{Journal}
use Rattle.station_boxes.proofs.CheckSteps.{GoesOn, goes-busy, goes-open, goes-silent, turn-floors}
use Rattle.station_boxes.proofs.CheckSteps.{turn-free, turn-parts, turn-serves}
use Rattle.station_boxes.proofs.Parts.{extra-open, live-open, no-bursts, parts-begin}
use Rattle.station_boxes.specs.CheckBetween.{IsCutNext, IsHeard, IsTurned, UsesNoted, is_busy}
use Rattle.station_boxes.specs.CheckStands.{StationsCheckFor}
use Rattle.station_boxes.specs.CheckWalks.{ServesFirst, floors_since, setup_of_one, state_at}
use Rattle.station_boxes.specs.CheckWalks.{checking_walk, walk_of}
use Rattle.station_boxes.specs.Stands.{Agrees}
use Rattle.station_boxes.specs.Walks.{StationSetup, begun_at}
use Rattle.station_boxes.specs.declared.naming.Naming.TheVariants.{FirstByte}
use Rattle.frame_ending.specs.Walk.{state_after}
use Rattle.station_boxes.specs.declared.checker.StationChecker.{StationChecker}
use Rattle.stations.specs.Shared.{SharedState}
use Rattle.stations.specs.Table.{StationEntry, table_key}
use Rattle.yasir_io.specs.declared.disk.SlotDisk.{Ghosts as SlotDisk}
use Rattle.std.proofs.Common.{◌≡◌, ◌∙◌, ◌⊎◌, ◌==◌, ℕ, ◌+◌, true, false, List, [], ◌∷◌, ◌++◌, length}
use Rattle.std.proofs.Common.{refl, sym, ap, subst, arith, ⊎_elim, Option, Some, None}
use Rattle.std.proofs.Common.{◌-◌, ◌^◌, ◌≤◌, min, Result, Ok, Err, IfErr, IfOk}
use Rattle.std.specs.Result.{IsOk}
use Rattle.yasir_io.specs.{Causes.HasCause, Disks.Slots}
use Rattle.std.proofs.lemmas.Bool.{cases_Bool, cond-true, cond-false, eqb-true}
use Rattle.yasir_ticks.specs.Bursts.{Burst, bursts, AreClosed}
use Rattle.yasir_ticks.specs.declared.tick.Tick.{Tick, TheVariants.Silent, TheVariants.Byte}

-- ---- small facts

-- A table that agrees with some floors agrees with others that are the same for each name.
pub agrees-same : (now start : List StationEntry) (f g : ℕ → ℕ) → ((j : ℕ) → f j ≡ g j)
    → Agrees now start (record { floors = f; free_from = 0 })
    → Agrees now start (record { floors = g; free_from = 0 })
agrees-same now start f g same old = record {
  listed = old.listed;
  keys = old.keys;
  floors = λ i. old.floors i ∙ same i;
}

-- The floor that a name has anyway changes nothing.
pub own-floor : {R M : Type 0} (proto : LineRules R) (macs : Mac M) (B : ℕ) (setup : StationSetup)
    (f : ℕ → ℕ) (i n : ℕ) → n ≡ f i → (l : List Burst) (j : ℕ)
    → f j ≡ floors_since proto macs B setup f i n l j
own-floor proto macs B setup f i n is [] j = refl
own-floor proto macs B setup f i n is (d ∷ l) j =
    ⊎_elim
    (λ same. sym (cond-true (i == j) n (f j) same ∙ (is ∙ ap f (eqb-true i j same))))
    (λ other. sym (cond-false (i == j) n (f j) other))
    (cases_Bool (i == j))

pub busy-is : (o : Option CheckNote) → is_busy o ≡ true
    → (start : ℕ) × (o ≡ Some (Dropped start Busy))
busy-is None is = absurd cc
busy-is (Some (Passed number start len)) is = absurd cc
busy-is (Some (Refused start why)) is = absurd cc
busy-is (Some (Dropped start Busy)) is = (start, refl)
busy-is (Some (Dropped start NoHead)) is = absurd cc

pub not-busy-is : (o : Option CheckNote) (start : ℕ) → is_busy o ≡ false
    → o ≡ Some (Dropped start Busy) → ⊥
not-busy-is o start free is =
    let never : true ≡ false = sym (ap is_busy is) ∙ free in
    cc

abbrev NoStart : Cut → Type 0
NoStart (Start b) = ⊥
NoStart (Live b) = Unit {0}
NoStart (Extra b) = Unit {0}
NoStart (Pause n) = Unit {0}
NoStart Closed = Unit {0}
NoStart Quiet = Unit {0}

-- a tick that is something else begins no burst
pub no-start-is : (cut : Cut) → ((n : ℕ) × (cut ≡ Live n)) ⊎ (((n : ℕ) × (cut ≡ Extra n))
    ⊎ (((n : ℕ) × (cut ≡ Pause n)) ⊎ ((cut ≡ Closed) ⊎ (cut ≡ Quiet))))
    → (b : ℕ) → cut ≡ Start b → ⊥
no-start-is cut which b begins =
    let P : Cut → Type 0 = λ c. NoStart c in
    let none : NoStart cut =
    ⊎_elim (λ live. subst P (sym live.1) tt)
    (λ others. ⊎_elim (λ extra. subst P (sym extra.1) tt)
    (λ rest. ⊎_elim (λ pause. subst P (sym pause.1) tt)
    (λ ends. ⊎_elim (λ closed. subst P (sym closed) tt) (λ quiet. subst P (sym quiet) tt) ends)
    rest) others) which in
    subst P begins none

uses-noted : {S : Type 0} (d : SlotDisk S) (old new : Journal) (disk_old disk_new : S)
    (note : Option CheckNote) → CheckerCommitsNoted d old new disk_old disk_new note
    → UsesNoted (journal_floor old) (journal_floor new) note
uses-noted d old new disk_old disk_new (Some (Passed number start len)) has = (has.above, has.floor)
uses-noted d old new disk_old disk_new (Some (Refused start why)) same = ap journal_floor same.0
uses-noted d old new disk_old disk_new (Some (Dropped start why)) same = ap journal_floor same.0
uses-noted d old new disk_old disk_new None same = ap journal_floor same.0

-- A step of the receiver of one station uses the number of its note.
pub uses-of : {S : Type 0} (d : SlotDisk S) (old new : Journal) (disk_old disk_new : S)
    (result : Result (BoxStep CheckNote) JournalFault)
    → CheckerKeepsJournal d old new disk_old disk_new result
    → (step : BoxStep CheckNote) → result ≡ Ok step
    → UsesNoted (journal_floor old) (journal_floor new) step.note
uses-of d old new disk_old disk_new result keeps step is =
    let P : Result (BoxStep CheckNote) JournalFault → Type 0 = λ r.
    IfOk r (λ s. CheckerCommitsNoted d old new disk_old disk_new s.note) in
    uses-noted d old new disk_old disk_new step.note (subst P is keeps.commits)

-- A disk whose count of faults can't rise fails no call.
pub never-fails : {A E : Type 0} (r : Result A E) → HasCause 0 0 r → IsOk r
never-fails (Ok x) cause = refl
never-fails (Err e) cause =
    let rose : min (0 + 1) (2 ^ 64 - 1) ≤ 0 = cause.failed in
    absurd (omega arith)

-- A journal is made on a disk without numbers whose count of faults can't rise.
pub init-never-fails : (r : Result Journal InitError) (link : LinkId) (slots : Slots)
    (new : Option Slots) → greatest slots ≡ None → IfErr r (RefusesInit link (Some slots) new 0 0)
    → IsOk r
init-never-fails (Ok x) link slots new none refused = refl
init-never-fails (Err Fault) link slots new none refused =
    let rose : min (0 + 1) (2 ^ 64 - 1) ≤ 0 = refused.0 in
    absurd (omega arith)
init-never-fails (Err (Stands floor)) link slots new none refused =
    let never : None ≡ Some floor = sym none ∙ refused.0 in
    absurd cc

-- ---- the receiver takes a tick

-- Holds if only the receiver of one station and its numbers have taken the tick `t`.
pub record TakesOne {R M : Type 0} (proto : LineRules R) (macs : Mac M) {B D : ℕ}
    (value new : StationChecker R M B D) (t : Tick) (step : BoxStep CheckNote) : Type 0 where
  pub others : new ≡ record value { checker = new.checker; journal = new.journal }
  pub takes : (one : Setup) (since : List Tick)
      → CheckerStandsFor proto macs value.checker value.journal one since
      → CheckerHasTaken proto macs new.checker (journal_floor new.journal) one since t step
  pub used : UsesNoted (journal_floor value.journal) (journal_floor new.journal) step.note

module _ {R M : Type 0} (proto : LineRules R) (macs : Mac M) {B D : ℕ}
    (value new : StationChecker R M B D) (now : List StationEntry) (setup : StationSetup)
    (line : List Tick) (t : Tick) (cut : Cut) (next : IsCutNext proto macs value now setup line t cut)
    (step : BoxStep CheckNote) (does : TakesOne proto macs value new t step) where
  abbrev stands : StationsCheckFor proto macs next.old now setup line
  stands = next.stands

  abbrev old : StationChecker R M B D
  old = next.old

  abbrev floors_then : ℕ → ℕ
  floors_then = (state_at proto macs B setup stands.before).floors

  same-journal : value.journal ≡ old.journal
  same-journal = ap (λ (v : StationChecker R M B D). v.journal) next.value_is

  stood : CheckerStandsFor proto macs value.checker value.journal stands.one stands.since
  stood =
      let C : Checker R M B D → Type 0 = λ c.
      CheckerStandsFor proto macs c old.journal stands.one stands.since in
      let J : Journal → Type 0 = λ j.
      CheckerStandsFor proto macs value.checker j stands.one stands.since in
      subst J (sym same-journal)
      (subst C (sym (ap (λ (v : StationChecker R M B D). v.checker) next.value_is)) stands.one_stands)

  pub taken : CheckerHasTaken proto macs new.checker (journal_floor new.journal) stands.one
      stands.since t step
  taken = does.takes stands.one stands.since stood

  abbrev On : Tick → Type 0
  On u = GoesOn proto macs B stands.one_stands.wide setup stands.before stands.since line stands.parts
      stands.free stands.one old.station stands.serves u

  -- The receiver of one station goes on.
  goes-on : On t → IsHeard proto macs new now setup line t step
  goes-on on =
      let cut_is : new.cut ≡ value.cut = ap (λ (v : StationChecker R M B D). v.cut) does.others in
      let P : BurstCut R → Type 0 = λ c. CutStandsFor proto c (line ++ t ∷ []) in
      let station_is : new.station ≡ old.station =
      ap (λ (v : StationChecker R M B D). v.station) does.others
      ∙ ap (λ (v : StationChecker R M B D). v.station) next.value_is in
      let S : ℕ → Type 0 = λ name. ServesFirst proto macs B setup floors_then stands.one name
      (bursts (stands.since ++ t ∷ [])) in
      let last_is : journal_floor value.journal ≡ journal_floor old.journal =
      ap journal_floor same-journal in
      let F : ℕ → ℕ → ℕ → ℕ = λ name last j. floors_since proto macs B setup floors_then name last
      (bursts (stands.since ++ t ∷ [])) j in
      record {
        wide = stands.one_stands.wide;
        naming_is = stands.naming_is;
        direction_is = ap (λ (v : StationChecker R M B D). direction_number v.direction) does.others
            ∙ (ap (λ (v : StationChecker R M B D). direction_number v.direction) next.value_is
            ∙ stands.direction_is);
        cuts = subst P (sym cut_is) next.cuts;
        before = stands.before;
        since = stands.since;
        parts = stands.parts;
        since_is = ap (λ (v : StationChecker R M B D). v.since) does.others
            ∙ (ap (λ (v : StationChecker R M B D). v.since) next.value_is ∙ stands.since_is);
        free = stands.free;
        one = stands.one;
        taken = taken;
        serves = subst S (sym station_is) on.0;
        last = journal_floor value.journal;
        used = does.used;
        agrees = agrees-same now setup.table
            (floors_since proto macs B setup floors_then old.station (journal_floor old.journal)
            (bursts stands.since))
            (floors_since proto macs B setup floors_then new.station (journal_floor value.journal)
            (bursts (stands.since ++ t ∷ [])))
            (λ j. on.1 (journal_floor old.journal) j
            ∙ (ap (λ n. F n (journal_floor old.journal) j) (sym station_is)
            ∙ ap (λ n. F new.station n j) (sym last_is)))
            stands.agrees;
      }

  -- If no burst begins, it goes on.
  pub no-start : ((b : ℕ) → cut ≡ Start b → ⊥) → IsHeard proto macs new now setup line t step
  no-start none = goes-on (by t refl) where
    by : (u : Tick) → u ≡ t → On u
    by Silent is = goes-silent proto macs B stands.one_stands.wide setup stands.before stands.since
        line stands.parts stands.free stands.one old.station stands.serves
    by (Byte b) is =
        goes-open proto macs B stands.one_stands.wide setup stands.before stands.since line
        stands.parts stands.free stands.one old.station stands.serves stands.naming_is (Byte b)
        (λ closed. none b (sym next.is_cut ∙ (ap (λ u. cut_of proto.rules line u) (sym is)
        ∙ byte-begins proto.rules line b
        (λ lives. live-open proto.rules proto.lawful line b lives closed)
        (λ over. extra-open proto.rules proto.lawful line b over closed))))

  -- ---- a burst begins

  module _ (b : ℕ) (begins : cut ≡ Start b) where
    tick_is : t ≡ Byte b
    tick_is = start-tick proto.rules line t b (next.is_cut ∙ begins)

    starts : cut_of proto.rules line (Byte b) ≡ Start b
    starts = ap (λ u. cut_of proto.rules line u) (sym tick_is) ∙ (next.is_cut ∙ begins)

    abbrev Answers : Tick → Type 0
    Answers u = AnswersTick (walk_of proto macs B setup stands.one) brief_note
        (at_floor stands.one.floor) stands.since u step.tick step.note

    answers : Answers (Byte b)
    answers = subst Answers tick_is taken.answers

    -- If the burst is dropped since others are still leaving, the receiver of one station goes on.
    pub start-busy : is_busy step.note ≡ true → IsHeard proto macs new now setup line t step
    start-busy busy =
        let drop = busy-is step.note busy in
        goes-on (subst On (sym tick_is) (goes-busy proto macs B stands.one_stands.wide setup
        stands.before stands.since line stands.parts stands.free stands.one old.station stands.serves
        b starts step.tick step.note answers stands.naming_is drop.0 drop.1))

    -- Otherwise it is begun anew.
    module _ (free : is_busy step.note ≡ false) (turned after : StationChecker R M B D)
        (anew : IsTurned proto macs new turned now b) (second : BoxStep CheckNote)
        (again : TakesOne proto macs turned after t second) where
      abbrev s : SharedState
      s = state_at proto macs B setup line

      floors_are : (j : ℕ) → s.floors j ≡ floors_since proto macs B setup floors_then old.station
          (journal_floor old.journal) (bursts stands.since) j
      floors_are j = turn-floors proto macs B stands.one_stands.wide setup stands.before stands.since
          line stands.parts stands.free stands.one old.station stands.serves b starts step.tick
          step.note answers (journal_floor old.journal) _ _ _ _ _ _ stands.one_stands.walks.walked j

      floor_is : journal_floor turned.journal ≡ s.floors b
      floor_is = anew.floor ∙ (stands.agrees.floors b ∙ sym (floors_are b))

      abbrev one_now : Setup
      one_now = setup_of_one proto macs B setup b (s.floors b)

      direction_is : direction_number new.direction ≡ setup.direction
      direction_is = ap (λ (v : StationChecker R M B D). direction_number v.direction) does.others
          ∙ (ap (λ (v : StationChecker R M B D). direction_number v.direction) next.value_is
          ∙ stands.direction_is)

      abbrev StandsAs : List ℕ → ℕ → ℕ → Type 0
      StandsAs key direction floor =
          let x : Setup = record { key = key; direction = direction; floor = floor } in
          CheckerStandsAt proto macs turned.checker (journal_floor turned.journal) x []

      stood-anew : CheckerStandsFor proto macs turned.checker turned.journal one_now []
      stood-anew =
          let n : ℕ = journal_floor turned.journal in
          let key : List ℕ = table_key setup.table b in
          subst (λ f. StandsAs key setup.direction f) floor_is
          (subst (λ d. StandsAs key d n) direction_is
          (subst (λ k. StandsAs k (direction_number new.direction) n) (stands.agrees.keys b)
          (anew.stands n)))

      cut_is : after.cut ≡ value.cut
      cut_is = ap (λ (v : StationChecker R M B D). v.cut) again.others
          ∙ (ap (λ (v : StationChecker R M B D). v.cut) anew.others
          ∙ ap (λ (v : StationChecker R M B D). v.cut) does.others)

      station_is : after.station ≡ b
      station_is = ap (λ (v : StationChecker R M B D). v.station) again.others
          ∙ ap (λ (v : StationChecker R M B D). v.station) anew.others

      since_is : after.since ≡ length line
      since_is =
          let same : after.since ≡ turned.since =
          ap (λ (v : StationChecker R M B D). v.since) again.others in
          let one_more : turned.since + 1 ≡ ticks_cut new.cut = anew.since in
          let cut_same : ticks_cut new.cut ≡ ticks_cut value.cut =
          ap (λ (v : StationChecker R M B D). ticks_cut v.cut) does.others in
          let count : ticks_cut value.cut ≡ length (line ++ t ∷ []) = next.cuts.count in
          let long = longer-line line t in
          omega arith

      served : ServesFirst proto macs B setup s.floors one_now after.station
          (bursts ([] ++ t ∷ []))
      served =
          let N : ℕ → Type 0 = λ n. ServesFirst proto macs B setup s.floors one_now n
          (bursts ([] ++ t ∷ [])) in
          let T : Tick → Type 0 = λ u. ServesFirst proto macs B setup s.floors one_now b
          (bursts ([] ++ u ∷ [])) in
          subst N (sym station_is) (subst T (sym tick_is)
          (turn-serves proto macs B stands.one_stands.wide setup stands.before stands.since line
          stands.parts stands.free stands.one old.station stands.serves b starts step.tick step.note
          answers stands.naming_is one_now s.floors refl))

      pub start-anew : IsHeard proto macs after now setup line t second
      start-anew =
          let P : BurstCut R → Type 0 = λ c. CutStandsFor proto c (line ++ t ∷ []) in
          let n : ℕ = journal_floor turned.journal in
          let l : List Burst = bursts ([] ++ t ∷ []) in
          record {
            wide = stands.one_stands.wide;
            naming_is = stands.naming_is;
            direction_is =
                ap (λ (v : StationChecker R M B D). direction_number v.direction) again.others
                ∙ (ap (λ (v : StationChecker R M B D). direction_number v.direction) anew.others
                ∙ direction_is);
            cuts = subst P (sym cut_is) next.cuts;
            before = line;
            since = [];
            parts = turn-parts proto macs B stands.one_stands.wide setup stands.before stands.since
                line stands.parts stands.free stands.one old.station stands.serves b starts step.tick
                step.note answers;
            since_is = since_is;
            free = turn-free proto macs B stands.one_stands.wide setup stands.before stands.since line
                stands.parts stands.free stands.one old.station stands.serves b starts step.tick
                step.note answers (journal_floor old.journal) _ _ _ _ _ _
                stands.one_stands.walks.walked
                (not-busy-is step.note (length stands.since) free);
            one = one_now;
            taken = again.takes one_now [] stood-anew;
            serves = served;
            last = n;
            used = again.used;
            agrees = agrees-same now setup.table
                (floors_since proto macs B setup floors_then old.station (journal_floor old.journal)
                (bursts stands.since))
                (floors_since proto macs B setup s.floors after.station n l)
                (λ j. sym (floors_are j)
                ∙ (own-floor proto macs B setup s.floors b n floor_is l j
                ∙ ap (λ i. floors_since proto macs B setup s.floors i n l j) (sym station_is)))
                stands.agrees;
          }

-- The value that cuts the line takes the tick first.
pub cut-next : {R M : Type 0} (proto : LineRules R) (macs : Mac M) {B D : ℕ}
    (old : StationChecker R M B D) (after : BurstCut R) (now : List StationEntry)
    (setup : StationSetup) (line : List Tick) (t : Tick) (cut : Cut)
    → StationsCheckFor proto macs old now setup line
    → ((link : List Tick) → CutStandsFor proto old.cut link → CutStandsFor proto after (link ++ t ∷ []))
    → ((link : List Tick) → CutStandsFor proto old.cut link → cut ≡ cut_of proto.rules link t)
    → IsCutNext proto macs (record old { cut = after }) now setup line t cut
cut-next proto macs old after now setup line t cut stands goes says = record {
  old = old;
  stands = stands;
  value_is = refl;
  cuts = goes line stands.cuts;
  is_cut = sym (says line stands.cuts);
}

-- ---- the start

-- A receiver that has taken no tick stands for no line, whatever table it serves.
pub begun-stands : {R M : Type 0} (proto : LineRules R) (macs : Mac M) {B D : ℕ}
    (value : StationChecker R M B D) (table : List StationEntry) (direction : ℕ)
    → direction_number value.direction ≡ direction → CutStandsFor proto value.cut []
    → value.since ≡ 0
    → (one : Setup) → CheckerStandsFor proto macs value.checker value.journal one []
    → StationsCheckFor proto macs value table
    (record { naming = FirstByte; direction = direction; table = table }) []
begun-stands proto macs {B = B} value table direction right cuts since one stood_one =
    let setup : StationSetup = record {
      naming = FirstByte;
      direction = direction;
      table = table;
    } in
    let C : List Burst → Type 0 = λ l. AreClosed 4 0 l in
    let state : state_at proto macs B setup [] ≡ begun_at setup =
    ap (λ l. state_after (checking_walk proto macs B setup) (begun_at setup) l) no-bursts in
    let F : SharedState → Type 0 = λ s. s.free_from ≤ 0 in
    let S : List Burst → Type 0 = λ l. ServesFirst proto macs B setup
    (state_at proto macs B setup []).floors one value.station l in
    record {
      naming_is = refl;
      direction_is = right;
      cuts = cuts;
      before = [];
      since = [];
      parts = parts-begin [] (subst C (sym no-bursts) tt);
      since_is = since;
      free = subst F (sym state) (omega arith);
      one = one;
      one_stands = stood_one;
      serves = subst S (sym no-bursts) tt;
      agrees = record {
        listed = λ i. refl;
        keys = λ i. refl;
        floors = λ i. sym (ap (λ l. floors_since proto macs B setup
            (state_at proto macs B setup []).floors value.station (journal_floor value.journal) l i)
            no-bursts ∙ ap (λ (s : SharedState). s.floors i) state);
      };
    }
