-- What the receiver of several stations returns of a tick that the receiver of one station has taken.
use Rattle.frame_ending.specs.{Answers.AnswersTick, SoFar.live_bytes_so_far, SoFar.start_so_far}
use Rattle.frame_ending.specs.declared.box_step.BoxStep.{BoxStep}
use Rattle.line_rules.specs.declared.line_rules.LineRules.{Ghosts as LineRules}
use Rattle.link_box.specs.Checking.{brief_note}
use Rattle.link_box.specs.declared.check_note.CheckNote.{CheckNote}
use Rattle.link_box.specs.declared.check_note.CheckNote.TheVariants as One
use Rattle.link_box.specs.declared.check_note.DroppedWhy.{DroppedWhy}
use Rattle.link_box.specs.declared.check_note.RefusedWhy.{RefusedWhy}
use Rattle.link_box.specs.declared.check_note.RefusedWhy.TheVariants as OneWhy
use Rattle.link_format.specs.declared.tag.Mac.{Ghosts as Mac}
use Rattle.sequence_journal.specs.Journal.{journal_floor}
use Rattle.sequence_journal.specs.declared.numbers.TheConstants.{LIMIT}
use Rattle.station_boxes.proofs.CheckSteps.{IsOnJudged, at_start, note-named, note-some, note-start}
use Rattle.station_boxes.proofs.CheckSteps.{step-answers, step-passes}
use Rattle.station_boxes.proofs.CheckTurns.{agrees-same}
use Rattle.station_boxes.proofs.{Joined.late_brief, Parts.parts-more, Tables.agrees-then}
use Rattle.station_boxes.specs.CheckBetween.{FailsPassed, IsHeard, UsesNoted, why_by}
use Rattle.station_boxes.specs.CheckStands.{StationsHaveChecked}
use Rattle.station_boxes.specs.CheckWalks.{checking_walk, floors_since, state_at}
use Rattle.station_boxes.specs.Checks.{IsCheckNamed, IsRefusedWhy, one_check, one_refused}
use Rattle.station_boxes.specs.Committing.{HasCommittedAt, HasFailedAt}
use Rattle.station_boxes.specs.{Names.name_in, Served.table_of, Stands.Agrees}
use Rattle.station_boxes.specs.Walks.{StationSetup, begun_at}
use Rattle.station_boxes.specs.declared.check_note.StationCheckNote.{StationCheckNote}
use Rattle.station_boxes.specs.declared.check_note.StationCheckNote.TheVariants.{Passed, Refused}
use Rattle.station_boxes.specs.declared.check_note.StationCheckNote.TheVariants.{Dropped}
use Rattle.station_boxes.specs.declared.checker.StationChecker.{StationChecker}
use Rattle.station_boxes.specs.declared.station.Station.{Station}
use Rattle.stations.specs.Shared.{SharedState, with_floor}
use Rattle.stations.specs.Table.{StationEntry, has_station, table_floor}
use Rattle.std.proofs.Common.{◌≡◌, ◌∙◌, ◌==◌, ℕ, ◌<◌, ◌≤◌, Bool, true, false, List, [], ◌∷◌, ◌++◌}
use Rattle.std.proofs.Common.{length, refl, sym, ap, subst, arith, Option, Some, None, IfSome}
use Rattle.std.proofs.Common.{if◌then◌else◌}
use Rattle.std.proofs.lemmas.Bool.{cond-true, eq-eqb}
use Rattle.std.specs.Prelude.{option_map}
use Rattle.yasir_io.specs.declared.disk.SlotDisk.{Ghosts as SlotDisk}
use Rattle.yasir_ticks.specs.Bursts.{Burst, bursts}
use Rattle.yasir_ticks.specs.declared.tick.Tick.{Tick}

-- ---- reasons

why-back : (b : Bool) (why : RefusedWhy) → one_refused (why_by b why) ≡ why
why-back b OneWhy.Trailer = refl
why-back b OneWhy.Form = refl
why-back true OneWhy.Number = refl
why-back false OneWhy.Number = refl
why-back b OneWhy.Tag = refl

why-named : (table : List StationEntry) (name : ℕ) (b : Bool) (why : RefusedWhy)
    → b ≡ has_station table name → IsRefusedWhy table name (why_by b why)
why-named table name b OneWhy.Trailer is = tt
why-named table name b OneWhy.Form is = tt
why-named table name true OneWhy.Number is = sym is
why-named table name false OneWhy.Number is = sym is
why-named table name b OneWhy.Tag is = tt

-- ---- floors

module _ {R M : Type 0} (proto : LineRules R) (macs : Mac M) (B : ℕ) (setup : StationSetup)
    (f : ℕ → ℕ) (name last : ℕ) where
  abbrev since_floors : ℕ → List Burst → ℕ → ℕ
  since_floors n l = floors_since proto macs B setup f name n l

  -- the last of two numbers counts
  pub twice : (n : ℕ) (l : List Burst) → (l ≡ [] → ⊥) → (j : ℕ)
      → with_floor (since_floors last l) name n j ≡ since_floors n l j
  twice n [] some j = absurd (some refl)
  twice n (d ∷ l) some j = by (name == j) where
    by : (b : Bool) → (if b then n else (if b then last else f j)) ≡ (if b then n else f j)
    by true = refl
    by false = refl

  pub own-last : (l : List Burst) → (l ≡ [] → ⊥) → since_floors last l name ≡ last
  own-last [] some = absurd (some refl)
  own-last (d ∷ l) some = cond-true (name == name) last (f name) (eq-eqb name name refl)

-- ---- what is returned

module _ {R M S : Type 0} (proto : LineRules R) (macs : Mac M) {B D : ℕ} (disk : SlotDisk S)
    (value : StationChecker R M B D) (stations new : List (Station S)) (setup : StationSetup)
    (line : List Tick) (t : Tick) (step : BoxStep CheckNote)
    (heard : IsHeard proto macs value (table_of stations) setup line t step) where
  abbrev floors_then : ℕ → ℕ
  floors_then = (state_at proto macs B setup heard.before).floors

  abbrev es : List Burst
  es = bursts (heard.since ++ t ∷ [])

  abbrev floors_with : ℕ → ℕ → ℕ
  floors_with n = floors_since proto macs B setup floors_then value.station n es

  abbrev named : ℕ
  named = name_in setup.naming (live_bytes_so_far proto.rules (line ++ t ∷ []))

  abbrev AgreesWith : List StationEntry → (ℕ → ℕ) → Type 0
  AgreesWith now floors = Agrees now setup.table (record { floors = floors; free_from = 0 })

  -- The receiver has taken the tick, the table `now` has the floors after it, and the note is that
  -- of the receiver of one station.
  told-with : (now : List StationEntry) → AgreesWith now (floors_with (journal_floor value.journal))
      → (told : BoxStep StationCheckNote) → told.tick ≡ step.tick
      → option_map one_check told.note ≡ option_map (late_brief (length heard.before)) step.note
      → IfSome told.note (IsCheckNamed setup.table named)
      → StationsHaveChecked proto macs value now setup line t told
  told-with now agrees told tick_is note_is is_named =
      let A : Tick → Option CheckNote → Type 0 = λ u o.
      AnswersTick (checking_walk proto macs B setup) brief_note (begun_at setup) line t u o in
      let one = step-answers proto macs B heard.wide setup heard.before heard.since line t heard.parts
      heard.free heard.one value.station heard.serves step.tick step.note heard.taken.answers in
      record {
        stands = record {
          naming_is = heard.naming_is;
          direction_is = heard.direction_is;
          cuts = heard.cuts;
          before = heard.before;
          since = heard.since ++ t ∷ [];
          parts = parts-more heard.before heard.since line t heard.parts;
          since_is = heard.since_is;
          free = heard.free;
          one = heard.one;
          one_stands = heard.taken.stands;
          serves = heard.serves;
          agrees = agrees;
        };
        answers = subst (λ o. A told.tick o) (sym note_is)
            (subst (λ u. A u (option_map (late_brief (length heard.before)) step.note)) (sym tick_is)
            one);
        named = is_named;
      }

  -- If no number was used, the table stays.
  agrees-still : (o : Option CheckNote) → step.note ≡ o
      → (UsesNoted heard.last (journal_floor value.journal) o
      → journal_floor value.journal ≡ heard.last)
      → AgreesWith (table_of stations) (floors_with (journal_floor value.journal))
  agrees-still o is stays =
      let U : Option CheckNote → Type 0 = λ x. UsesNoted heard.last (journal_floor value.journal) x in
      let same : journal_floor value.journal ≡ heard.last = stays (subst U is heard.used) in
      agrees-same (table_of stations) setup.table (floors_with heard.last)
      (floors_with (journal_floor value.journal)) (λ j. ap (λ n. floors_with n j) (sym same))
      heard.agrees

  module _ (told : BoxStep StationCheckNote) (tick_is : told.tick ≡ step.tick) where
    pub told-none : step.note ≡ None → told.note ≡ None
        → StationsHaveChecked proto macs value (table_of stations) setup line t told
    told-none is none =
        let I : Option StationCheckNote → Type 0 = λ o. IfSome o (IsCheckNamed setup.table named) in
        told-with (table_of stations) (agrees-still None is (λ x. x)) told tick_is
        (ap (λ o. option_map one_check o) none
        ∙ sym (ap (λ o. option_map (late_brief (length heard.before)) o) is))
        (subst I (sym none) tt)

    module _ (note : CheckNote) (is : step.note ≡ Some note) (from : ℕ)
        (from_is : from ≡ start_so_far (line ++ t ∷ [])) where
      some : es ≡ [] → ⊥
      some = note-some proto macs B heard.wide setup heard.before heard.since line t heard.parts
          heard.free heard.one value.station heard.serves step.tick step.note heard.taken.answers note
          is

      starts : late_brief (length heard.before) note ≡ at_start from note
      starts = note-start proto macs B heard.wide setup heard.before heard.since line t heard.parts
          heard.free heard.one value.station heard.serves step.tick step.note heard.taken.answers note
          is ∙ ap (λ i. at_start i note) (sym from_is)

      names : IsOnJudged note → named ≡ value.station
      names = note-named proto macs B heard.wide setup heard.before heard.since line t heard.parts
          heard.free heard.one value.station heard.serves step.tick step.note heard.taken.answers note
          is

      -- the receiver of several stations tells this note
      told-some : (now : List StationEntry)
          → AgreesWith now (floors_with (journal_floor value.journal)) → (its : StationCheckNote)
          → told.note ≡ Some its → one_check its ≡ at_start from note
          → IsCheckNamed setup.table named its
          → StationsHaveChecked proto macs value now setup line t told
      told-some now agrees its note_is same is_named =
          let I : Option StationCheckNote → Type 0 = λ o. IfSome o (IsCheckNamed setup.table named) in
          told-with now agrees told tick_is
          (ap (λ o. option_map one_check o) note_is
          ∙ (ap (λ x. Some x) (same ∙ sym starts)
          ∙ sym (ap (λ o. option_map (late_brief (length heard.before)) o) is)))
          (subst I (sym note_is) is_named)

  module _ (told : BoxStep StationCheckNote) (tick_is : told.tick ≡ step.tick) (from : ℕ)
      (from_is : from ≡ start_so_far (line ++ t ∷ [])) where
    pub told-dropped : (start : ℕ) (why : DroppedWhy) → step.note ≡ Some (One.Dropped start why)
        → told.note ≡ Some (Dropped from why)
        → StationsHaveChecked proto macs value (table_of stations) setup line t told
    told-dropped start why is note_is =
        told-some told tick_is (One.Dropped start why) is from from_is (table_of stations)
        (agrees-still (Some (One.Dropped start why)) is (λ x. x)) (Dropped from why) note_is refl tt

    pub told-refused : (start : ℕ) (why : RefusedWhy) → step.note ≡ Some (One.Refused start why)
        → (listed : Bool) → listed ≡ has_station (table_of stations) value.station
        → told.note ≡ Some (Refused from (why_by listed why))
        → StationsHaveChecked proto macs value (table_of stations) setup line t told
    told-refused start why is listed listed_is note_is =
        let name_is : named ≡ value.station =
        names told tick_is (One.Refused start why) is from from_is tt in
        told-some told tick_is (One.Refused start why) is from from_is (table_of stations)
        (agrees-still (Some (One.Refused start why)) is (λ x. x)) (Refused from (why_by listed why))
        note_is (ap (λ w. One.Refused from w) (why-back listed why))
        (why-named setup.table named listed why
        (listed_is ∙ (heard.agrees.listed value.station
        ∙ ap (λ i. has_station setup.table i) (sym name_is))))

  -- ---- a frame passes

  module _ (number start len : ℕ) (is : step.note ≡ Some (One.Passed number start len)) where
    uses : UsesNoted heard.last (journal_floor value.journal) (Some (One.Passed number start len))
    uses =
        let U : Option CheckNote → Type 0 = λ x.
        UsesNoted heard.last (journal_floor value.journal) x in
        subst U is heard.used

    names-passed : named ≡ value.station
    names-passed = note-named proto macs B heard.wide setup heard.before heard.since line t heard.parts
        heard.free heard.one value.station heard.serves step.tick step.note heard.taken.answers
        (One.Passed number start len) is tt

    some-passed : es ≡ [] → ⊥
    some-passed = note-some proto macs B heard.wide setup heard.before heard.since line t heard.parts
        heard.free heard.one value.station heard.serves step.tick step.note heard.taken.answers
        (One.Passed number start len) is

    agrees-passed : HasCommittedAt disk stations new value.station (journal_floor value.journal)
        → AgreesWith (table_of new) (floors_with (journal_floor value.journal))
    agrees-passed has =
        let n : ℕ = journal_floor value.journal in
        let one = has.one in
        let before : SharedState = record { floors = floors_with heard.last; free_from = 0 } in
        let O : List (Station S) → Type 0 = λ l. Agrees (table_of l) setup.table before in
        let F : ℕ → Type 0 = λ i. has_station (table_of one.front) i ≡ false in
        let after = agrees-then one.before one.after one.front one.back has.done.keeps.name
        has.done.keeps.key (subst F (sym one.named) one.first) setup.table before
        (subst O one.old_is heard.agrees) n has.done.committed.floor 0 in
        let N : List (Station S) → Type 0 = λ l.
        AgreesWith (table_of l) (with_floor (floors_with heard.last) one.before.name n) in
        agrees-same (table_of new) setup.table
        (with_floor (floors_with heard.last) one.before.name n) (floors_with n)
        (λ j. ap (λ i. with_floor (floors_with heard.last) i n j) one.named
        ∙ twice proto macs B setup floors_then value.station heard.last n es some-passed j)
        (subst N (sym one.new_is) after)

    -- The number is committed.
    pub told-passed : (told : BoxStep StationCheckNote) → told.tick ≡ step.tick → (from : ℕ)
        → from ≡ start_so_far (line ++ t ∷ []) → (floor : ℕ) → floor ≡ journal_floor value.journal
        → told.note ≡ Some (Passed value.station floor from len)
        → HasCommittedAt disk stations new value.station floor
        → StationsHaveChecked proto macs value (table_of new) setup line t told
    told-passed told tick_is from from_is floor floor_is note_is has =
        let C : ℕ → Type 0 = λ n. HasCommittedAt disk stations new value.station n in
        told-some told tick_is (One.Passed number start len) is from from_is (table_of new)
        (agrees-passed (subst C floor_is has)) (Passed value.station floor from len) note_is
        (ap (λ n. One.Passed n from len) (floor_is ∙ uses.1)) (sym names-passed)

    -- The number is above the floor of the station.
    pub is-above : (floor : ℕ) → floor ≡ journal_floor value.journal
        → floor ≤ table_floor LIMIT (table_of stations) value.station → ⊥
    is-above floor floor_is below =
        let rises : heard.last < number = uses.0 in
        let now : journal_floor value.journal ≡ number = uses.1 in
        let at : table_floor LIMIT (table_of stations) value.station ≡ heard.last =
        heard.agrees.floors value.station
        ∙ own-last proto macs B setup floors_then value.station heard.last es some-passed in
        omega arith

    -- The number isn't committed.
    pub fails-passed : (floor : ℕ) → floor ≡ journal_floor value.journal
        → HasFailedAt disk stations new value.station floor
        → FailsPassed proto macs B disk stations new setup line t
    fails-passed floor floor_is failed =
        let N : ℕ → Type 0 = λ i. HasFailedAt disk stations new i floor in
        let F : ℕ → Type 0 = λ n. HasFailedAt disk stations new named n in
        record {
          number = number;
          failed = subst F (floor_is ∙ uses.1) (subst N (sym names-passed) failed);
          passes = step-passes proto macs B heard.wide setup heard.before heard.since line t
              heard.parts heard.free heard.one value.station heard.serves step.tick step.note
              heard.taken.answers number start len is;
        }
