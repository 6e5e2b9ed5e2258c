-- A box with its journal in memory: how it begins, and what its calls do.
use Rattle.any_box.specs.declared.any_box.AnyBox.{AnyBox}
use Rattle.any_box.specs.declared.defined.DefinedBox.{Ghosts as DefinedBox}
use Rattle.std.specs.Prelude.{◌≡◌, ℕ, ◌+◌, List, [], Some, length}
use Rattle.yasir_ticks.specs.declared.tick.Tick.{Tick}
use Rattle.yasir_io.specs.Disks.{Slots}
use Rattle.yasir_io.specs.Steady.{steady_slots, blank_old}
use Rattle.link_format.specs.declared.dir.Dir.{Dir}
use Rattle.link_format.specs.Setup.{Setup, setup_of}
use Rattle.sequence_journal.specs.Journal.{journal_link, journal_floor}
use Rattle.sequence_journal.specs.Slots.{floor_of}
use Rattle.sequence_journal.specs.declared.link.LinkId.{LinkId}
use Rattle.any_box.specs.Kinds.{link_for}
use Rattle.any_box.specs.Commits.{OwesDisk}
use Rattle.any_box.specs.Boxes.{box_kind, AnySteps, AnyTakesRun}
use Rattle.any_box.specs.declared.held_box.HeldBox.{HeldBox}
use Rattle.any_box.specs.declared.held_box.HeldStep.{HeldStep}
use Rattle.any_box.specs.declared.kind.Kind.{Kind}

-- the slots that a caller keeps
abbrev pub slots_given : List ℕ → List ℕ → Slots
slots_given a b = record { a = a; b = b; old = blank_old }

-- the slots that a box holds in memory
abbrev pub slots_held : HeldBox → Slots
slots_held held = steady_slots held.disk

-- the last number that the box used
abbrev pub floor_held : HeldBox → ℕ
floor_held held = journal_floor held.journal

-- how many ticks the box has taken
abbrev pub ticks_held : HeldBox → ℕ
ticks_held held = held.ticks

-- the link that the journal of the box serves
abbrev pub link_of_held : HeldBox → LinkId
link_of_held held = journal_link held.journal

-- What the boxes are by the definitions.
module _ (boxes : DefinedBox AnyBox) where
  -- HeldHolds if a box with this setup has taken this line.
  abbrev pub HeldHolds : HeldBox → Setup → List Tick → Type 0
  HeldHolds held setup line = boxes.stands held.line_box (floor_held held) setup line

  -- HeldHolds if this is how a box begins. It is this one of the eight, and has taken no tick. Its
  -- journal serves the link of the box and has the floor of the slots, which are as they were
  -- given.
  pub record HeldBegins (kind : Kind) (dir : Dir) (key a b : List ℕ) (held : HeldBox) : Type 0 where
    pub kind_is : box_kind held.line_box ≡ kind
    pub link_is : link_of_held held ≡ link_for kind dir
    pub floor_is : floor_of (link_for kind dir) (slots_given a b) ≡ Some (floor_held held)
    pub slots_are : slots_held held ≡ slots_given a b
    pub none_taken : ticks_held held ≡ 0
    pub holds : HeldHolds held (setup_of key dir (floor_held held)) []

  -- HeldHolds if a step returns what the definition of the box adds, whatever line the box had taken,
  -- and what its caller must write.
  pub record StepsHeld (old new : HeldBox) (t : Tick) (step : HeldStep) : Type 0 where
    pub counted : ticks_held new ≡ ticks_held old + 1
    pub steps : AnySteps boxes old.line_box (floor_held old) new.line_box
        (floor_held new) t step.tick step.note
    pub link : link_of_held new ≡ link_of_held old
    pub owes : OwesDisk old.journal new.journal old.disk new.disk step.commit

  -- HeldHolds if a run is taken, and these ticks of the other line are returned, without a note and
  -- with nothing to write.
  pub record TakesHeld (old new : HeldBox) (run answer : List Tick) : Type 0 where
    pub counted : ticks_held new ≡ ticks_held old + length run
    pub takes : AnyTakesRun boxes old.line_box new.line_box run answer
    pub journal : new.journal ≡ old.journal
    pub disk : new.disk ≡ old.disk
