-- What the functions that C calls do: the clauses of a box, for the values that its handle holds.
use Rattle.any_box.specs.declared.any_box.AnyBox.{AnyBox}
use Rattle.any_box.specs.declared.defined.DefinedBox.{Ghosts as DefinedBox}
use Rattle.std.specs.Prelude.{◌≡◌, ◌≢◌, ℕ, ◌*◌, ◌≤◌, ◌⊎◌, List, length, take, drop, replicate}
use Rattle.std.specs.Prelude.{Option, Some, None}
use Rattle.yasir_ticks.specs.declared.tick.Tick.{Tick}
use Rattle.yasir_io.specs.declared.disk.Slot.{Slot}
use Rattle.yasir_io.specs.declared.disk.TheConstants.{SLOT_LEN}
use Rattle.link_format.specs.declared.dir.Dir.{Dir}
use Rattle.sequence_journal.specs.Slots.{slot_bytes, any_floor, wrong_slot}
use Rattle.sequence_journal.specs.declared.journal.LoadError.{LoadError}
use Rattle.sequence_journal.specs.declared.journal.LoadError.TheVariants as Load
use Rattle.any_box.specs.Kinds.{link_for}
use Rattle.any_box.specs.Held.{slots_given, HeldBegins}
use Rattle.any_box.specs.declared.held_box.HeldBox.{HeldBox}
use Rattle.any_box.specs.declared.held_box.HeldStep.{HeldStep}
use Rattle.any_box.specs.declared.kind.Kind.{Kind}
use Rattle.any_box.specs.declared.owed.Commit.{Commit}
use Rattle.yasir_c.specs.Answers.{answer_of, asking, tick_in}
use Rattle.yasir_c.specs.Holding.{HoldsOne, HandleHandsOut, HandsNothing}
use Rattle.yasir_c.specs.Holding.{HandleTakesTick, TakesNoTick, TakesFront}
use Rattle.yasir_c.specs.Kinds.{IsKind, IsNoKind}
use Rattle.yasir_c.specs.Withholding.{ready}
use Rattle.yasir_c.specs.declared.answer.Answer.{Answer}
use Rattle.yasir_c.specs.declared.held.Held.{Held}
use Rattle.yasir_c.specs.declared.held.Held.TheVariants.{LineBox}
use Rattle.yasir_c.specs.declared.kind.KindNumbers.{KindNumbers}
use Rattle.yasir_c.specs.declared.status.Status.{Status}
use Rattle.yasir_c.specs.declared.status.Status.TheVariants as Is

-- Holds if nothing has changed: what a handle holds, the answer and the slot are as they were.
pub record IsAsItWas (old new : Option Held) (answer_old answer_new : Answer)
    (slot_old slot_new : List ℕ) : Type 0 where
  pub box_is : new ≡ old
  pub answer_is : answer_new ≡ answer_old
  pub slot_is : slot_new ≡ slot_old

-- the two slots of a journal that C hands over, one after the other
abbrev pub first_slot : List ℕ → List ℕ
first_slot slots = take SLOT_LEN slots

abbrev pub second_slot : List ℕ → List ℕ
second_slot slots = take SLOT_LEN (drop SLOT_LEN slots)

-- Holds if C asks for this box with both slots of its journal, and the handle holds nothing.
pub record AsksForBox (numbers : KindNumbers) (slots : List ℕ) (old : Option Held) (kind : Kind)
    (dir : Dir) : Type 0 where
  pub kind_is : IsKind numbers kind dir
  pub length_is : length slots ≡ 2 * SLOT_LEN
  pub holds_none : old ≡ None

-- Holds if a box is asked for, and no slot holds a number.
pub record FindsNoJournal (numbers : KindNumbers) (slots : List ℕ) (old : Option Held)
    : Type 0 where
  pub kind : Kind
  pub dir : Dir
  pub asks : AsksForBox numbers slots old kind dir
  pub no_floor : any_floor (slots_given (first_slot slots) (second_slot slots)) ≡ None

-- Holds if a box is asked for, and the slots hold numbers only for other links than that of the
-- box. `place` is the slot with the greatest.
pub record FindsOtherLink (numbers : KindNumbers) (slots : List ℕ) (old : Option Held)
    : Type 0 where
  pub kind : Kind
  pub dir : Dir
  pub asks : AsksForBox numbers slots old kind dir
  pub place : Slot
  pub wrong : wrong_slot (link_for kind dir)
      (slots_given (first_slot slots) (second_slot slots)) ≡ Some place

-- why no box is made from slots; `Fault` doesn't occur, since no call of slots in memory fails
abbrev pub why_refused : LoadError → Status
why_refused (Load.Bad a b) = Is.NoJournal
why_refused (Load.WrongLink slot) = Is.OtherLink
why_refused Load.Fault = Is.NoJournal

-- Holds if this is slot A of a new journal, with number 0 for the link of a box.
pub record BeginsSlot (numbers : KindNumbers) (slot : List ℕ) : Type 0 where
  pub kind : Kind
  pub dir : Dir
  pub kind_is : IsKind numbers kind dir
  pub slot_is : slot ≡ slot_bytes 0 (link_for kind dir)

-- What has happened, by the status: slot A of a new journal is written, or there is no such box, or
-- the slot has another length, and the slot is as it was.
abbrev pub InitsBy : KindNumbers → List ℕ → List ℕ → Status → Type 0
InitsBy numbers old new Is.Done = BeginsSlot numbers new
InitsBy numbers old new Is.BadArgument =
    (new ≡ old) × (IsNoKind numbers ⊎ (length old ≢ SLOT_LEN))
InitsBy numbers old new status = ⊥

-- What C is told of a step, by the status: the tick and the note if the step uses no number, and
-- otherwise only what it must write.
abbrev pub TellsStep : HeldStep → Answer → List ℕ → Status → Type 0
TellsStep step answer slot Is.Done =
    (step.commit ≡ None) × (answer ≡ answer_of step) × (slot ≡ replicate SLOT_LEN 0)
TellsStep step answer slot Is.Commit = (commit : Commit) × (step.commit ≡ Some commit)
    × (answer ≡ asking commit) × (slot ≡ commit.bytes)
TellsStep step answer slot status = ⊥

-- What has happened, by the status: the answer that was withheld is returned, or the box is
-- stopped, or there is a cause to return none, and nothing has changed.
abbrev pub CommittedBy : Option Held → Option Held → ℕ → Answer → Answer → Status → Type 0
CommittedBy old new ok answer_old answer_new Is.Done = (ok ≡ 1) × HandleHandsOut old new answer_new
CommittedBy old new ok answer_old answer_new status =
    (answer_new ≡ answer_old) × HandsNothing ok old new status

-- Holds if a call for runs has taken nothing, and has changed nothing but the count of bytes, which
-- is 0.
pub record TakesNothing (old new : Option Held) (sent_old sent_new : List ℕ)
    (sent_count result : ℕ) : Type 0 where
  pub none : result ≡ 0
  pub no_bytes : sent_count ≡ 0
  pub box_is : new ≡ old
  pub sent_is : sent_new ≡ sent_old

-- What the boxes are by the definitions.
module _ (boxes : DefinedBox AnyBox) where
  -- Holds if a box that was asked for begins from both slots of its journal, and the handle holds
  -- it, ready for the first tick.
  pub record Makes (numbers : KindNumbers) (key slots : List ℕ) (old new : Option Held)
      : Type 0 where
    pub held : HeldBox
    pub kind : Kind
    pub dir : Dir
    pub new_is : new ≡ Some (LineBox (ready held))
    pub asks : AsksForBox numbers slots old kind dir
    pub begins : HeldBegins boxes kind dir key (first_slot slots) (second_slot slots) held

  -- What has happened, by the status: the handle holds a box that begins, or there is a cause for
  -- none, and the handle holds what it held.
  abbrev pub MakesBy : KindNumbers → List ℕ → List ℕ → Option Held → Option Held → Status → Type 0
  MakesBy numbers key slots old new Is.Done = Makes numbers key slots old new
  MakesBy numbers key slots old new Is.BadArgument =
      (new ≡ old) × (IsNoKind numbers ⊎ ((length slots ≢ 2 * SLOT_LEN) ⊎ HoldsOne old))
  MakesBy numbers key slots old new Is.NoJournal = (new ≡ old) × FindsNoJournal numbers slots old
  MakesBy numbers key slots old new Is.OtherLink = (new ≡ old) × FindsOtherLink numbers slots old
  MakesBy numbers key slots old new Is.NoMemory = new ≡ old
  MakesBy numbers key slots old new status = ⊥

  -- Holds if the box in a handle has taken a tick, and C is told of the step with this status.
  pub record StepsOnce (old new : Option Held) (number : ℕ) (answer : Answer) (slot : List ℕ)
      (status : Status) : Type 0 where
    pub t : Tick
    pub step : HeldStep
    pub tick_is : tick_in number ≡ Some t
    pub takes : HandleTakesTick boxes old new t step
    pub tells : TellsStep step answer slot status

  -- What has happened, by the status: the box has taken a tick, or there is a cause not to, and
  -- nothing has changed.
  abbrev pub StepsBy : Option Held → Option Held → ℕ → Answer → Answer → List ℕ → List ℕ
      → Status → Type 0
  StepsBy old new number answer_old answer_new slot_old slot_new Is.Done =
      StepsOnce old new number answer_new slot_new Is.Done
  StepsBy old new number answer_old answer_new slot_old slot_new Is.Commit =
      StepsOnce old new number answer_new slot_new Is.Commit
  StepsBy old new number answer_old answer_new slot_old slot_new Is.BadArgument =
      IsAsItWas old new answer_old answer_new slot_old slot_new
      × ((tick_in number ≡ None) ⊎ (length slot_old ≢ SLOT_LEN))
  StepsBy old new number answer_old answer_new slot_old slot_new status =
      IsAsItWas old new answer_old answer_new slot_old slot_new × TakesNoTick old status

  -- Holds if the box in a handle has taken the first ticks of a run, and `sent`, which has room for
  -- 64 bytes, begins with what leaves.
  pub record TakesAt (old new : Option Held) (run : List Tick) (sent_old sent_new : List ℕ)
      (sent_count result : ℕ) : Type 0 where
    pub takes : TakesFront boxes old new run (take sent_count sent_new) result
    pub room : 64 ≤ length sent_old
    pub within : sent_count ≤ length sent_new
    pub rest : drop sent_count sent_new ≡ drop sent_count sent_old

  -- Holds if a call for runs has done so, or has taken nothing.
  abbrev pub TakesBy : Option Held → Option Held → List Tick → List ℕ → List ℕ → ℕ → ℕ → Type 0
  TakesBy old new run sent_old sent_new sent_count result =
      TakesAt old new run sent_old sent_new sent_count result
      ⊎ TakesNothing old new sent_old sent_new sent_count result
