-- How a drive over an input ends, and what the consumer has taken by then.
use Rattle.std.specs.Prelude.{◌≡◌, ℕ, ◌+◌, ◌<◌, ◌≤◌, List, length, Option, Result, Ok, Err}
use Rattle.yasir_ticks.specs.Ticks.{Item, ticks_in}
use Rattle.yasir_ticks.specs.declared.TheConstants.{MAX_TICKS}
use Rattle.tick_drive.specs.Input.{Takes, max_ticks}
use Rattle.tick_drive.specs.Consumers.{Consuming, Gives}
use Rattle.tick_drive.specs.declared.consumer.Stop.{Stop}
use Rattle.tick_drive.specs.declared.consumer.Stop.TheVariants.{NoMemory}
use Rattle.tick_drive.specs.declared.end.End.{End}
use Rattle.tick_drive.specs.declared.end.End.TheVariants.{Stopped, TooLong}
use Rattle.tick_drive.specs.declared.end.TooMuch.TheVariants.{Ticks}
use Rattle.tick_drive.specs.declared.input_loop.Halt.{Halt}
use Rattle.tick_drive.specs.declared.input_loop.Halt.TheVariants.{TooMany, ByConsumer}

-- what the consumer returned last, if the drive ended like this
abbrev pub drive_answer_of : End → Result (Unit {0}) Stop
drive_answer_of (Stopped stop) = Err stop
drive_answer_of end = Ok tt

-- Holds if whatever took the ticks of an input that ended like this stopped for want of memory, if
-- it stopped.
abbrev pub StopsForMemory : End → Type 0
StopsForMemory end = (stop : Stop) → end ≡ Stopped stop → stop ≡ NoMemory

-- how a drive ends if it stopped handing over lines
abbrev pub halted_end : Halt → End
halted_end (TooMany count) = TooLong Ticks count
halted_end (ByConsumer stop) = Stopped stop

module _ {C : Type 0} (meaning : Consuming C) where
  -- Holds if a consumer has taken nothing yet, and may be used.
  pub record IsFresh (consumer : C) : Type 0 where
    pub none : meaning.taken consumer ≡ 0
    pub able : meaning.able consumer

  -- Holds if a consumer may be used, and may count as many more ticks as an input may have.
  pub record DriveHasRoom (consumer : C) : Type 0 where
    pub room : meaning.taken consumer + max_ticks ≤ MAX_TICKS
    pub able : meaning.able consumer

  -- Holds if what was taken of an input was given to a consumer, and the drive over the input ended
  -- like this. The input had `before` left at first, and now has `now`.
  pub record Drives (marks rest : ℕ) (before now : Option (List ℕ)) (old new : C) (end : End) :
      Type 0 where
    pub items : List Item
    pub takes : Takes marks rest before now items end
    pub gives : Gives meaning old new items (drive_answer_of end)

  -- Holds if the items of one line were handed over. With the ticks before, there are `sum` ticks.
  pub record HandsOver (old new : C) (ticks : ℕ) (items : List Item) (sum : ℕ) : Type 0 where
    pub gives : Gives meaning old new items (Ok tt)
    pub sum_is : sum ≡ ticks + length (ticks_in items)
    pub few : sum ≤ max_ticks

  -- Holds if there are too many ticks with those of the line, and nothing was done.
  pub record HoldsBack (old new : C) (ticks : ℕ) (items : List Item) (count : ℕ) : Type 0 where
    pub same : new ≡ old
    pub sum : count ≡ ticks + length (ticks_in items)
    pub above : max_ticks < count

  -- Holds if the consumer stopped at one of the items of the line.
  pub record DriveStopsAt (old new : C) (ticks : ℕ) (items : List Item) (stop : Stop) : Type 0 where
    pub gives : Gives meaning old new items (Err stop)
    pub few : ticks + length (ticks_in items) ≤ max_ticks

  -- what the result says when a line's items are to be handed over after `ticks` ticks
  abbrev pub HandAnswer : C → C → ℕ → List Item → Result ℕ Halt → Type 0
  HandAnswer old new ticks items (Ok sum) = HandsOver old new ticks items sum
  HandAnswer old new ticks items (Err (TooMany count)) = HoldsBack old new ticks items count
  HandAnswer old new ticks items (Err (ByConsumer stop)) = DriveStopsAt old new ticks items stop
