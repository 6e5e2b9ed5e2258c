-- What a command over an input's line takes of the input, and what it has made of the ticks that it
-- took, for each status.
use Rattle.std.specs.Prelude.{◌≡◌, ℕ, ◌⊎◌, List, ◌++◌, take, Option, Bool, true, false}
use Rattle.yasir_ticks.specs.Ticks.{Item, ticks_in}
use Rattle.yasir_ticks.specs.declared.tick.Tick.{Tick}
use Rattle.tick_drive.specs.Input.{Takes}
use Rattle.tick_drive.specs.declared.consumer.Stop.{Stop}
use Rattle.tick_drive.specs.declared.consumer.Stop.TheVariants as stops
use Rattle.tick_drive.specs.declared.end.End.{End}
use Rattle.tick_drive.specs.declared.end.End.TheVariants.{Whole, Refused, Stopped}
use Rattle.tick_drive.specs.declared.end.End.TheVariants as ends
use Rattle.command_ends.specs.Endings.{status_of}
use Rattle.command_ends.specs.declared.status.Status.{Status}
use Rattle.command_ends.specs.declared.status.Status.TheVariants.{Done, BadTicks, ReadFault}
use Rattle.command_ends.specs.declared.status.Status.TheVariants.{WriteFault, TooLong}

-- whether the consumer stopped the drive that ended like this
abbrev pub has_stopped : End → Bool
has_stopped (Stopped stop) = true
has_stopped end = false

-- Something was made of the first of these ticks, `early`.
pub record OfFront (made : List Tick → Type 0) (ticks : List Tick) : Type 0 where
  pub early : List Tick
  pub later : List Tick
  pub is : early ++ later ≡ ticks
  pub makes : made early

-- A failed write, and nothing else, stops a consumer, and then `front` holds of the first ticks.
abbrev pub AtWrite : (front : List Tick → Type 0) → Stop → List Tick → Type 0
AtWrite front stops.WriteFault line = front line
AtWrite front stop line = ⊥

-- The input had `before` left at first and has `now` left now. After a whole input, `rest` silent
-- ticks follow.
module _ (rest : ℕ) (before now : Option (List ℕ)) where
  -- The input ended as `end` says, and `made` holds of all ticks that were taken.
  pub record MakesAll (made : List Tick → Type 0) (end : End) : Type 0 where
    pub items : List Item
    pub takes : Takes 0 rest before now items end
    pub makes : made (ticks_in items)

  -- Something failed, and `made` holds of the first `count` of the ticks that were taken. `end` is
  -- how the input ended, or that the consumer was stopped.
  pub record MakesFront (made : List Tick → Type 0) : Type 0 where
    pub items : List Item
    pub end : End
    pub count : ℕ
    pub takes : Takes 0 rest before now items end
    pub makes : made (take count (ticks_in items))

  -- What is known when the drive over the input has ended like this: what waits of all ticks that
  -- were taken, or why the consumer was stopped.
  abbrev pub DrivesOver : (waits : List Tick → Type 0) (stopped : Stop → List Tick → Type 0) → End
      → Type 0
  DrivesOver waits stopped (Stopped stop) = MakesFront (stopped stop)
  DrivesOver waits stopped end = MakesAll waits end

  -- What each status says: `all` holds of all ticks that were taken, or, if a write failed, `front`
  -- holds of the first of them. `other` says what the other statuses mean.
  abbrev pub RunsOver : (all front : List Tick → Type 0) (other : Status → Type 0) → Status
      → Type 0
  RunsOver all front other Done = MakesAll all Whole
  RunsOver all front other (BadTicks bad) = MakesAll all (Refused bad)
  RunsOver all front other (TooLong what count) = MakesAll all (ends.TooLong what count)
  RunsOver all front other ReadFault = MakesAll all ends.ReadFault
  RunsOver all front other WriteFault = MakesFront front
  RunsOver all front other status = other status

-- The status is that of the input's end. After a whole input the flushes may have failed.
abbrev pub EndsAs : End → Status → Type 0
EndsAs Whole status = (status ≡ Done) ⊎ (status ≡ WriteFault)
EndsAs end status = status ≡ status_of end
