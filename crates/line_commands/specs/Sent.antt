-- What calls that write to a port do.
use Rattle.std.specs.Prelude.{◌≡◌, ◌⊎◌, ℕ, List, [], ◌∷◌, ◌++◌, true, false, Result, Ok, OnOk}
use Rattle.std.specs.Prelude.{OnErr}
use Rattle.yasir_io.specs.declared.Failed.{Failed}
use Rattle.yasir_io.specs.Causes.{Rose}
use Rattle.line_commands.specs.History.{Event, History, told_then}
use Rattle.line_commands.specs.History.Event.{writes, flushes}
use Rattle.line_commands.specs.declared.port.Output.{Output}
use Rattle.line_commands.specs.declared.port.Port.{Ghosts as Port}
use Rattle.line_commands.specs.Order.{Handed, HandedFronts}
use Rattle.line_texts.specs.Sending.{LineAndNotes, AnswersNoted}
use Rattle.yasir_ticks.specs.declared.tick.Tick.{Tick}

module _ {P : Type 0} (p : Port P) where
  -- If a write or a flush failed, the count of faults of an output rose. If not, no output's count
  -- did. Nothing was read.
  pub record WritesCause {T E : Type 0} (old new : P) (result : Result T E) : Type 0 where
    pub left_same : p.left new ≡ p.left old
    pub read_same : p.read_faults new ≡ p.read_faults old
    pub same : OnOk result ((to : Output) → p.write_faults new to ≡ p.write_faults old to)
    pub failed : OnErr result ((to : Output) × Rose (p.write_faults old to) (p.write_faults new to))

  -- A front of these bytes was written, and then a flush may have failed.
  pub record BreaksOff (old new : P) (to : Output) (bytes : List ℕ) : Type 0 where
    pub front : List ℕ
    pub rest : List ℕ
    pub is : bytes ≡ front ++ rest
    pub more : List Event
    pub tail : (more ≡ []) ⊎ (more ≡ flushes to false ∷ [])
    pub told : p.history new ≡ told_then (p.history old) (writes to front ∷ more)

  -- The bytes were written to an output and flushed, or, after an error, a front of them was
  -- written.
  pub record SendsTicks {T E : Type 0} (old new : P) (to : Output) (bytes : List ℕ)
      (result : Result T E) : Type 0 where
    pub ok : OnOk result (p.history new
        ≡ told_then (p.history old) (writes to bytes ∷ flushes to true ∷ []))
    pub err : OnErr result (BreaksOff old new to bytes)
    pub cause : WritesCause old new result

  -- There were no bytes and nothing was done, or the bytes were written to an output and flushed.
  abbrev pub SendsAny : P → P → Output → List ℕ → Result (Unit {0}) Failed → Type 0
  SendsAny old new to bytes result = SendsTicks old new to bytes result
      ⊎ ((bytes ≡ []) × (new ≡ old) × (result ≡ Ok tt))

  -- What is made of some ticks of a line was handed on: these ticks of the other line and these
  -- notes. If a call failed, fronts of them were.
  pub record Hands {T E : Type 0} (old new : P) (answer : List Tick) (note : List ℕ)
      (result : Result T E) : Type 0 where
    pub ok : OnOk result ((made : LineAndNotes) (start : History) (read : List ℕ)
        (line run : List Tick) → AnswersNoted made line run answer note
        → Handed made start (p.history old) read line
        → Handed made start (p.history new) read (line ++ run))
    pub err : OnErr result ((made : LineAndNotes) (start : History) (read : List ℕ)
        (line run : List Tick) → AnswersNoted made line run answer note
        → Handed made start (p.history old) read line
        → HandedFronts made start (p.history new) read (line ++ run))
    pub cause : WritesCause old new result
