-- What a port tells of its calls and outputs, and what was read, written and flushed by its calls.
use Rattle.std.specs.Prelude.{◌≡◌, ◌≢◌, ℕ, List, [], ◌∷◌, ◌++◌, Bool, true, false, Option, Some}
use Rattle.std.specs.Prelude.{None, Result, OnOk}
use Rattle.std.specs.{Io.KnownBytes.append_known, List.flat_map}
use Rattle.line_commands.specs.declared.port.Output.{Output}
use Rattle.line_commands.specs.declared.port.Output.TheVariants.{Out, Log}

-- A call of a port: a read that returned these bytes (none at the end of the input) or failed, a
-- write of these bytes, or a flush that succeeded or failed.
pub data Event : Type 0 where
  reads : Option (List ℕ) → Event
  writes : Output → List ℕ → Event
  flushes : Output → Bool → Event

-- the bytes that a call read
abbrev pub read_by : Event → List ℕ
read_by (reads (Some bytes)) = bytes
read_by (reads None) = []
read_by (writes to bytes) = []
read_by (flushes to well) = []

-- all bytes that were read
abbrev pub bytes_read_before : List Event → List ℕ
bytes_read_before events = flat_map read_by events

-- the bytes that a call wrote to an output
abbrev pub written_by : Output → Event → List ℕ
written_by to (reads got) = []
written_by Out (writes Out bytes) = bytes
written_by Out (writes Log bytes) = []
written_by Log (writes Out bytes) = []
written_by Log (writes Log bytes) = bytes
written_by to (flushes other well) = []

-- all bytes that were written to an output
abbrev pub written : Output → List Event → List ℕ
written to events = flat_map (written_by to) events

-- What a port tells: its calls so far, in order, and what each output has got.
pub record History : Type 0 where
  pub calls : Option (List Event)
  pub out : Option (List ℕ)
  pub log : Option (List ℕ)

-- the history of a port that tells nothing
abbrev pub untold : History
untold = record { calls = None; out = None; log = None }

-- the calls, followed by these, or `None` if they aren't told
abbrev pub calls_then : Option (List Event) → List Event → Option (List Event)
calls_then None more = None
calls_then (Some events) more = Some (events ++ more)

-- the history after these calls: what is told of calls and outputs, with these calls and what they
-- wrote
abbrev pub told_then : History → List Event → History
told_then told more = record {
  calls = calls_then told.calls more;
  out = append_known told.out (written Out more);
  log = append_known told.log (written Log more);
}

-- whether an output is flushed after a call, given whether it was before
abbrev pub flushed_by : Output → Bool → Event → Bool
flushed_by to before (reads got) = before
flushed_by Out before (writes Out bytes) = false
flushed_by Out before (writes Log bytes) = before
flushed_by Log before (writes Out bytes) = before
flushed_by Log before (writes Log bytes) = false
flushed_by to before (flushes other false) = before
flushed_by Out before (flushes Out true) = true
flushed_by Out before (flushes Log true) = before
flushed_by Log before (flushes Out true) = before
flushed_by Log before (flushes Log true) = true

abbrev pub flushed_from : Output → Bool → List Event → Bool
flushed_from to before [] = before
flushed_from to before (event ∷ events) = flushed_from to (flushed_by to before event) events

-- whether a flush that succeeded follows each write to the output
abbrev pub is_flushed : Output → List Event → Bool
is_flushed to events = flushed_from to true events

-- The bytes of a piece were written, or a front of them if the write failed.
pub record WritesFront {T E : Type 0} (before now : History) (to : Output)
    (piece : List ℕ) (result : Result T E) : Type 0 where
  pub front : List ℕ
  pub rest : List ℕ
  pub is : piece ≡ front ++ rest
  pub whole : OnOk result (rest ≡ [])
  pub wrote : now ≡ told_then before (writes to front ∷ [])

-- The counts of faults of all but this output are as they were.
pub record KeepsFaults (reads_before reads_now : ℕ) (writes_before writes_now : Output → ℕ)
    (to : Output) : Type 0 where
  pub read_same : reads_now ≡ reads_before
  pub others : (other : Output) → other ≢ to → writes_now other ≡ writes_before other
