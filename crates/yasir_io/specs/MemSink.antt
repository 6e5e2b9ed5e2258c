-- The parts of a sink in memory, and which of its calls fail.
use Rattle.std.specs.Prelude.{ℕ, ◌<◌, ◌≤◌, ◌⊎◌, List, length, Bool}
use Rattle.yasir_io.specs.declared.mem_sink.MemSink.{MemSink}
use Rattle.yasir_io.specs.Calls.{IsPlanned}

-- the bytes held
abbrev pub sink_bytes : MemSink → List ℕ
sink_bytes sink = sink.bytes.items

-- how many bytes it can hold
abbrev pub sink_room : MemSink → ℕ
sink_room sink = sink.room

-- the calls that fail
abbrev pub sink_plan : MemSink → List ℕ
sink_plan sink = sink.calls.plan.items

-- the calls made
abbrev pub sink_calls : MemSink → ℕ
sink_calls sink = sink.calls.made

-- how often a call has failed
abbrev pub sink_faults : MemSink → ℕ
sink_faults sink = sink.calls.faults.count

-- the most bytes that a call moves
abbrev pub sink_piece : MemSink → ℕ
sink_piece sink = sink.piece

-- how often a flush has ended well
abbrev pub sink_flushes : MemSink → ℕ
sink_flushes sink = sink.flushes.count

-- whether bytes were written since the last flush that ended well
abbrev pub sink_unflushed : MemSink → Bool
sink_unflushed sink = sink.flushes.unflushed

-- Holds if the next call is planned to fail.
abbrev pub SinkFails : MemSink → Type 0
SinkFails sink = IsPlanned (sink_plan sink) (sink_calls sink)

-- Holds if a write of the piece fails: its call is planned to, or the piece isn't empty and no room
-- is left.
abbrev pub WriteFails : MemSink → List ℕ → Type 0
WriteFails sink piece = SinkFails sink ⊎ ((0 < length piece)
    × (sink_room sink ≤ length (sink_bytes sink)))
