-- The parts of a source in memory, and which of its calls fail.
use Rattle.std.specs.Prelude.{ℕ, List}
use Rattle.yasir_io.specs.declared.mem_source.MemSource.{MemSource}
use Rattle.yasir_io.specs.Calls.{IsPlanned}

-- the bytes that are left
abbrev pub source_bytes : MemSource → List ℕ
source_bytes source = source.bytes.now

-- the calls that fail
abbrev pub source_plan : MemSource → List ℕ
source_plan source = source.calls.plan.items

-- the calls made
abbrev pub source_calls : MemSource → ℕ
source_calls source = source.calls.made

-- how often a call has failed
abbrev pub source_faults : MemSource → ℕ
source_faults source = source.calls.faults.count

-- the most bytes that a call moves
abbrev pub source_piece : MemSource → ℕ
source_piece source = source.piece

-- Holds if the next call is planned to fail.
abbrev pub SourceFails : MemSource → Type 0
SourceFails source = IsPlanned (source_plan source) (source_calls source)
