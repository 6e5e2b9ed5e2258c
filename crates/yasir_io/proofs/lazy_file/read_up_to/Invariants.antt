use Rattle.std.proofs.Common.{◌≡◌, ◌-◌, ◌≤◌, length, take}
use Rattle.std.specs.Io.KnownBytes.{Consumes}
use Rattle.yasir_io.proofs.lazy_file.read_up_to.Given as goal

-- the first `len` bytes of the buffer are those that the file had left first
abbrev pub invariant-loop-len : goal.invariant-loop-len
invariant-loop-len g l = record {
  same : length l.buf ≡ length l.initial.buf;
  within : l.len ≤ length l.buf;
  taken : Consumes (g.F.Read.remaining l.initial.file) (g.F.Read.remaining l.file)
      (take l.len l.buf);
}

abbrev pub decreases-loop-len : goal.decreases-loop-len
decreases-loop-len g l = length l.buf - l.len
