use Rattle.{std.proofs.Common.◌≡◌, std.proofs.Common.length, yasir_io.specs.Output.Buffered}
use Rattle.yasir_io.proofs.sink.write_all.Given as goal

-- what is left of the piece waits, no call has failed, and nothing was flushed
abbrev pub invariant-loop-rest : goal.invariant-loop-rest
invariant-loop-rest g l =
    Buffered (g.S.Sink.held l.fn.sink) (g.S.Sink.held l.sink) l.rest l.piece
    × (g.S.Sink.faults l.sink ≡ g.S.Sink.faults l.fn.sink)
    × (g.S.Sink.flushes l.sink ≡ g.S.Sink.flushes l.fn.sink)

abbrev pub decreases-loop-rest : goal.decreases-loop-rest
decreases-loop-rest g l = length l.rest
