use Rattle.std.proofs.Common.{◌≡◌, ◌≤◌, ◌-◌, take}
use Rattle.std.specs.Io.KnownBytes.{prepend_known}
use Rattle.command_ends.proofs.key_text.read_text.Given as goal

-- the bytes so far were taken from the source, and no read has failed
abbrev pub invariant-loop-len : goal.invariant-loop-len
invariant-loop-len g l =
    (g.K.Source.left l.fn.source ≡ prepend_known (take l.len l.bytes) (g.K.Source.left l.source))
    × (g.K.Source.faults l.source ≡ g.K.Source.faults l.fn.source)
    × (l.len ≤ 131)

abbrev pub decreases-loop-len : goal.decreases-loop-len
decreases-loop-len g l = 131 - l.len
