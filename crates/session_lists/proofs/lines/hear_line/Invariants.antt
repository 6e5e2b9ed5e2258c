use Rattle.{session_lists.specs.Lines.HearsOn, std.proofs.Common.take}
use Rattle.session_lists.proofs.lines.hear_line.Given as goal

abbrev pub invariant-loop-index : goal.invariant-loop-index
invariant-loop-index g l = HearsOn g.V.Device l.expected l.fn.device
    l.device l.fn.read l.read (take l.index l.line)
