use Rattle.{session_lists.specs.Lines.HearsOn, yasir_ticks.specs.Ticks.silent}
use Rattle.session_lists.proofs.lines.hear_rest.Given as goal

abbrev pub invariant-loop : goal.invariant-loop
invariant-loop g l = HearsOn g.V.Device l.expected l.fn.device l.device
    l.fn.read l.read (silent l.counter)
