use Rattle.{session_lists.specs.Lines.TakesOn, session_lists.specs.Lines.IsOpenBox, yasir_ticks.specs.Ticks.silent}
use Rattle.session_lists.proofs.lines.take_silence.Given as goal

abbrev pub invariant-loop : goal.invariant-loop
invariant-loop g l = record {
  able : IsOpenBox g.B.FrameBox g.G.Guard l.line_box l.kept;
  takes : TakesOn g.B.FrameBox g.G.Guard l.fn.line_box l.line_box l.fn.kept l.kept
      (silent l.counter);
}
