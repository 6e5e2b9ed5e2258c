use Rattle.{session_lists.specs.Lines.TakesOn, session_lists.specs.Lines.IsOpenBox, std.proofs.Common.take}
use Rattle.session_lists.proofs.lines.take_line.Given as goal

abbrev pub invariant-loop-index : goal.invariant-loop-index
invariant-loop-index g l = record {
  able : IsOpenBox g.B.FrameBox g.G.Guard l.line_box l.kept;
  takes : TakesOn g.B.FrameBox g.G.Guard l.fn.line_box l.line_box l.fn.kept l.kept
      (take l.index l.line);
}
