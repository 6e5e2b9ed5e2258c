use Rattle.session_audit.{proofs.Pushing.kept_line, specs.Printing.AddsText}
use Rattle.{session_audit.specs.Printing.on_the_way, session_lists.specs.FrameList.KeptFrames}
use Rattle.session_lists.specs.{FrameList.Holds, declared.frame_box.Numbered.Numbered}
use Rattle.std.{proofs.Common.◌≡◌, proofs.Common.List, proofs.Common.take, specs.List.flat_map}
use Rattle.session_audit.proofs.groups.push_numbered.Given as goal

abbrev pub invariant-loop-index : goal.invariant-loop-index
invariant-loop-index g l = record {
  calm : g.O.Sink.faults l.out ≡ g.O.Sink.faults l.fn.out;
  flushes : g.O.Sink.flushes l.out ≡ g.O.Sink.flushes l.fn.out;
  adds : (kept : List (KeptFrames Numbered)) → Holds l.fn.frames kept
      → AddsText (on_the_way (g.O.Sink.held l.fn.out) l.fn.text.text.items)
      (on_the_way (g.O.Sink.held l.out) l.text.text.items)
      (flat_map (kept_line l.fn.name) (take l.index kept));
}
