use Rattle.link_format.specs.NumberedFrame.{NumberedFrame, AreNumberedFrom}
use Rattle.session_audit.proofs.Pushing.{forged_line}
use Rattle.session_audit.specs.Printing.{AddsText, on_the_way}
use Rattle.session_lists.specs.{FrameBox.kept_frames, FrameList.KeptFrames, FrameList.Holds}
use Rattle.session_lists.specs.declared.frame_box.Numbered.{Numbered}
use Rattle.std.{proofs.Common.◌≡◌, proofs.Common.List, proofs.Common.take, specs.List.flat_map}
use Rattle.session_audit.proofs.groups.push_forged.Given as goal

abbrev pub invariant-loop-index : goal.invariant-loop-index
invariant-loop-index g l = record {
  calm : g.O.Sink.faults l.out ≡ g.O.Sink.faults l.fn.out;
  flushes : g.O.Sink.flushes l.out ≡ g.O.Sink.flushes l.fn.out;
  adds : (sealed_ones : List NumberedFrame) → Holds l.fn.sealed (kept_frames sealed_ones)
      → AreNumberedFrom 0 sealed_ones → (kept : List (KeptFrames Numbered)) → Holds l.fn.passed kept
      → AddsText (on_the_way (g.O.Sink.held l.fn.out) l.fn.text.text.items)
      (on_the_way (g.O.Sink.held l.out) l.text.text.items)
      (flat_map (forged_line sealed_ones) (take l.index kept));
}
