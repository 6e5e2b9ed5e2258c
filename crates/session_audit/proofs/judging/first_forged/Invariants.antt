use Rattle.link_format.specs.NumberedFrame.{NumberedFrame, AreNumberedFrom}
use Rattle.receiver_laws.specs.Accounted.{forged}
use Rattle.session_lists.specs.{FrameBox.kept_frames, FrameList.Holds}
use Rattle.std.proofs.Common.{◌≡◌, List, drop}
use Rattle.session_audit.proofs.judging.first_forged.Given as goal

abbrev pub invariant-loop-index : goal.invariant-loop-index
invariant-loop-index l = (sealed_ones passed_ones : List NumberedFrame)
    → Holds l.fn.sealed (kept_frames sealed_ones) → Holds l.fn.passed (kept_frames passed_ones)
    → AreNumberedFrom l.fn.floor sealed_ones
    → forged sealed_ones passed_ones ≡ forged sealed_ones (drop l.index passed_ones)
