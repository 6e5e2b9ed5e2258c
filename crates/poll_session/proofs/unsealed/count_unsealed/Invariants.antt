use Rattle.std.proofs.Common.{◌≡◌, ◌+◌, ◌≤◌, List, drop}
use Rattle.device_model.specs.Frames.{FrameRead}
use Rattle.link_format.specs.NumberedFrame.{NumberedFrame}
use Rattle.receiver_laws.specs.Headline.{bytes_read, bytes_sealed}
use Rattle.session_lists.specs.FrameBox.{kept_frames}
use Rattle.session_lists.specs.FrameList.{Holds}
use Rattle.session_lists.specs.ReplayLists.{kept_reads}
use Rattle.poll_session.specs.Unsealed.{unsealed_reads}
use Rattle.poll_session.proofs.unsealed.count_unsealed.Given as goal

abbrev pub invariant-loop-at : goal.invariant-loop-at
invariant-loop-at l = (l.count ≤ l.at)
    × ((frames : List NumberedFrame) (reads : List FrameRead)
    → Holds l.sealed (kept_frames frames) → Holds l.read (kept_reads reads)
    → l.count + unsealed_reads (drop l.next (bytes_sealed frames)) (drop l.at (bytes_read reads))
    ≡ unsealed_reads (bytes_sealed frames) (bytes_read reads))
