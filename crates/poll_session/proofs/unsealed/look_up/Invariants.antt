use Rattle.std.proofs.Common.{◌≡◌, ◌-◌, List, drop}
use Rattle.link_format.specs.NumberedFrame.{NumberedFrame}
use Rattle.receiver_laws.specs.Headline.{bytes_sealed}
use Rattle.session_lists.specs.FrameBox.{kept_frames}
use Rattle.session_lists.specs.FrameList.{Holds, list_len}
use Rattle.poll_session.specs.Unsealed.{behind_frame}
use Rattle.poll_session.proofs.unsealed.look_up.Given as goal

abbrev pub invariant-loop-at : goal.invariant-loop-at
invariant-loop-at l = (frames : List NumberedFrame) → Holds l.sealed (kept_frames frames)
    → behind_frame l.bytes (drop l.from (bytes_sealed frames))
    ≡ behind_frame l.bytes (drop l.at (bytes_sealed frames))

abbrev pub decreases-loop-at : goal.decreases-loop-at
decreases-loop-at l = list_len l.sealed - l.at
