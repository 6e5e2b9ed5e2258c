-- What is counted of a session.
use Rattle.std.specs.Prelude.{ℕ, ◌+◌, List, ◌++◌, length}
use Rattle.yasir_ticks.specs.Ticks.{silent}
use Rattle.yasir_ticks.specs.declared.tick.Tick.{Tick}
use Rattle.line_rules.specs.Rules.{Rules}
use Rattle.device_model.specs.Frames.{FrameRead}
use Rattle.link_format.specs.Profile.{Profile, pause_len, trailer_len}
use Rattle.trial_session.specs.Boxes.{seal_counting, check_counting}
use Rattle.trial_session.specs.Counting.{Counting}
use Rattle.trial_session.specs.DrawnFrames.{Drawing}
use Rattle.trial_session.specs.Session.{session_line, altered_link}
use Rattle.trial_session.specs.declared.summary.Summary.{Summary}

-- how many silent ticks follow the link, so that all frames that have passed are read
abbrev pub trial_rest : ℕ
trial_rest = 320

-- What is counted of a device's line and of a link: the frames that the transmitter seals of the
-- line, the bursts of the link that the receiver passes, refuses and drops, and the frames that a
-- device reads of the receiver's line, by `reads`.
abbrev pub summary_of : Counting → Counting → (List Tick → List FrameRead) → List Tick → List Tick
    → Summary
summary_of sealing checking reads line link = record {
  sealed = sealing.through line;
  passed = checking.through link;
  refused = checking.refused link;
  dropped = checking.dropped link;
  read = length (reads (checking.other_line link));
}

-- The link of the session of `count` frames from a seed: the transmitter's, altered, and then
-- silence. In a packet `behind` ticks follow the frame.
abbrev pub session_link : Drawing → ℕ → Counting → ℕ → ℕ → List Tick
session_link drawing behind sealing seed count =
    altered_link drawing behind seed count
    (sealing.other_line (session_line drawing seed count))
    ++ silent trial_rest

-- what is counted of the session of `count` frames from a seed
abbrev pub session_summary : Drawing → ℕ → Counting → Counting → (List Tick → List FrameRead)
    → ℕ → ℕ → Summary
session_summary drawing behind sealing checking reads seed count =
    summary_of sealing checking reads (session_line drawing seed count)
    (session_link drawing behind sealing seed count)

-- what is counted of a session over the transmitter and the receiver of a profile and a protocol's
-- rules
abbrev pub trial_summary : Drawing → Profile → Rules → (List Tick → List FrameRead) → ℕ → ℕ
    → Summary
trial_summary drawing profile rules reads seed count =
    session_summary drawing (pause_len + trailer_len profile) (seal_counting profile rules)
    (check_counting profile rules) reads seed count
