-- The line that is printed of a session of polls.
use Rattle.std.specs.Prelude.{◌≡◌, ℕ, List, ◌++◌, codes, decimal}
use Rattle.device_model.specs.Frames.{FrameRead}
use Rattle.yasir_ticks.specs.declared.tick.Tick.{Tick}
use Rattle.trial_session.specs.DrawnFrames.{Drawing}
use Rattle.trial_session.specs.TrialLine.{worded}
use Rattle.poll_session.specs.Polled.{WayBoxes, Polled}
use Rattle.poll_session.specs.declared.summary.PollSummary.{PollSummary}
use Rattle.poll_session.specs.declared.summary.WayCounts.{WayCounts}

-- ` sealed A passed B held C read D unsealed U`
abbrev pub counts_of_way : WayCounts → List ℕ
counts_of_way counts =
    worded (codes "sealed") counts.sealed
    ++ worded (codes "passed") counts.passed
    ++ worded (codes "held") counts.held
    ++ worded (codes "read") counts.read
    ++ worded (codes "unsealed") counts.unsealed

-- `poll P SEED COUNT asked N requests sealed A passed B held C read D unsealed U answers sealed E
-- passed F held G read H unsealed V`
abbrev pub poll_line : List ℕ → ℕ → ℕ → PollSummary → List ℕ
poll_line name seed count summary =
    codes "poll" ++ worded name seed ++ codes " " ++ decimal count
    ++ worded (codes "asked") summary.asked
    ++ codes " requests" ++ counts_of_way summary.requests
    ++ codes " answers" ++ counts_of_way summary.answers
    ++ codes "\n"

-- Holds if a text is the line of a session of polls.
pub record IsPollLine (requests answers : WayBoxes) (reads : List Tick → List FrameRead)
    (drawing : Drawing) (delay seed count : ℕ) (name text : List ℕ) : Type 0 where
  pub summary : PollSummary
  pub text_is : text ≡ poll_line name seed count summary
  pub polled : Polled requests answers reads drawing delay seed count summary
