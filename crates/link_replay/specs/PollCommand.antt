-- The command `poll`: the line of a session of polls over two wires at both ends.
use Rattle.std.specs.Prelude.{◌≡◌, ℕ, List}
use Rattle.yasir_io.specs.declared.sink.Sink.{Ghosts as Sink}
use Rattle.link_format.specs.declared.dir.Dir.{Dir}
use Rattle.link_format.specs.declared.dir.Dir.TheVariants.{Ab, Ba}
use Rattle.sequence_journal.specs.declared.numbers.TheConstants.{LIMIT}
use Rattle.command_ends.specs.Links.{rules_of, link_profile_of, delay_of}
use Rattle.command_ends.specs.Outside.{Outside}
use Rattle.command_ends.specs.Words.{link_word}
use Rattle.command_ends.specs.declared.status.Status.{Status}
use Rattle.command_ends.specs.declared.status.Status.TheVariants.{NoMemory}
use Rattle.command_ends.specs.declared.link.Profile.{Profile}
use Rattle.command_ends.specs.declared.link.Proto.{Proto}
use Rattle.poll_session.specs.PollLine.{IsPollLine}
use Rattle.poll_session.specs.Polled.{WayBoxes, PollsTell, boxes_by}
use Rattle.poll_session.specs.TurnedEnds.{poll_setup}
use Rattle.link_replay.specs.Printing.{Prints}
use Rattle.link_replay.specs.ReadCommand.{device_reads}
use Rattle.link_replay.specs.TrialCommand.{drawing_of}

-- the boxes of one direction, with the key of sixteen bytes 0 and new journals
abbrev pub poll_boxes : Proto → Profile → Dir → WayBoxes
poll_boxes proto profile dir = boxes_by (rules_of proto)
    (link_profile_of profile (rules_of proto).label LIMIT (poll_setup dir))

-- Holds if a text is the line of a session of this many polls, whose requests are drawn from a seed.
abbrev pub TellsPolls : Proto → Profile → ℕ → ℕ → List ℕ → Type 0
TellsPolls proto profile seed count text =
    IsPollLine (poll_boxes proto profile Ab) (poll_boxes proto profile Ba) (device_reads proto)
    (drawing_of proto) (delay_of profile) seed count (link_word proto profile) text

-- Holds if the line of a session was printed, and nothing else was done. No frame was read that
-- wasn't sealed, unless one that has passed is forged.
pub record PrintsPolls {K S O L D : Type 0} (o : Sink O) (l : Sink L) (proto : Proto)
    (profile : Profile) (seed count : ℕ) (before after : Outside K S O L D) (status : Status) :
    Type 0 where
  pub text : List ℕ
  pub line : TellsPolls proto profile seed count text
  pub tells : PollsTell line.polled
  pub prints : Prints o l text before after status

-- What `poll` does: it prints that line. If there is no memory for the frames, it does nothing.
abbrev pub Polls : {K S O L D : Type 0} → Sink O → Sink L → Proto → Profile → ℕ → ℕ
    → Outside K S O L D → Outside K S O L D → Status → Type 0
Polls o l proto profile seed count before after NoMemory = after ≡ before
Polls o l proto profile seed count before after status =
    PrintsPolls o l proto profile seed count before after status
