-- The command `trial`: the line of a session that is made from a number.
use Rattle.std.specs.Prelude.{ℕ}
use Rattle.yasir_io.specs.declared.sink.Sink.{Ghosts as Sink}
use Rattle.link_format.specs.Profile.{Profile as LinkProfile}
use Rattle.sequence_journal.specs.declared.numbers.TheConstants.{LIMIT}
use Rattle.command_ends.specs.Outside.{Outside}
use Rattle.command_ends.specs.declared.status.Status.{Status}
use Rattle.trial_session.specs.Boxes.{trial_setup}
use Rattle.trial_session.specs.DnpDrawn.{dnp_drawing}
use Rattle.trial_session.specs.DrawnFrames.{Drawing}
use Rattle.trial_session.specs.RtuDrawn.{rtu_drawing}
use Rattle.trial_session.specs.Summaries.{trial_summary}
use Rattle.trial_session.specs.Telling.{Tells}
use Rattle.trial_session.specs.TrialLine.{trial_line}
use Rattle.trial_session.specs.declared.summary.Summary.{Summary}
use Rattle.command_ends.specs.Links.{rules_of, link_profile_of}
use Rattle.link_replay.specs.Printing.{Prints}
use Rattle.link_replay.specs.ReadCommand.{device_reads}
use Rattle.command_ends.specs.Words.{link_word}
use Rattle.command_ends.specs.declared.link.Profile.{Profile}
use Rattle.command_ends.specs.declared.link.Proto.{Proto}
use Rattle.command_ends.specs.declared.link.Proto.TheVariants.{Rtu, Dnp3}

-- how the frames of a protocol are drawn
abbrev pub drawing_of : Proto → Drawing
drawing_of Rtu = rtu_drawing
drawing_of Dnp3 = dnp_drawing

-- what follows a frame on the link, if both boxes have the key of sixteen bytes 0, the direction
-- `ab` and new journals
abbrev pub trial_link_profile : Proto → Profile → LinkProfile
trial_link_profile proto profile = link_profile_of profile (rules_of proto).label LIMIT trial_setup

-- the counts of the session with `count` frames that are drawn from a seed
abbrev pub trial_counts : Proto → Profile → ℕ → ℕ → Summary
trial_counts proto profile seed count = trial_summary (drawing_of proto)
    (trial_link_profile proto profile) (rules_of proto) (device_reads proto) seed count

-- What `trial` does: it prints one line. The line says that each frame was sealed, and that as many
-- frames were read as passed.
pub record Tries {K S O L D : Type 0} (o : Sink O) (l : Sink L) (proto : Proto) (profile : Profile)
    (seed count : ℕ) (before after : Outside K S O L D) (status : Status) : Type 0 where
  pub line : Prints o l
      (trial_line (link_word proto profile) seed count (trial_counts proto profile seed count))
      before after status
  pub tells : Tells (trial_counts proto profile seed count) count
