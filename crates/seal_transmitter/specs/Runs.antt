-- A run of ticks that a transmitter takes at once.
use Rattle.std.specs.Prelude.{◌≡◌, ℕ, List, ◌++◌}
use Rattle.yasir_ticks.specs.declared.tick.Tick.{Tick}
use Rattle.line_rules.specs.declared.line_rules.LineRules.{Ghosts as LineRules}
use Rattle.frame_ending.specs.Runs.{AnswersRun}
use Rattle.link_format.specs.declared.tag.Mac.{Ghosts as Mac}
use Rattle.link_format.specs.NumberedFrame.{last_number}
use Rattle.link_format.specs.Profile.{profile_of}
use Rattle.link_format.specs.Setup.{Setup}
use Rattle.sequence_journal.specs.declared.numbers.TheConstants.{LIMIT}
use Rattle.seal_transmitter.specs.Answers.{brief_seal_note}
use Rattle.link_box.specs.Sealing.{sealer, at_floor, sealed}
use Rattle.seal_transmitter.specs.Stands.{SealerStandsAt}
use Rattle.seal_transmitter.specs.declared.sealer.Sealer.{Sealer}

-- Holds if the transmitter, after `line`, has taken `run` as well: it represents both, the last
-- number used is that of the last sealed frame, the link's ticks during the run are `answer`, and
-- no note falls into them.
pub record SealerHasTakenRun {R M : Type 0} (proto : LineRules R) (macs : Mac M) {B : ℕ}
    (value : Sealer R M B) (last : ℕ) (setup : Setup) (line run answer : List Tick) : Type 0 where
  pub stands : SealerStandsAt proto macs value last setup (line ++ run)
  pub floor : last ≡ last_number setup.floor
      (sealed (profile_of proto macs B LIMIT setup) proto.rules setup.floor (line ++ run))
  pub answers : AnswersRun (sealer (profile_of proto macs B LIMIT setup) proto.rules) brief_seal_note
      (at_floor setup.floor) line run answer
