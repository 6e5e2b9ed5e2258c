-- A run with a right input.
use Rattle.line_capture.proofs.Able.{EndsFree, take_done, give_done, ends_well, printed}
use Rattle.line_capture.{proofs.SoundForms.sound_form, specs.Able.CaptureMayDo}
use Rattle.line_capture.specs.Able.{CaptureEndsWell}
use Rattle.line_capture.specs.Programs.{CaptureOutside, CaptureDoes, CaptureIsCalm, RunCauses}
use Rattle.line_capture.specs.declared.outcome.Outcome.{Outcome}
use Rattle.line_capture.specs.declared.words.Command.{Command, TheVariants.Take, TheVariants.Give}
use Rattle.line_capture.specs.declared.words.Command.TheVariants.{Help, Version}
use Rattle.std.proofs.Common.{Option, Some, None}
use Rattle.yasir_io.specs.Causes.{Rose}
use Rattle.yasir_io.specs.declared.{sink.Sink.Ghosts as Sink, source.Source.Ghosts as Source}

module _ {S O L : Type 0} (s : Source S) (o : Sink O) (l : Sink L) where
  does_free : (asked : Option Command) (before after : CaptureOutside S O L) (outcome : Outcome)
      → CaptureDoes s o l asked before after outcome → CaptureMayDo asked (s.left before.input)
      → ¬ Rose (s.faults before.input) (s.faults after.input) → EndsFree outcome
  does_free None before after outcome does able calm = absurd able
  does_free (Some (Take form rate ways spacing)) before after outcome does able calm =
      take_done _ (sound_form form) _ _ _ _ _ outcome does able calm
  does_free (Some (Give form rate)) before after outcome does able calm =
      give_done form rate _ _ _ _ outcome does able calm
  does_free (Some Help) before after outcome does able calm =
      printed _ _ _ _ outcome does.1.out does.1.outcome_is
  does_free (Some Version) before after outcome does able calm =
      printed _ _ _ _ outcome does.1.out does.1.outcome_is

  -- The run ends well, though the log may have got a fault line since.
  pub able_after : (asked : Option Command) (before after : CaptureOutside S O L) (noted : L)
      (outcome : Outcome)
      → CaptureDoes s o l asked before (record after { log = noted }) outcome
      → RunCauses s o l before after outcome
      → CaptureMayDo asked (s.left before.input) → CaptureIsCalm s o l before after
      → CaptureEndsWell outcome
  able_after asked before after noted outcome does causes able calm =
      ends_well outcome (s.faults before.input) (s.faults after.input) (o.faults before.out)
      (o.faults after.out) (l.faults before.log) (l.faults after.log)
      (does_free asked before (record after { log = noted }) outcome does able calm.input)
      causes.read_failed causes.sinks calm.input calm.out calm.log
