-- The causes of the status with which a run over an input ends.
use Rattle.std.proofs.Common.{◌≡◌, ℕ, ◌⊎◌, inl, inr, false, refl, sym, subst, arith}
use Rattle.tick_drive.specs.{Consumers.is_write_fault, Drive.drive_answer_of}
use Rattle.tick_drive.specs.Input.{IsReadCause, is_read_fault}
use Rattle.tick_drive.specs.declared.consumer.Stop.TheVariants as stops
use Rattle.command_ends.specs.Causes.{InputCause, SinkCause}
use Rattle.command_ends.specs.{Endings.status_of, declared.status.Status.Status}
use Rattle.command_ends.specs.declared.status.Status.TheVariants.{Done, WriteFault}
use Rattle.tick_drive.specs.declared.end.End.{End, TheVariants.Whole}
use Rattle.tick_drive.specs.declared.end.End.TheVariants.{ReadFault, Stopped}

pub input_cause : (before now : ℕ) (end : End) → IsReadCause before now (is_read_fault end)
    → InputCause before now (status_of end)
input_cause before now ReadFault h = (h.failed refl, h.never_falls)
input_cause before now (Stopped stops.WriteFault) h = h.never_falls
input_cause before now (Stopped stops.JournalFault) h = h.never_falls
input_cause before now end h = h.same refl

pub input_cause_of_whole : (before now : ℕ) (status : Status)
    → (status ≡ Done) ⊎ (status ≡ WriteFault) → now ≡ before
    → InputCause before now status
input_cause_of_whole before now status (inl done) same =
    subst (InputCause before now) (sym done) same
input_cause_of_whole before now status (inr fault) same =
    subst (InputCause before now) (sym fault) (omega (arith, same))

-- If no write had failed when the input ended, and it isn't whole, the sinks' counts fit the
-- status.
pub sink_cause_of_end : (out_before out_now log_before log_now : ℕ) (end : End)
    → is_write_fault (drive_answer_of end) ≡ false
    → (end ≡ Whole → ⊥) → out_now ≡ out_before → log_now ≡ log_before
    → SinkCause out_before out_now log_before log_now (status_of end)
sink_cause_of_end out_before out_now log_before log_now Whole other partial out log =
    absurd (partial refl)
sink_cause_of_end out_before out_now log_before log_now (Stopped stops.WriteFault) other partial out
    log = cc
sink_cause_of_end out_before out_now log_before log_now end other partial out log =
    (out, omega (arith, log))

-- If the sinks' counts hadn't changed before the flushes, then those that fit the status since the
-- flushes began also fit it since the run began.
pub sink_cause_of_whole : (out0 out1 out2 log0 log1 log2 : ℕ) → (out1 ≡ out0) → (log1 ≡ log0)
    → (status : Status)
    → SinkCause out1 out2 log1 log2 status → SinkCause out0 out2 log0 log2 status
sink_cause_of_whole out0 out1 out2 log0 log1 log2 out log status h =
    subst (λ n. SinkCause n out2 log0 log2 status) out
    (subst (λ n. SinkCause out1 out2 n log2 status) log h)
