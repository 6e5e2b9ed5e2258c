-- The fault line that follows what a command has written to the log, and the sinks' counts with it.
use Rattle.command_ends.specs.Causes.{SinkCause, GotLine, LogsLine}
use Rattle.command_ends.specs.{Reasons.untold, Statuses.fault_line, declared.status.Status.Status}
use Rattle.command_ends.specs.declared.status.Status.TheVariants.{Done, WriteFault, Unclean}
use Rattle.std.proofs.Common.{◌≡◌, ◌∙◌, ℕ, ◌≤◌, List, [], ◌∷◌, Option, inl, inr, refl, sym, subst, arith}
use Rattle.yasir_io.specs.Causes.{Rose}

rose-from : (a b c : ℕ) → a ≤ b → Rose b c → Rose a c
rose-from a b c le rose = omega arith

line-from : (before now : Option (List ℕ)) (a b c : ℕ) (line : List ℕ) → a ≤ b
    → GotLine before now b c line → GotLine before now a c line
line-from before now a b c line le got = elim got [
  | inl whole ↦ inl whole
  | inr part ↦ inr (part.0, rose-from a b c le part.1)
]

lines-from : (before now : Option (List ℕ)) (a b c : ℕ) (line : List ℕ) → a ≤ b
    → LogsLine before now b c line → LogsLine before now a c line
lines-from before now a b c [] le logs = logs
lines-from before now a b c (x ∷ line) le logs = line-from before now a b c (x ∷ line) le logs

-- What holds of the fault line, given the log's faults since the line was begun, also holds given
-- those since the command began.
module _ (out0 out1 before mid after : ℕ) (held_before held_now : Option (List ℕ)) where
  pub logs-from : (status : Status) (line : List ℕ) → (fault_line untold status ≡ [] → line ≡ [])
      → SinkCause out0 out1 before mid status → LogsLine held_before held_now mid after line
      → LogsLine held_before held_now before after line
  logs-from Done line none sinks logs =
      lines-from held_before held_now before mid after line (omega (arith, sinks.1)) logs
  logs-from (Unclean verdict) line none sinks logs =
      lines-from held_before held_now before mid after line (omega (arith, sinks.1)) logs
  logs-from WriteFault line none sinks logs =
      subst (LogsLine held_before held_now before after) (sym (none refl))
      (subst (LogsLine held_before held_now mid after) (none refl) logs)
  logs-from status line none sinks logs =
      lines-from held_before held_now before mid after line sinks.1 logs

-- If the sinks' counts fit a status before the fault line, they still do after it, whether the line
-- was written or failed.
pub sinks_after : (out_before out_now log_before log_mid log_now : ℕ) (status : Status)
    → SinkCause out_before out_now log_before log_mid status → log_mid ≤ log_now
    → (fault_line untold status ≡ [] → log_now ≡ log_mid)
    → SinkCause out_before out_now log_before log_now status
sinks_after out_before out_now log_before log_mid log_now Done h rises same = (h.0, same refl ∙ h.1)
sinks_after out_before out_now log_before log_mid log_now (Unclean verdict) h rises same =
    (h.0, same refl ∙ h.1)
sinks_after out_before out_now log_before log_mid log_now WriteFault h rises same = elim h [
  | inl out ↦ inl out
  | inr log ↦ inr (subst (Rose log_before) (sym (same refl)) log)
]
sinks_after out_before out_now log_before log_mid log_now status h rises same =
    (h.0, omega (arith, h.1, rises))
