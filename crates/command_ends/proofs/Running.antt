-- What holds of a command also holds of the run, which writes its fault line behind it.
use Rattle.command_ends.proofs.Logging.{logs-from}
use Rattle.command_ends.specs.{Causes.SinkCause, Outside.Outside, Reasons.untold}
use Rattle.command_ends.specs.Statuses.{fault_line}
use Rattle.command_ends.specs.Programs.{AsksFor, Runs, EndsLog, IsCalm}
use Rattle.command_ends.specs.declared.status.Status.{Status}
use Rattle.std.proofs.Common.{◌≡◌, ℕ, ◌≤◌, List, [], Option, Some, None, refl, sym, ap, ◌∙◌, arith}
use Rattle.yasir_io.specs.{Causes.Rose, declared.sink.Sink.Ghosts as Sink}

-- If words ask for no command, this is what they ask for.
pub asks_none : {C : Type 0} (Fit : List (List ℕ) → C → Type 0) (words : List (List ℕ))
    (asked : Option C) → AsksFor Fit words asked → AsksFor Fit words None → asked ≡ None
asks_none Fit words None asks none = refl
asks_none Fit words (Some command) asks none = absurd (none command asks)

-- If the command can be told from the words, they ask for at most one.
module _ {C : Type 0} (Fit : List (List ℕ) → C → Type 0) (told : List (List ℕ) → C)
    (tells : (words : List (List ℕ)) (command : C) → Fit words command → told words ≡ command) where
  pub asks_one : (words : List (List ℕ)) (a b : Option C) → AsksFor Fit words a
      → AsksFor Fit words b → a ≡ b
  asks_one words a None ha hb = asks_none Fit words a ha hb
  asks_one words None (Some b) ha hb = absurd (ha b hb)
  asks_one words (Some a) (Some b) ha hb =
      ap (λ command. Some command) (sym (tells words a ha) ∙ tells words b hb)

rose-then : (a b c : ℕ) → Rose a b → b ≤ c → Rose a c
rose-then a b c rose le = omega (arith, rose, le)

-- A run does what was asked for, and then its fault line was written. `status` is a status with the
-- same causes as the end.
module _ {C K S O L D T : Type 0} (l : Sink L) (line : T → List ℕ)
    (Does : Option C → Outside K S O L D → Outside K S O L D → T → Type 0)
    (Flushes : Option C → L → L → T → Type 0) (asked : Option C) (before after : Outside K S O L D)
    (noted : L) (end : T) (out0 out1 : ℕ) (status : Status)
    (none : fault_line untold status ≡ [] → line end ≡ []) where
  pub runs_of : Does asked before (record after { log = noted }) end
      → SinkCause out0 out1 (l.faults before.log) (l.faults noted) status
      → EndsLog l noted after.log (line end) → Flushes asked noted after.log end
      → Runs l line Does Flushes asked before after end
  runs_of does sinks logged flushed = record {
    noted = noted;
    does = does;
    faults = logs-from _ _ _ _ _ _ _ status (line end) none sinks logged.logs;
    flushed = flushed;
  }

-- If no count of faults rose in a run, none had risen before the fault line was written.
module _ {K S O L D : Type 0} (key : K → ℕ) (input : S → ℕ) (out : O → ℕ) (log : L → ℕ)
    (disk : D → ℕ) where
  pub calm_before : (before after : Outside K S O L D) (noted : L) → log noted ≤ log after.log
      → IsCalm key input out log disk before after
      → IsCalm key input out log disk before (record after { log = noted })
  calm_before before after noted rises calm = record {
    key = calm.key;
    input = calm.input;
    out = calm.out;
    log = λ rose. calm.log (rose-then _ _ _ rose rises);
    disk = calm.disk;
  }
