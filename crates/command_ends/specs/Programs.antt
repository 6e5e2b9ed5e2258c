-- A run of a program, whatever its commands are: what its words ask for, what it does to the outside,
-- and how it ends.
use Rattle.std.specs.Prelude.{◌≡◌, ℕ, ◌≤◌, List, [], Option, Some, None}
use Rattle.yasir_io.specs.declared.sink.Sink.{Ghosts as Sink}
use Rattle.command_ends.specs.Causes.{LogsLine, NoneRose}
use Rattle.command_ends.specs.Outside.{Outside}

-- Holds if this is what the words ask for: a command, or `None` if they fit no command. `Fit` says
-- which words ask for which command.
module _ {C : Type 0} (Fit : List (List ℕ) → C → Type 0) where
  abbrev pub AsksFor : List (List ℕ) → Option C → Type 0
  AsksFor words None = (command : C) → Fit words command → ⊥
  AsksFor words (Some command) = Fit words command

-- Holds if the log has got the fault line of a run, or a front of it, and nothing was done if the
-- run has none.
pub record EndsLog {L : Type 0} (l : Sink L) (noted now : L) (line : List ℕ) : Type 0 where
  pub logs : LogsLine (l.held noted) (l.held now) (l.faults noted) (l.faults now) line
  pub never_falls : l.faults noted ≤ l.faults now
  pub same : line ≡ [] → now ≡ noted

-- `line` is the fault line of a run that ends like this, and empty if it has none. `Does` is what is
-- done before that line is written, and `Flushes` what is done to the log then.
module _ {C K S O L D T : Type 0} (l : Sink L) (line : T → List ℕ)
    (Does : Option C → Outside K S O L D → Outside K S O L D → T → Type 0)
    (Flushes : Option C → L → L → T → Type 0) where
  -- What a run does: what was asked for, and then, if the run has a fault line, the writing of that
  -- line to the log.
  pub record Runs (asked : Option C) (before after : Outside K S O L D) (end : T) : Type 0 where
    -- the log as the command left it
    pub noted : L
    pub does : Does asked before (record after { log = noted }) end
    pub faults : LogsLine (l.held noted) (l.held after.log)
        (l.faults before.log) (l.faults after.log) (line end)
    pub flushed : Flushes asked noted after.log end

-- Holds if nothing outside failed, by the counts of faults of the key, the input, the two sinks and
-- the disk.
module _ {K S O L D : Type 0} (key : K → ℕ) (input : S → ℕ) (out : O → ℕ) (log : L → ℕ)
    (disk : D → ℕ) where
  abbrev pub IsCalm : Outside K S O L D → Outside K S O L D → Type 0
  IsCalm before after = NoneRose (key before.key) (key after.key) (input before.input)
      (input after.input) (out before.out) (out after.out) (log before.log) (log after.log)
      (disk before.disk) (disk after.disk)
