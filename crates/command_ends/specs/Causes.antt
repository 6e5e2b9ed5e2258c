-- The causes of a status: the counts of faults of the objects that a run was given, and what the
-- log has got.
use Rattle.std.specs.Prelude.{◌≡◌, ℕ, ◌≤◌, ◌⊎◌, List, [], Option}
use Rattle.std.specs.Io.KnownBytes.{append_known}
use Rattle.yasir_io.specs.Causes.{Rose}
use Rattle.yasir_io.specs.Output.{GotPrefix}
use Rattle.command_ends.specs.declared.status.Status.{Status}
use Rattle.command_ends.specs.declared.status.Status.TheVariants.{Done, ReadFault, WriteFault}
use Rattle.command_ends.specs.declared.status.Status.TheVariants.{JournalFault, Unclean}

-- Holds if the input's count rose when a read failed, and is as it was otherwise. After a failed
-- read a write, or a settle of the disk, may have failed, and then the count may have risen too.
abbrev pub InputCause : ℕ → ℕ → Status → Type 0
InputCause before now ReadFault = Rose before now × (before ≤ now)
InputCause before now WriteFault = before ≤ now
InputCause before now JournalFault = before ≤ now
InputCause before now status = now ≡ before

-- Holds, for a command that reads a key and then its input, if one of the two counts rose when a
-- read failed. The key was read whole before the command wrote.
abbrev pub ReadsCause : ℕ → ℕ → ℕ → ℕ → Status → Type 0
ReadsCause key_before key_now input_before input_now ReadFault =
    (Rose key_before key_now ⊎ Rose input_before input_now) × (key_before ≤ key_now)
    × (input_before ≤ input_now)
ReadsCause key_before key_now input_before input_now WriteFault = (key_now ≡ key_before)
    × (input_before ≤ input_now)
ReadsCause key_before key_now input_before input_now JournalFault = (key_now ≡ key_before)
    × (input_before ≤ input_now)
ReadsCause key_before key_now input_before input_now status = (key_now ≡ key_before)
    × (input_now ≡ input_before)

-- Holds if the disk's count rose when a call on it failed, and is as it was otherwise.
abbrev pub DiskCause : ℕ → ℕ → Status → Type 0
DiskCause before now JournalFault = Rose before now
DiskCause before now status = now ≡ before

-- Holds if a count of the two sinks rose when a write or a flush failed. After any other refusal
-- the write of the fault line may have failed.
abbrev pub SinkCause : ℕ → ℕ → ℕ → ℕ → Status → Type 0
SinkCause out_before out_now log_before log_now Done = (out_now ≡ out_before)
    × (log_now ≡ log_before)
SinkCause out_before out_now log_before log_now (Unclean verdict) = (out_now ≡ out_before)
    × (log_now ≡ log_before)
SinkCause out_before out_now log_before log_now WriteFault = Rose out_before out_now
    ⊎ Rose log_before log_now
SinkCause out_before out_now log_before log_now status = (out_now ≡ out_before)
    × (log_before ≤ log_now)

-- Holds if the log has got the line, or a front of it if this write failed.
abbrev pub GotLine : Option (List ℕ) → Option (List ℕ) → ℕ → ℕ → List ℕ → Type 0
GotLine before now faults_before faults_now line =
    (now ≡ append_known before line) ⊎ (GotPrefix before now line × Rose faults_before faults_now)

-- Holds if the log has got the fault line of a run, or a front of it, and nothing else. If the run
-- has none, the line is empty, and the log has got nothing.
abbrev pub LogsLine : Option (List ℕ) → Option (List ℕ) → ℕ → ℕ → List ℕ → Type 0
LogsLine before now faults_before faults_now [] = now ≡ before
LogsLine before now faults_before faults_now line =
    GotLine before now faults_before faults_now line

-- Holds if no count of faults of the outside rose or is at its greatest value.
pub record NoneRose (key_before key_now input_before input_now out_before out_now log_before log_now
    disk_before disk_now : ℕ) : Type 0 where
  pub key : ¬ Rose key_before key_now
  pub input : ¬ Rose input_before input_now
  pub out : ¬ Rose out_before out_now
  pub log : ¬ Rose log_before log_now
  pub disk : ¬ Rose disk_before disk_now
