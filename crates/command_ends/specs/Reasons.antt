-- Why the system refused a call on a file or a stream of a run, and how a fault line says it.
use Rattle.std.specs.Prelude.{List, ℕ, Option, None, ◌++◌, codes, decimal, unsigned_abs}
use Rattle.yasir_io.specs.declared.reason.Reason.{Reason}
use Rattle.yasir_io.specs.declared.reason.Reason.TheVariants.{NotFound, PermissionDenied}
use Rattle.yasir_io.specs.declared.reason.Reason.TheVariants.{IsADirectory, WouldBlock}
use Rattle.yasir_io.specs.declared.reason.Reason.TheVariants.{AlreadyExists, StorageFull}
use Rattle.yasir_io.specs.declared.reason.Reason.TheVariants.{ReadOnlyFilesystem, WriteZero}
use Rattle.yasir_io.specs.declared.reason.Reason.TheVariants.{Numbered}
use Rattle.command_ends.specs.declared.reasons.Reasons.{Reasons}

-- the reasons of a run whose key, input and journal tell none
abbrev pub untold : Reasons
untold = record { key = None; input = None; journal = None }

-- the reasons that a key, an input and a disk tell, by what each of them tells
abbrev pub told_by : {K S D : Type 0} → (K → Option Reason) → (S → Option Reason)
    → (D → Option Reason) → K → S → D → Reasons
told_by of_key of_input of_disk key input disk = record {
  key = of_key key;
  input = of_input input;
  journal = of_disk disk;
}

-- what is said of a reason that has no number; `busy` is said of a call that would have to wait
abbrev pub named_reason : List ℕ → Reason → List ℕ
named_reason busy NotFound = codes "no such file"
named_reason busy PermissionDenied = codes "permission denied"
named_reason busy IsADirectory = codes "is a folder"
named_reason busy WouldBlock = busy
named_reason busy AlreadyExists = codes "not empty"
named_reason busy StorageFull = codes "no space left"
named_reason busy ReadOnlyFilesystem = codes "read-only file system"
named_reason busy WriteZero = codes "write cut short"
named_reason busy reason = codes "other error"

-- The fault line of a call that was refused: what failed, and the reason. The numbers of the
-- system's errors are positive.
abbrev pub refused_line : List ℕ → List ℕ → Reason → List ℕ
refused_line what busy (Numbered number) =
    what ++ codes ": error " ++ decimal (unsigned_abs number) ++ codes " of the system\n"
refused_line what busy reason = what ++ codes ": " ++ named_reason busy reason ++ codes "\n"
