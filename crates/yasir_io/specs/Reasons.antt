-- Why the system refused a call, by the error that it gave.
use Rattle.std.specs.Prelude.{◌≡◌, ℤ, Option, Some, None, Result, IsSome, OnOk, OnErr}
use Rattle.std_io.specs.declared.io.kind.ErrorKind.{ErrorKind}
use Rattle.std_io.specs.declared.io.kind.ErrorKind.TheVariants as kinds
use Rattle.yasir_io.specs.declared.reason.Reason.{Reason}
use Rattle.yasir_io.specs.declared.reason.Reason.TheVariants.{NotFound, PermissionDenied}
use Rattle.yasir_io.specs.declared.reason.Reason.TheVariants.{IsADirectory, WouldBlock}
use Rattle.yasir_io.specs.declared.reason.Reason.TheVariants.{AlreadyExists, StorageFull}
use Rattle.yasir_io.specs.declared.reason.Reason.TheVariants.{ReadOnlyFilesystem, WriteZero}
use Rattle.yasir_io.specs.declared.reason.Reason.TheVariants.{Numbered, Other}

-- the reason of an error with this number, if it has one, and no kind that is told by name
abbrev pub numbered : Option ℤ → Reason
numbered None = Other
numbered (Some number) = Numbered number

-- the reason of an error of this kind and with this number, if it has one
abbrev pub reason_in : ErrorKind → Option ℤ → Reason
reason_in kinds.NotFound number = NotFound
reason_in kinds.PermissionDenied number = PermissionDenied
reason_in kinds.IsADirectory number = IsADirectory
reason_in kinds.WouldBlock number = WouldBlock
reason_in kinds.AlreadyExists number = AlreadyExists
reason_in kinds.StorageFull number = StorageFull
reason_in kinds.ReadOnlyFilesystem number = ReadOnlyFilesystem
reason_in kinds.WriteZero number = WriteZero
reason_in kind number = numbered number

-- Holds if an object has a reason to tell after a call that failed, and otherwise tells what it told
-- before.
pub record Explains {T E : Type 0} (before now : Option Reason) (result : Result T E) : Type 0 where
  pub failed : OnErr result (IsSome now)
  pub same : OnOk result (now ≡ before)
