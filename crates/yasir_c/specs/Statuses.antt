-- What a call returns to C.
use Rattle.std.specs.Prelude.{◌≡◌, ℕ}
use Rattle.yasir_c.specs.declared.status.Status.{Status}
use Rattle.yasir_c.specs.declared.status.Status.TheVariants as Is

abbrev pub status_number : Status → ℕ
status_number Is.Done = 0
status_number Is.BadArgument = 1
status_number Is.NoJournal = 2
status_number Is.OtherLink = 3
status_number Is.NoMemory = 4
status_number Is.Full = 5
status_number Is.Commit = 6
status_number Is.Waiting = 7
status_number Is.Stopped = 8
status_number Is.Empty = 9

-- Holds if a call returns the number of a status, and `holds` is true of that status.
abbrev pub Returns : (Status → Type 0) → ℕ → Type 0
Returns holds result = (status : Status) × holds status × (result ≡ status_number status)
