-- A text that a command writes to a sink.
use Rattle.std.specs.Prelude.{◌≡◌, ℕ, List, Option}
use Rattle.std.specs.Io.KnownBytes.{append_known}
use Rattle.yasir_io.specs.Output.{GotPrefix}
use Rattle.command_ends.specs.declared.status.Status.{Status}
use Rattle.command_ends.specs.declared.status.Status.TheVariants.{Done, WriteFault}

-- Holds if a sink has got the text, or a front of it, as this status says.
abbrev pub PrintsText : List ℕ → Option (List ℕ) → Option (List ℕ) → Status → Type 0
PrintsText text before now Done = now ≡ append_known before text
PrintsText text before now WriteFault = GotPrefix before now text
PrintsText text before now status = ⊥
