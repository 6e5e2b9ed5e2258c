-- A command that prints a text, and does nothing else.
use Rattle.std.specs.Prelude.{◌≡◌, ℕ, List}
use Rattle.yasir_io.specs.declared.sink.Sink.{Ghosts as Sink}
use Rattle.command_ends.specs.Outside.{Outside}
use Rattle.command_ends.specs.PrintsText.{PrintsText}
use Rattle.command_ends.specs.declared.status.Status.{Status}

-- Holds if the text was printed and nothing else was done: nothing was read, no note was written,
-- and the disk is as it was.
pub record Prints {K S O L D : Type 0} (o : Sink O) (l : Sink L) (text : List ℕ)
    (before after : Outside K S O L D) (status : Status) : Type 0 where
  pub printed : PrintsText text (o.held before.out) (o.held after.out) status
  pub log : l.held after.log ≡ l.held before.log
  pub key : after.key ≡ before.key
  pub input : after.input ≡ before.input
  pub disk : after.disk ≡ before.disk
