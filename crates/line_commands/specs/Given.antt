-- What a command must be given: a right key, and a journal.
use Rattle.std.specs.Prelude.{◌≡◌, ℕ, List, Option, Some}
use Rattle.yasir_io.specs.Disks.{Slots}
use Rattle.sequence_journal.specs.declared.link.LinkId.{LinkId}
use Rattle.sequence_journal.specs.Slots.{floor_of}
use Rattle.command_ends.specs.KeyText.{IsKeyText}

-- A right key text is told.
pub record HasKey (told : Option (List ℕ)) : Type 0 where
  pub text : List ℕ
  pub key : List ℕ
  pub is : told ≡ Some text
  pub right : IsKeyText text key

-- The slots are told, and have a floor for the link.
pub record HoldsJournal (link : LinkId) (told : Option Slots) : Type 0 where
  pub slots : Slots
  pub floor : ℕ
  pub is : told ≡ Some slots
  pub has_floor : floor_of link slots ≡ Some floor
