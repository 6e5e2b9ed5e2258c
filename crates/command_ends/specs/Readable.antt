-- An input that no command refuses.
use Rattle.std.specs.Prelude.{◌≡◌, ℕ, ◌≤◌, List, length, Option, Some}
use Rattle.yasir_ticks.specs.Ticks.{Item, ticks_in}
use Rattle.yasir_ticks.specs.TickText.{IsTickText}
use Rattle.tick_drive.specs.Input.{max_ticks, max_bytes}

-- Holds if the input tells a right text with `marks` marks, within the limits.
pub record IsReadableWith (marks : ℕ) (input : Option (List ℕ)) : Type 0 where
  pub text : List ℕ
  pub items : List Item
  pub told : input ≡ Some text
  pub right : IsTickText marks text items
  pub few_ticks : length (ticks_in items) ≤ max_ticks
  pub few_bytes : length text ≤ max_bytes

-- Holds if the input tells a right text without a mark, within the limits.
abbrev pub IsReadable : Option (List ℕ) → Type 0
IsReadable input = IsReadableWith 0 input
