-- Laws of what each way makes of its line.
use Rattle.std.specs.Prelude.{◌≡◌, ℕ, List}
use Rattle.yasir_ticks.specs.declared.tick.Tick.{Tick}
use Rattle.link_format.specs.Setup.{Setup}
use Rattle.link_box.specs.Walking.{number_used_after}
use Rattle.link_box.specs.declared.box_trait.LinkBox.{Ghosts as LinkBox}
use Rattle.line_commands.specs.declared.spacers.LineSpacer.{Ghosts as LineSpacer}
use Rattle.live_line.specs.Guarded.{GuardedStands}
use Rattle.live_line.specs.PlainBoxes.{plain_number, PlainStands}
use Rattle.live_line.specs.declared.guarded_box.GuardedBox.{GuardedBox}
use Rattle.live_line.specs.declared.plain_box.PlainBox.{PlainBox}

module _ {B N : Type 0} (b : LinkBox B N) (line_of : N → List ℕ) where
  pub plain-number : (value : PlainBox B) (setup : Setup) (line : List Tick)
      → PlainStands b line_of value setup line
      → plain_number value ≡ number_used_after b.walking setup line
  plain-number value setup line stood = stood.number_is

module _ {B N S : Type 0} (b : LinkBox B N) (line_of : N → List ℕ) (s : LineSpacer S) where
  pub guarded-number : (value : GuardedBox B S) (setup : Setup) (line : List Tick)
      → GuardedStands b line_of s value setup line
      → plain_number value.plain ≡ number_used_after b.walking setup line
  guarded-number value setup line stood = stood.plain.number_is
