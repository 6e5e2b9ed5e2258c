-- What one more tick adds to the ticks of items, and that a mark changes nothing for a box.
use Rattle.line_commands.specs.BoxLines.{BoxOrigin, Outputs, DrivesBox}
use Rattle.line_commands.specs.declared.box_lines.BoxLines.{BoxLines}
use Rattle.link_box.specs.declared.box_trait.LinkBox.{Ghosts as LinkBox}
use Rattle.std.proofs.Common.{◌≡◌, ℕ, List, [], ◌∷◌, ◌++◌}
use Rattle.tick_drive.proofs.ItemLaws.{ticks_in-append, ticks_in-mark}
use Rattle.yasir_ticks.specs.Ticks.{Item, ticks_in, Item.tick, Item.mark}
use Rattle.yasir_ticks.specs.declared.tick.Tick.{Tick}

pub one_more : (items : List Item) (t : Tick)
    → ticks_in (items ++ tick t ∷ []) ≡ ticks_in items ++ t ∷ []
one_more items t = ticks_in-append items (tick t ∷ [])

-- A mark isn't a tick of the line, so the box stays as it was.
pub drives_at_mark : {B N : Type 0} (b : LinkBox B N) (line_of : N → List ℕ) (lines : BoxLines B)
    (origin : BoxOrigin) (outputs : Outputs) (items : List Item)
    → DrivesBox b line_of lines origin outputs items
    → DrivesBox b line_of lines origin outputs (items ++ mark ∷ [])
drives_at_mark b line_of lines origin outputs items before = record {
  took = rw (ticks_in-mark items) before.took;
  link_is = before.link_is;
  handed = rw (ticks_in-mark items) before.handed;
}
