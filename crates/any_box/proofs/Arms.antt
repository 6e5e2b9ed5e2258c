-- In an arm of a match on a box, the box is the one of that arm.
use Rattle.any_box.specs.declared.defined.DefinedBox.{Ghosts as DefinedBox}
use Rattle.any_box.specs.Boxes.{box_kind, box_ticks_in, own_link, AnySteps, AnyTakesRun}
use Rattle.any_box.specs.{Noting.StepsOn, Noting.AnyTakesOn, declared.any_box.AnyBox.AnyBox}
use Rattle.any_box.specs.declared.any_note.AnyNote.{AnyNote}
use Rattle.std.proofs.Common.{◌≡◌, ℕ, ◌+◌, List, length, sym, subst}
use Rattle.{std.specs.Prelude.Option, yasir_ticks.specs.declared.tick.Tick.Tick}

module _ {boxes : DefinedBox AnyBox} {old same new : AnyBox} (is : old ≡ same)
    (kind : box_kind new ≡ box_kind same) (link : own_link new ≡ own_link same) where
  module _ {before after : ℕ} {t tick : Tick} {note : Option AnyNote} where
    pub steps-at : box_ticks_in new ≡ box_ticks_in same + 1
        → StepsOn (boxes.defined (box_kind new)) (boxes.stands same)
        (boxes.stands new) before after t tick note
        → AnySteps boxes old before new after t tick note
    steps-at counted steps =
        subst (λ box. AnySteps boxes box before new after t tick note) (sym is)
        (record { kind_is = kind; link_is = link; counted = counted; steps = steps })

  module _ {run answer : List Tick} where
    pub takes-at : box_ticks_in new ≡ box_ticks_in same + length run
        → AnyTakesOn (boxes.defined (box_kind new)) (boxes.stands same)
        (boxes.stands new) run answer
        → AnyTakesRun boxes old new run answer
    takes-at counted takes =
        subst (λ box. AnyTakesRun boxes box new run answer) (sym is)
        (record { kind_is = kind; link_is = link; counted = counted; takes = takes })
