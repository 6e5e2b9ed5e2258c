-- The frames that have passed, taken from the notes of a walk.
use Rattle.frame_ending.{proofs.Walks.before-early, proofs.Walks.before-late, specs.Walk.Noted}
use Rattle.{frame_ending.specs.Walk.notes_before, link_format.specs.NumberedFrame.NumberedFrame}
use Rattle.link_box.specs.Checking.{FullNote, passed_in}
use Rattle.std.proofs.Common.{◌≡◌, ◌∙◌, ℕ, List, ◌∷◌, ap, ⊎_elim, None}
use Rattle.std.{proofs.lemmas.Bool.cases_lt, specs.List.cons_option, specs.List.filter_map}

-- the frames that have passed among these notes
abbrev pub frames_in : List (Noted FullNote) → List NumberedFrame
frames_in notes = filter_map (λ n. passed_in n.note) notes

-- If the burst of a note doesn't pass, the note adds no frame.
pub unnoted : (m : ℕ) (n : Noted FullNote) (notes : List (Noted FullNote))
    → passed_in n.note ≡ None
    → frames_in (notes_before m (n ∷ notes)) ≡ frames_in (notes_before m notes)
unnoted m n notes none =
    ⊎_elim
    (λ early. ap frames_in (before-early m n notes early)
    ∙ ap (λ o. cons_option o (frames_in (notes_before m notes))) none)
    (λ late. ap frames_in (before-late m n notes late))
    (cases_lt n.tick m)
