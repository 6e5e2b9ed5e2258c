-- The notes of one of the boxes as notes of any box.
use Rattle.any_box.specs.Noting.{defined_by, StepsOn, AnyTakesOn}
use Rattle.any_box.specs.declared.any_note.AnyNote.{AnyNote}
use Rattle.frame_ending.specs.{Answers.told_notes, Answers.note_in, Walk.Noted}
use Rattle.link_box.specs.{Runs.TakesRun, Stepping.BoxSteps, Walking.Walking, Walking.full_notes}
use Rattle.link_format.specs.Setup.{Setup}
use Rattle.std.proofs.Common.{◌≡◌, ◌∙◌, ℕ, List, [], ◌∷◌, ◌++◌, length, map, refl, sym, ap}
use Rattle.std.proofs.lemmas.List.{map-append}
use Rattle.std.specs.Prelude.{Option, Some, None, option_map}
use Rattle.yasir_ticks.specs.declared.tick.Tick.{Tick}

module _ {F A : Type 0} (brief : F → A) (noted : A → AnyNote) where
  -- a note as one of any box
  abbrev lifted : Noted A → Noted AnyNote
  lifted n = record { tick = n.tick; note = noted n.note }

  told-lifted : (notes : List (Noted F))
      → told_notes (λ full. noted (brief full)) notes ≡ map lifted (told_notes brief notes)
  told-lifted [] = refl
  told-lifted (n ∷ notes) = ap (λ told. record { tick = n.tick; note = noted (brief n.note) } ∷ told)
      (told-lifted notes)

  in-lifted : (m : ℕ) (note : Option A)
      → map lifted (note_in m note) ≡ note_in m (option_map noted note)
  in-lifted m None = refl
  in-lifted m (Some note) = refl

  pub more-told : (m : ℕ) (old new : List (Noted F)) (note : Option A)
      → told_notes brief new ≡ told_notes brief old ++ note_in m note
      → told_notes (λ full. noted (brief full)) new
      ≡ told_notes (λ full. noted (brief full)) old ++ note_in m (option_map noted note)
  more-told m old new note is = told-lifted new ∙ ap (map lifted) is
      ∙ map-append lifted (told_notes brief old) (note_in m note)
      ∙ ap (λ front. front ++ map lifted (note_in m note)) (sym (told-lifted old))
      ∙ ap (λ back. told_notes (λ full. noted (brief full)) old ++ back) (in-lifted m note)

  pub none-told : (old new : List (Noted F))
      → told_notes brief new ≡ told_notes brief old
      → told_notes (λ full. noted (brief full)) new ≡ told_notes (λ full. noted (brief full)) old
  none-told old new is = told-lifted new ∙ ap (map lifted) is ∙ sym (told-lifted old)

module _ {X A : Type 0} (walking : Walking A) (standing : X → ℕ → Setup → List Tick → Type 0)
    (noted : A → AnyNote) (old new : X) where
  pub steps-on : (before after : ℕ) (t tick : Tick) (note : Option A) (told : Option AnyNote)
      → told ≡ option_map noted note
      → BoxSteps walking standing old before new after t tick note
      → StepsOn (defined_by walking noted) (standing old) (standing new) before after t tick told
  steps-on before after t tick note told is steps = λ setup line stands.
      let done = steps setup line stands in
      record {
        stands = done.stands;
        number = done.number;
        tick_is = done.answers.tick;
        note_is = more-told walking.brief noted (length line)
            (full_notes walking setup line) (full_notes walking setup (line ++ t ∷ [])) note
            done.answers.note
            ∙ ap (λ n. told_notes (λ full. noted (walking.brief full)) (full_notes walking setup line)
            ++ note_in (length line) n) (sym is);
      }

  pub takes-on : (run answer : List Tick) → TakesRun walking standing old new run answer
      → AnyTakesOn (defined_by walking noted) (standing old) (standing new) run answer
  takes-on run answer takes = λ last setup line stands.
      let done = takes last setup line stands in
      record {
        stands = done.stands;
        ticks_are = done.answers.ticks;
        no_note = none-told walking.brief noted (full_notes walking setup line)
            (full_notes walking setup (line ++ run)) done.answers.notes;
      }
