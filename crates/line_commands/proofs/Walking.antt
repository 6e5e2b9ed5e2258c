-- A box of a link as a command shows it. What a box must satisfy, and what its steps and runs
-- return, follow from its walk.
use Rattle.line_commands.specs.Boxes.{Boxed, IsBoxed, AnswersBox, AnswersBoxRun}
use Rattle.line_commands.specs.{Boxes.line_of_note, LinkBoxed.boxed_of}
use Rattle.frame_ending.proofs.Longer.{extends, length-line_of}
use Rattle.frame_ending.specs.Answers.{told_notes, note_in, AnswersTick}
use Rattle.frame_ending.specs.{Causal.IsCausal, Longer.Begins, Runs.AnswersRun, Walk.Noted}
use Rattle.link_box.specs.Walking.{Walking, full_notes, frames_of, number_used_after}
use Rattle.link_format.specs.NumberedFrame.{NumberedFrame, numbers_of, last_number}
use Rattle.{link_format.specs.Setup.Setup}
use Rattle.sequence_journal.specs.{Uptimes.RiseFrom}
use Rattle.sequence_journal.specs.{Uptimes.last_from}
use Rattle.std.proofs.Common.{◌≡◌, ◌∙◌, ℕ, ◌<◌, ◌≤◌, List, [], ◌∷◌, ◌++◌, length, Option, Some}
use Rattle.std.proofs.Common.{None, refl, ap, subst, sym, arith, append-nil, length-append}
use Rattle.std.proofs.lemmas.Grind.{flat_map-append}
use Rattle.std.proofs.lemmas.List.{length-map, Elements.filter_map-append}
use Rattle.{std.specs.List.flat_map, std.specs.List.filter_map}
use Rattle.yasir_ticks.specs.{Bursts.bursts_from, declared.tick.Tick.Tick}

-- ---- frames with their numbers

-- the last of the frames' numbers is the number of the last frame
last_from-frames : (floor : ℕ) (frames : List NumberedFrame)
    → last_from floor (numbers_of frames) ≡ last_number floor frames
last_from-frames floor [] = refl
last_from-frames floor (f ∷ frames) = last_from-frames f.number frames

last_number-more : (floor : ℕ) (frames : List NumberedFrame) (f : NumberedFrame)
    → last_number floor (frames ++ f ∷ []) ≡ f.number
last_number-more floor [] f = refl
last_number-more floor (g ∷ frames) f = last_number-more g.number frames f

-- If the numbers of frames rise, the last one isn't below the floor.
last-above : (floor : ℕ) (frames : List NumberedFrame) → RiseFrom floor (numbers_of frames)
    → floor ≤ last_number floor frames
last-above floor [] rise = omega arith
last-above floor (f ∷ frames) rise =
    let above : floor < f.number = rise.0 in
    let rest : f.number ≤ last_number f.number frames = last-above f.number frames rise.1 in
    omega arith

-- If the numbers of frames rise, the last one doesn't fall as more frames follow.
last-longer : (floor : ℕ) (front back : List NumberedFrame)
    → RiseFrom floor (numbers_of (front ++ back))
    → last_number floor front ≤ last_number floor (front ++ back)
last-longer floor [] back rise = last-above floor back rise
last-longer floor (f ∷ front) back rise = last-longer f.number front back rise.1

-- If the numbers of frames rise, one more frame has a greater number than those before it.
last-next : (floor : ℕ) (front : List NumberedFrame) (f : NumberedFrame)
    → RiseFrom floor (numbers_of (front ++ f ∷ []))
    → last_number floor front < f.number
last-next floor [] f rise = rise.0
last-next floor (g ∷ front) f rise = last-next g.number front f rise.1

line_of_step : {A : Type 0} (note_line : A → List ℕ) (m : ℕ) (note : Option A)
    → flat_map (λ n. note_line n.note) (note_in m note) ≡ line_of_note note_line note
line_of_step note_line m None = refl
line_of_step note_line m (Some note) = append-nil (note_line note)

-- ---- lists that begin in the same way

-- a list that begins with `front` and is no longer than it is `front`
begins-all : {A : Type 0} (front whole : List A) → Begins front whole
    → length whole ≡ length front → whole ≡ front
begins-all front whole begins same = all-of front whole begins.rest begins.is same
  where
    all-of : {A : Type 0} (front whole rest : List A) → whole ≡ front ++ rest
        → length whole ≡ length front → whole ≡ front
    all-of front whole [] is same = is ∙ append-nil front
    all-of front whole (x ∷ rest) is same =
        absurd (omega (arith, same, ap length is, length-append front (x ∷ rest)))

-- As many notes are told as there are.
length-told : {N A : Type 0} (brief : N → A) (notes : List (Noted N))
    → length (told_notes brief notes) ≡ length notes
length-told brief notes = length-map notes (λ n. record { tick = n.tick; note = brief n.note })

-- ---- the box of a walk

-- The walk of a box of a link, the lines of its notes, and its setup.
module _ {A : Type 0} (walking : Walking A) (note_line : A → List ℕ) (setup : Setup) where
  abbrev box : Boxed
  box = boxed_of walking note_line setup

  abbrev notes : List Tick → List (Noted walking.Full)
  notes line = full_notes walking setup line

  abbrev frames_in : List (Noted walking.Full) → List NumberedFrame
  frames_in notes = filter_map (λ n. walking.frame_in n.note) notes

  frames-append : (a b : List (Noted walking.Full))
      → frames_in (a ++ b) ≡ frames_in a ++ frames_in b
  frames-append a b = filter_map-append (λ n. walking.frame_in n.note) a b

  frame-alone : (n : Noted walking.Full) (f : NumberedFrame) → walking.frame_in n.note ≡ Some f
      → frames_in (n ∷ []) ≡ f ∷ []
  frame-alone n f is = rw is refl

  -- What the walk returns for a step is what the box returns for it.
  pub step-answers : (line : List Tick) (t tick : Tick) (note : Option A)
      → AnswersTick (walking.walker setup) walking.brief (walking.begun setup) line t tick note
      → AnswersBox box line t tick (line_of_note note_line note)
  step-answers line t tick note answers =
      let f : Noted A → List ℕ = λ n. note_line n.note in
      let told : List (Noted A) = told_notes walking.brief (notes line) in
      record {
        tick_is = answers.tick;
        note_is = ap (flat_map f) answers.note
            ∙ (flat_map-append f told (note_in (length line) note)
            ∙ ap (λ l. flat_map f told ++ l) (line_of_step note_line (length line) note));
      }

  -- The walk is causal: it needs no tick before its time.
  module _ (causal : IsCausal (walking.walker setup)) where
    notes-begin : (line more : List Tick) → Begins (notes line) (notes (line ++ more))
    notes-begin line more =
        (extends (walking.walker setup) causal (walking.begun setup) line more).notes

    -- A run for which no note is told has no note.
    notes-stay : (line run answer : List Tick)
        → AnswersRun (walking.walker setup) walking.brief (walking.begun setup) line run answer
        → notes (line ++ run) ≡ notes line
    notes-stay line run answer answers =
        begins-all (notes line) (notes (line ++ run)) (notes-begin line run)
        (sym (length-told walking.brief (notes (line ++ run)))
        ∙ ap length answers.notes ∙ length-told walking.brief (notes line))

    -- What the walk returns for a run is what the box returns for it.
    pub run-answers : (line run answer : List Tick)
        → AnswersRun (walking.walker setup) walking.brief (walking.begun setup) line run answer
        → AnswersBoxRun box line run answer
    run-answers line run answer answers = record {
      ticks = answers.ticks;
      notes = ap (λ told. flat_map (λ n. note_line n.note) told) answers.notes;
      number = ap (λ ns. last_number setup.floor (frames_in ns)) (notes-stay line run answer answers);
    }

    module _ (rising : (line : List Tick)
        → RiseFrom setup.floor (numbers_of (frames_of walking setup line))) where
      -- The number doesn't fall as the line goes on, since the frames of a longer line begin with
      -- those of the line.
      number-rises : (line more : List Tick)
          → number_used_after walking setup line ≤ number_used_after walking setup (line ++ more)
      number-rises line more =
          let begins = notes-begin line more in
          let is : frames_of walking setup (line ++ more)
          ≡ frames_of walking setup line ++ frames_in begins.rest =
          ap frames_in begins.is ∙ frames-append (notes line) begins.rest in
          let P : List NumberedFrame → Type 0 = λ l. RiseFrom setup.floor (numbers_of l) in
          let Q : List NumberedFrame → Type 0 = λ l. number_used_after walking setup line
          ≤ last_number setup.floor l in
          subst Q (sym is) (last-longer setup.floor (frames_of walking setup line)
          (frames_in begins.rest) (subst P is (rising (line ++ more))))

      pub walk-boxed : IsBoxed box setup.floor
      unfolding bursts_from
      walk-boxed = record {
        no_tick = refl;
        no_note = refl;
        from_floor = refl;
        long = λ line. length-line_of (walking.walker setup) (walking.begun setup) line;
        rises = number-rises;
        rising = rising;
        last_is = λ line. last_from-frames setup.floor (frames_of walking setup line);
      }
