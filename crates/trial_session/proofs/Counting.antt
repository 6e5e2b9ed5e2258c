-- What a box counts in one more step, and in one more run.
use Rattle.frame_ending.proofs.Longer.{length-line_of}
use Rattle.frame_ending.specs.Answers.{AnswersTick, told_notes, note_in}
use Rattle.frame_ending.specs.{Runs.AnswersRun, Walk.Walker, Walk.Noted, Walk.notes_of, Walk.line_of}
use Rattle.link_box.specs.Walking.{Walking, full_notes}
use Rattle.std.proofs.Common.{◌≡◌, ◌∙◌, ℕ, ◌+◌, Bool, List, [], ◌∷◌, ◌++◌, length, refl, ap, sym}
use Rattle.std.proofs.Common.{arith, Option, Some, None, cond, length-append}
use Rattle.std.{proofs.lemmas.List.Elements.filter-append, specs.List.filter}
use Rattle.trial_session.proofs.Starting.{no-note, no-tick}
use Rattle.trial_session.specs.Boxes.{trial_setup, told_in_trial}
use Rattle.trial_session.specs.Counting.{Counting, CountsNothing, CountsStep, CountsRun, through_in}
use Rattle.trial_session.specs.{Counting.refused_in, Counting.dropped_in, FateLaws.length-cond}
use Rattle.trial_session.specs.Fates.{CountsFates, tally, is_through, is_refused, is_dropped}
use Rattle.trial_session.specs.declared.fate.Fate.{Fate}
use Rattle.trial_session.specs.declared.fate.Fate.TheVariants.{Through, Refused, Dropped}
use Rattle.yasir_ticks.specs.declared.tick.Tick.{Tick}

-- 1 if there is a note for which `told` holds, else 0
abbrev pub counted : {A : Type 0} → (A → Bool) → Option A → ℕ
counted told None = 0
counted told (Some note) = cond (told note) 1 0

-- If `told` says of a note in brief what `p` says of the note, both count the same notes.
pub tally-told : {N A : Type 0} (brief : N → A) (p : N → Bool) (told : A → Bool)
    → ((note : N) → p note ≡ told (brief note)) → (notes : List (Noted N))
    → tally told (told_notes brief notes) ≡ tally p notes
tally-told brief p told agree [] = refl
tally-told brief p told agree (n ∷ notes) =
    length-cond (told (brief n.note)) _ (filter (λ m. told m.note) (told_notes brief notes))
    ∙ ap (λ b. cond b 1 0 + tally told (told_notes brief notes)) (sym (agree n.note))
    ∙ ap (λ k. cond (p n.note) 1 0 + k) (tally-told brief p told agree notes)
    ∙ sym (length-cond (p n.note) n (filter (λ m. p m.note) notes))

pub tally-in : {A : Type 0} (told : A → Bool) (m : ℕ) (note : Option A)
    → tally told (note_in m note) ≡ counted told note
tally-in told m None = refl
tally-in told m (Some note) =
    length-cond (told note) _ [] ∙ (let more : cond (told note) 1 0 + 0 ≡ cond (told note) 1 0 =
    omega arith in more)

-- One more step counts its note.
pub tally-step : {S N A : Type 0} (w : Walker S N) (brief : N → A) (begun : S) (line : List Tick)
    (t answer : Tick) (note : Option A) (p : N → Bool) (told : A → Bool)
    → ((n : N) → p n ≡ told (brief n)) → AnswersTick w brief begun line t answer note
    → tally p (notes_of w begun (line ++ t ∷ []))
    ≡ tally p (notes_of w begun line) + counted told note
tally-step w brief begun line t answer note p told agree answers =
    sym (tally-told brief p told agree (notes_of w begun (line ++ t ∷ [])))
    ∙ ap (tally told) answers.note
    ∙ ap length (filter-append (λ n. told n.note) (told_notes brief (notes_of w begun line))
    (note_in (length line) note))
    ∙ length-append (filter (λ n. told n.note) (told_notes brief (notes_of w begun line)))
    (filter (λ n. told n.note) (note_in (length line) note))
    ∙ ap (λ n. n + tally told (note_in (length line) note))
    (tally-told brief p told agree (notes_of w begun line))
    ∙ ap (λ n. tally p (notes_of w begun line) + n) (tally-in told (length line) note)

-- A run without a note counts nothing.
pub tally-run : {S N A : Type 0} (w : Walker S N) (brief : N → A) (begun : S)
    (line run answer : List Tick) (p : N → Bool) (told : A → Bool)
    → ((n : N) → p n ≡ told (brief n)) → AnswersRun w brief begun line run answer
    → tally p (notes_of w begun (line ++ run)) ≡ tally p (notes_of w begun line)
tally-run w brief begun line run answer p told agree answers =
    sym (tally-told brief p told agree (notes_of w begun (line ++ run)))
    ∙ ap (tally told) answers.notes
    ∙ tally-told brief p told agree (notes_of w begun line)

-- The answer to a run has as many ticks as the run.
pub run-long : {S N A : Type 0} (w : Walker S N) (brief : N → A) (begun : S)
    (line run answer : List Tick) → AnswersRun w brief begun line run answer
    → length answer ≡ length run
run-long w brief begun line run answer answers =
    let all : length (line_of w begun (line ++ run)) ≡ length line + length run =
    length-line_of w begun (line ++ run) ∙ length-append line run in
    let parts : length (line_of w begun (line ++ run)) ≡ length line + length answer =
    ap length answers.ticks ∙ length-append (line_of w begun line) answer
    ∙ ap (λ n. n + length answer) (length-line_of w begun line) in
    omega (arith, all, parts)

-- ---- by fates

through-one : (fate : Fate) → cond (is_through fate) 1 0 ≡ through_in (Some fate)
through-one Through = refl
through-one fate = refl

refused-one : (fate : Fate) → cond (is_refused fate) 1 0 ≡ refused_in (Some fate)
refused-one Through = refl
refused-one fate = refl

dropped-one : (fate : Fate) → cond (is_dropped fate) 1 0 ≡ dropped_in (Some fate)
dropped-one Through = refl
dropped-one fate = refl

module _ {A : Type 0} (fate_of : A → Fate) where
  pub through-told : (note : Option A)
      → counted (λ a. is_through (fate_of a)) note ≡ through_in (told_in_trial fate_of note)
  through-told None = refl
  through-told (Some note) = through-one (fate_of note)

  pub refused-told : (note : Option A)
      → counted (λ a. is_refused (fate_of a)) note ≡ refused_in (told_in_trial fate_of note)
  refused-told None = refl
  refused-told (Some note) = refused-one (fate_of note)

  pub dropped-told : (note : Option A)
      → counted (λ a. is_dropped (fate_of a)) note ≡ dropped_in (told_in_trial fate_of note)
  dropped-told None = refl
  dropped-told (Some note) = dropped-one (fate_of note)

-- ---- a box that counts fates

module _ {A : Type 0} (walking : Walking A) (fate_of : A → Fate) (counting : Counting)
    (counts : CountsFates walking fate_of counting) where
  abbrev walker : Walker walking.State walking.Full
  walker = walking.walker trial_setup

  abbrev begun : walking.State
  begun = walking.begun trial_setup

  -- Holds if `count` counts the bursts of a line with the fates for which `is` holds.
  abbrev Counts : (Fate → Bool) → (List Tick → ℕ) → Type 0
  Counts is count = (line : List Tick) → count line
      ≡ tally (λ n. is (fate_of (walking.brief n))) (full_notes walking trial_setup line)

  none-of : (is : Fate → Bool) (count : List Tick → ℕ) → Counts is count → count [] ≡ 0
  none-of is count counted_is = counted_is []
      ∙ ap (tally (λ n. is (fate_of (walking.brief n)))) (no-note walker begun)

  -- Of an empty line nothing is counted.
  pub counts-nothing : CountsNothing counting
  counts-nothing = record {
    no_tick = counts.other_is [] ∙ no-tick walker begun;
    none_through = none-of is_through counting.through counts.through_is;
    none_refused = none-of is_refused counting.refused counts.refused_is;
    none_dropped = none-of is_dropped counting.dropped counts.dropped_is;
  }

  module _ (line : List Tick) (t tick : Tick) (note : Option A)
      (answers : AnswersTick walker walking.brief begun line t tick note) where
    step-of : (is : Fate → Bool) (count : List Tick → ℕ) → Counts is count
        → count (line ++ t ∷ []) ≡ count line + counted (λ a. is (fate_of a)) note
    step-of is count counted_is = counted_is (line ++ t ∷ [])
        ∙ tally-step walker walking.brief begun line t tick note
        (λ n. is (fate_of (walking.brief n))) (λ a. is (fate_of a)) (λ n. refl) answers
        ∙ ap (λ k. k + counted (λ a. is (fate_of a)) note) (sym (counted_is line))

    -- One more step counts the fate of its note.
    pub counts-step : CountsStep counting line t tick (told_in_trial fate_of note)
    counts-step = record {
      tick_is = counts.other_is (line ++ t ∷ []) ∙ answers.tick
          ∙ ap (λ l. l ++ tick ∷ []) (sym (counts.other_is line));
      through_is = step-of is_through counting.through counts.through_is
          ∙ ap (λ k. counting.through line + k) (through-told fate_of note);
      refused_is = step-of is_refused counting.refused counts.refused_is
          ∙ ap (λ k. counting.refused line + k) (refused-told fate_of note);
      dropped_is = step-of is_dropped counting.dropped counts.dropped_is
          ∙ ap (λ k. counting.dropped line + k) (dropped-told fate_of note);
    }

  module _ (line run answer : List Tick)
      (answers : AnswersRun walker walking.brief begun line run answer) where
    run-of : (is : Fate → Bool) (count : List Tick → ℕ) → Counts is count
        → count (line ++ run) ≡ count line
    run-of is count counted_is = counted_is (line ++ run)
        ∙ tally-run walker walking.brief begun line run answer
        (λ n. is (fate_of (walking.brief n))) (λ a. is (fate_of a)) (λ n. refl) answers
        ∙ sym (counted_is line)

    -- A run without a note counts nothing.
    pub counts-run : CountsRun counting line run answer
    counts-run = record {
      long = run-long walker walking.brief begun line run answer answers;
      ticks_are = counts.other_is (line ++ run) ∙ answers.ticks
          ∙ ap (λ l. l ++ answer) (sym (counts.other_is line));
      through_is = run-of is_through counting.through counts.through_is;
      refused_is = run-of is_refused counting.refused counts.refused_is;
      dropped_is = run-of is_dropped counting.dropped counts.dropped_is;
    }
