-- A line in two parts: what the receiver of several stations makes of the whole line, and what a
-- receiver that begins anew with the second part makes of that part.
use Rattle.frame_ending.proofs.{Walks.adds_one_tick, Walks.walked-append, Walks.emitted-append}
use Rattle.frame_ending.specs.Answers.{AnswersTick, told_notes, note_in}
use Rattle.frame_ending.specs.Causal.{IsCausal, AddsOneTick}
use Rattle.frame_ending.specs.HasCome.{AreNoted}
use Rattle.frame_ending.specs.{Laid.tick_at, Walk.Walker, Walk.Noted, Walk.walked, Walk.emitted_by}
use Rattle.frame_ending.specs.Walk.{state_after, notes_at, notes_of, line_of}
use Rattle.link_box.specs.Checking.{FullNote, brief_note}
use Rattle.link_box.specs.Checking.FullNote.{passed_note, refused_note, dropped_note}
use Rattle.link_box.specs.declared.check_note.CheckNote.{CheckNote}
use Rattle.link_box.specs.declared.check_note.CheckNote.TheVariants.{Passed, Refused, Dropped}
use Rattle.station_boxes.proofs.Anew.{late_note, late_noted, tick-late}
use Rattle.station_boxes.specs.Late.{late}
use Rattle.std.proofs.Common.{◌≡◌, ◌∙◌, ◌==◌, ℕ, ◌+◌, ◌<◌, ◌≤◌, Bool, true, false, List, [], ◌∷◌, ◌++◌}
use Rattle.std.proofs.Common.{length, map, refl, sym, ap, arith, Option, Some, None, get_or}
use Rattle.std.proofs.lemmas.Bool.{cond-false, ne_eqb}
use Rattle.std.proofs.lemmas.List.{append_cancel_left, map-append, Elements.filter-append}
use Rattle.std.specs.Prelude.{option_map, if◌then◌else◌}
use Rattle.yasir_ticks.specs.{Bursts.Burst, Bursts.bursts}
use Rattle.yasir_ticks.specs.declared.tick.Tick.{Tick}

-- a note as the receiver that begins anew returns it, with the tick of the whole line
abbrev pub late_brief : ℕ → CheckNote → CheckNote
late_brief m (Passed number start len) = Passed number (m + start) len
late_brief m (Refused start why) = Refused (m + start) why
late_brief m (Dropped start why) = Dropped (m + start) why

module _ (m : ℕ) where
  brief-late : (n : FullNote) → brief_note (late_note m n) ≡ late_brief m (brief_note n)
  brief-late (passed_note number start frame) = refl
  brief-late (refused_note start why) = refl
  brief-late (dropped_note start why) = refl

  same-tick : (a b : ℕ) → (m + a == m + b) ≡ (a == b)
  same-tick a b = grind arith

  -- the notes at a tick, later
  at-late : (k : ℕ) (notes : List (Noted FullNote))
      → notes_at (m + k) (map (late_noted m) notes) ≡ map (late_noted m) (notes_at k notes)
  at-late k [] = refl
  at-late k (n ∷ notes) =
      ap (λ b. if b then late_noted m n ∷ notes_at (m + k) (map (late_noted m) notes)
      else notes_at (m + k) (map (late_noted m) notes)) (same-tick n.tick k)
      ∙ (ap (λ l. if n.tick == k then late_noted m n ∷ l else l) (at-late k notes)
      ∙ by (n.tick == k))
    where
      by : (b : Bool) → (if b then late_noted m n ∷ map (late_noted m) (notes_at k notes)
          else map (late_noted m) (notes_at k notes))
          ≡ map (late_noted m) (if b then n ∷ notes_at k notes else notes_at k notes)
      by true = refl
      by false = refl

  abbrev told_late : Noted CheckNote → Noted CheckNote
  told_late n = record { tick = m + n.tick; note = late_brief m n.note }

  told-late : (notes : List (Noted FullNote))
      → told_notes brief_note (map (late_noted m) notes)
      ≡ map told_late (told_notes brief_note notes)
  told-late [] = refl
  told-late (n ∷ notes) =
      ap (λ x. let y : Noted CheckNote = record { tick = m + n.tick; note = x } in
      y ∷ told_notes brief_note (map (late_noted m) notes)) (brief-late n.note)
      ∙ ap (λ l. told_late (record { tick = n.tick; note = brief_note n.note }) ∷ l)
      (told-late notes)

  in-late : (k : ℕ) (told : Option CheckNote)
      → map told_late (note_in k told) ≡ note_in (m + k) (option_map (late_brief m) told)
  in-late k None = refl
  in-late k (Some note) = refl

module _ {S N : Type 0} (w : Walker S N) where
  -- Notes that came before a tick don't come at it.
  pub none-at : (s : S) (m n : ℕ) (ds : List Burst) → m ≤ n → AreNoted w s m ds
      → notes_at n (walked w s ds) ≡ []
  none-at s m n [] le are = refl
  none-at s m n (d ∷ ds) le are =
      let early : w.tick s d < m = are.0 in
      let other : (w.tick s d == n) ≡ false = ne_eqb (w.tick s d) n (λ same. omega arith) in
      cond-false _ _ _ other ∙ none-at (w.next s d) m n ds le are.1

one-of : {A : Type 0} (x y : A) → x ∷ [] ≡ y ∷ [] → x ≡ y
one-of x y same = ap (λ l. get_or l 0 x) same

-- the notes in a step, as the step returns them
pub step-told : {T : Type 0} (o : Walker T FullNote) → IsCausal o → (one : T) (since : List Tick)
    (t answer : Tick) (told : Option CheckNote)
    → AnswersTick o brief_note one since t answer told
    → told_notes brief_note (notes_at (length since) (walked o one (bursts (since ++ t ∷ []))))
    ≡ note_in (length since) told
step-told o causal one since t answer told answers =
    let on : AddsOneTick o one since t = adds_one_tick o causal one since t in
    let notes : List (Noted FullNote) =
    notes_at (length since) (walked o one (bursts (since ++ t ∷ []))) in
    append_cancel_left (told_notes brief_note (notes_of o one since))
    (told_notes brief_note notes) (note_in (length since) told)
    (sym (map-append (λ (n : Noted FullNote). let y : Noted CheckNote = record {
      tick = n.tick;
      note = brief_note n.note;
    } in y) (notes_of o one since) notes)
    ∙ (ap (λ x. told_notes brief_note x) (sym on.notes) ∙ answers.note))

-- `before` are the ticks before the receiver `o` began, and `since` those since then.
module _ {S T : Type 0} (w : Walker S FullNote) (o : Walker T FullNote) (causal : IsCausal w)
    (o_causal : IsCausal o) (begun s : S) (one : T) (before since line : List Tick) (t : Tick)
    (noted : AreNoted w begun (length before) (bursts before))
    (state : state_after w begun (bursts before) ≡ s)
    (left : (i : ℕ) → length before ≤ i → (more : List Burst)
    → tick_at (emitted_by w begun (bursts before) ++ more) i ≡ tick_at more i)
    (long : length line ≡ length before + length since)
    (joined : bursts (line ++ t ∷ []) ≡ bursts before ++ late (length before) (bursts (since ++ t ∷ [])))
    (same_notes : walked w s (late (length before) (bursts (since ++ t ∷ [])))
    ≡ map (late_noted (length before)) (walked o one (bursts (since ++ t ∷ []))))
    (same_emissions : emitted_by w s (late (length before) (bursts (since ++ t ∷ [])))
    ≡ late (length before) (emitted_by o one (bursts (since ++ t ∷ [])))) where
  abbrev m : ℕ
  m = length before

  abbrev k : ℕ
  k = length since

  abbrev ds : List Burst
  ds = bursts (since ++ t ∷ [])

  pub notes-joined : notes_at (length line) (walked w begun (bursts (line ++ t ∷ [])))
      ≡ map (late_noted m) (notes_at k (walked o one ds))
  notes-joined =
      ap (λ i. notes_at i (walked w begun (bursts (line ++ t ∷ [])))) long
      ∙ (ap (λ x. notes_at (m + k) (walked w begun x)) joined
      ∙ (ap (λ x. notes_at (m + k) x) (walked-append w begun (bursts before) (late m ds))
      ∙ (filter-append (λ n. n.tick == m + k) (walked w begun (bursts before))
      (walked w (state_after w begun (bursts before)) (late m ds))
      ∙ (ap (λ x. x ++ notes_at (m + k) (walked w (state_after w begun (bursts before)) (late m ds)))
      (none-at w begun m (m + k) (bursts before) (omega arith) noted)
      ∙ (ap (λ x. notes_at (m + k) (walked w x (late m ds))) state
      ∙ (ap (λ x. notes_at (m + k) x) same_notes ∙ at-late m k (walked o one ds)))))))

  tick-joined : tick_at (emitted_by w begun (bursts (line ++ t ∷ []))) (length line)
      ≡ tick_at (emitted_by o one ds) k
  tick-joined =
      ap (λ i. tick_at (emitted_by w begun (bursts (line ++ t ∷ []))) i) long
      ∙ (ap (λ x. tick_at (emitted_by w begun x) (m + k)) joined
      ∙ (ap (λ x. tick_at x (m + k)) (emitted-append w begun (bursts before) (late m ds))
      ∙ (left (m + k) (omega arith) (emitted_by w (state_after w begun (bursts before)) (late m ds))
      ∙ (ap (λ x. tick_at (emitted_by w x (late m ds)) (m + k)) state
      ∙ (ap (λ x. tick_at x (m + k)) same_emissions ∙ tick-late m (emitted_by o one ds) k)))))

  module _ (answer : Tick) (told : Option CheckNote)
      (answers : AnswersTick o brief_note one since t answer told) where
    -- the notes that the receiver that began anew has in this step
    notes-told : told_notes brief_note (notes_at k (walked o one ds)) ≡ note_in k told
    notes-told = step-told o o_causal one since t answer told answers

    tick-told : tick_at (emitted_by o one ds) k ≡ answer
    tick-told =
        let on : AddsOneTick o one since t = adds_one_tick o o_causal one since t in
        one-of (tick_at (emitted_by o one ds) k) answer
        (append_cancel_left (line_of o one since) (tick_at (emitted_by o one ds) k ∷ []) (answer ∷ [])
        (sym on.ticks ∙ answers.tick))

    -- The receiver of several stations returns the same tick, and the same note, later.
    pub answers-joined : AnswersTick w brief_note begun line t answer
        (option_map (late_brief m) told)
    answers-joined =
        let on : AddsOneTick w begun line t = adds_one_tick w causal begun line t in
        record {
          tick = on.ticks ∙ ap (λ x. line_of w begun line ++ x ∷ []) (tick-joined ∙ tick-told);
          note = ap (λ x. told_notes brief_note x) on.notes
              ∙ (map-append (λ (n : Noted FullNote). let y : Noted CheckNote = record {
                tick = n.tick;
                note = brief_note n.note;
              } in y) (notes_of w begun line)
              (notes_at (length line) (walked w begun (bursts (line ++ t ∷ []))))
              ∙ ap (λ x. told_notes brief_note (notes_of w begun line) ++ x)
              (ap (λ x. told_notes brief_note x) notes-joined
              ∙ (told-late m (notes_at k (walked o one ds))
              ∙ (ap (λ x. map (told_late m) x) notes-told
              ∙ (in-late m k told
              ∙ ap (λ i. note_in i (option_map (late_brief m) told)) (sym long))))));
        }
