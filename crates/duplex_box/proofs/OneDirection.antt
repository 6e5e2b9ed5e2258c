-- What the steps of a pair are in one of its directions.
use Rattle.duplex_box.specs.Pairs.{OneWay, BothWays, PairHasTaken}
use Rattle.duplex_box.specs.Turns.{Turn, Turns, notes_from, MakesLine}
use Rattle.frame_ending.specs.{Answers.told_notes, Answers.note_in, Walk.Noted}
use Rattle.link_box.specs.Walking.{full_notes, other_line}
use Rattle.link_box.specs.declared.box_trait.LinkBox.{Ghosts as LinkBox}
use Rattle.{link_format.specs.Setup.Setup, sequence_journal.specs.Journal.journal_floor}
use Rattle.std.proofs.Common.{◌≡◌, ◌∙◌, ℕ, suc, ◌+◌, List, [], ◌∷◌, ◌++◌, length, map, Option}
use Rattle.std.proofs.Common.{refl, sym, ap, subst, arith, append_assoc, length-append}
use Rattle.std.proofs.lemmas.List.{append-nil}
use Rattle.yasir_io.specs.declared.disk.SlotDisk.{Ghosts as SlotDisk}
use Rattle.yasir_ticks.specs.declared.tick.Tick.{Tick}

-- notes that follow others
notes-joined : {A : Type 0} (m : ℕ) (ns ms : List (Option A))
    → notes_from m ns ++ notes_from (m + length ns) ms ≡ notes_from m (ns ++ ms)
notes-joined m [] ms =
    let same : m + 0 ≡ m = omega arith in
    ap (λ k. notes_from k ms) same
notes-joined m (n ∷ ns) ms =
    let next : m + suc (length ns) ≡ (m + 1) + length ns = omega arith in
    append_assoc (note_in m n) (notes_from (m + 1) ns) (notes_from (m + suc (length ns)) ms)
    ∙ ap (λ l. note_in m n ++ l)
    (ap (λ k. notes_from (m + 1) ns ++ notes_from k ms) next ∙ notes-joined (m + 1) ns ms)

module _ {S A X : Type 0} (boxed : LinkBox S A) (d : SlotDisk X) where
  abbrev told : Setup → List Tick → List (Noted A)
  told setup line = told_notes boxed.walking.brief (full_notes boxed.walking setup line)

  -- Holds if, after whatever line the box had taken, it makes these ticks and these notes of the
  -- ticks that follow.
  abbrev pub Makes : OneWay S X → OneWay S X → List Tick → List Tick → List (Option A) → Type 0
  Makes old new ticks answers notes = (setup : Setup) (line : List Tick)
      → boxed.stands old.line_box (journal_floor old.journal) setup line
      → MakesLine boxed d old new setup line ticks answers notes

  makes-none : (old : OneWay S X) → Makes old old [] [] []
  makes-none old setup line stands =
      let P : List Tick → Type 0 = λ l.
      boxed.stands old.line_box (journal_floor old.journal) setup l in
      record {
        stands = subst P (sym (append-nil line)) stands;
        answers_are = ap (λ l. other_line boxed.walking setup l) (append-nil line)
            ∙ sym (append-nil (other_line boxed.walking setup line));
        notes_are = ap (λ l. told setup l) (append-nil line) ∙ sym (append-nil (told setup line));
        link = refl;
        crash_safe = λ safe. safe;
      }

  pub makes-step : (old new : OneWay S X) (t tick : Tick) (note : Option A)
      → PairHasTaken boxed d old new t tick note → Makes old new (t ∷ []) (tick ∷ []) (note ∷ [])
  makes-step old new t tick note taken setup line stands =
      let stepped = taken.steps setup line stands in
      record {
        stands = stepped.stands;
        answers_are = stepped.answers.tick;
        notes_are = stepped.answers.note
            ∙ ap (λ l. told setup line ++ l) (sym (append-nil (note_in (length line) note)));
        link = taken.journal.link;
        crash_safe = taken.journal.crash_safe;
      }

  -- ticks that follow others
  pub makes-more : (old mid new : OneWay S X) (setup : Setup)
      (line ticks answers more answers_to_more : List Tick)
      (notes notes_of_more : List (Option A)) → length notes ≡ length ticks
      → MakesLine boxed d old mid setup line ticks answers notes
      → MakesLine boxed d mid new setup (line ++ ticks) more answers_to_more notes_of_more
      → MakesLine boxed d old new setup line (ticks ++ more) (answers ++ answers_to_more)
      (notes ++ notes_of_more)
  makes-more old mid new setup line ticks answers more answers_to_more notes notes_of_more level
      first then =
      let whole : (line ++ ticks) ++ more ≡ line ++ (ticks ++ more) =
      append_assoc line ticks more in
      let P : List Tick → Type 0 = λ l.
      boxed.stands new.line_box (journal_floor new.journal) setup l in
      let m : ℕ = length line in
      let before : List (Noted A) = told setup line in
      let at : length (line ++ ticks) ≡ m + length notes =
      length-append line ticks ∙ ap (λ k. m + k) (sym level) in
      let joined : notes_from m notes ++ notes_from (length (line ++ ticks)) notes_of_more
      ≡ notes_from m (notes ++ notes_of_more) =
      ap (λ k. notes_from m notes ++ notes_from k notes_of_more) at
      ∙ notes-joined m notes notes_of_more in
      record {
        stands = subst P whole then.stands;
        answers_are = ap (λ l. other_line boxed.walking setup l) (sym whole)
            ∙ (then.answers_are
            ∙ (ap (λ l. l ++ answers_to_more) first.answers_are
            ∙ append_assoc (other_line boxed.walking setup line) answers answers_to_more));
        notes_are = ap (λ l. told setup l) (sym whole)
            ∙ (then.notes_are
            ∙ (ap (λ l. l ++ notes_from (length (line ++ ticks)) notes_of_more) first.notes_are
            ∙ (append_assoc before (notes_from m notes)
            (notes_from (length (line ++ ticks)) notes_of_more)
            ∙ ap (λ l. before ++ l) joined)));
        link = then.link ∙ first.link;
        crash_safe = λ safe. then.crash_safe (first.crash_safe safe);
      }

module _ {S A X T : Type 0} (boxed : LinkBox S A) (d : SlotDisk X) (tick_of : T → Tick)
    (answer_of : T → Tick) (note_of : T → Option A) where
  -- Holds if these turns lead, one after the other, from `old` to `new`.
  abbrev pub Along : OneWay S X → List T → OneWay S X → Type 0
  Along old [] new = old ≡ new
  Along old (x ∷ xs) new = (next : OneWay S X)
      × PairHasTaken boxed d old next (tick_of x) (answer_of x) (note_of x) × Along next xs new

  pub makes-line : (xs : List T) (old new : OneWay S X) → Along old xs new
      → Makes boxed d old new (map tick_of xs) (map answer_of xs) (map note_of xs)
  makes-line [] old new same setup line stands =
      let P : OneWay S X → Type 0 = λ way. MakesLine boxed d old way setup line [] [] [] in
      subst P same (makes-none boxed d old setup line stands)
  makes-line (x ∷ xs) old new along setup line stands =
      let first = makes-step boxed d old along.0 (tick_of x) (answer_of x) (note_of x) along.1 setup
      line stands in
      makes-more boxed d old along.0 new setup line (tick_of x ∷ []) (answer_of x ∷ [])
      (map tick_of xs) (map answer_of xs) (note_of x ∷ []) (map note_of xs) refl
      first (makes-line xs along.0 new along.2 setup (line ++ tick_of x ∷ []) first.stands)

module _ {S C A B X Y : Type 0} (sends : LinkBox S A) (gets : LinkBox C B) (d : SlotDisk X)
    (e : SlotDisk Y) where
  pub along-outgoing : (turns : List (Turn A B)) (old new : BothWays S C X Y)
      → Turns sends gets d e old turns new
      → Along sends d (λ turn. turn.from_device) (λ turn. turn.step.link)
      (λ turn. turn.step.sealed) old.outgoing turns new.outgoing
  along-outgoing [] old new same = ap (λ ways. ways.outgoing) same
  along-outgoing (turn ∷ turns) old new steps =
      (steps.0.outgoing, steps.1.outgoing, along-outgoing turns steps.0 new steps.2)

  pub along-incoming : (turns : List (Turn A B)) (old new : BothWays S C X Y)
      → Turns sends gets d e old turns new
      → Along gets e (λ turn. turn.from_link) (λ turn. turn.step.device)
      (λ turn. turn.step.checked) old.incoming turns new.incoming
  along-incoming [] old new same = ap (λ ways. ways.incoming) same
  along-incoming (turn ∷ turns) old new steps =
      (steps.0.incoming, steps.1.incoming, along-incoming turns steps.0 new steps.2)
