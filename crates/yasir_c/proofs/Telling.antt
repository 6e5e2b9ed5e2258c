-- All that C reads of a box is what the definition of the box says.
use Rattle.any_box.specs.declared.any_box.AnyBox.{AnyBox}
use Rattle.any_box.specs.declared.defined.DefinedBox.{Ghosts as DefinedBox}
use Rattle.std.proofs.Common.{◌≡◌, ◌∙◌, ℕ, ◌+◌, List, [], ◌∷◌, ◌++◌, suc, length, map, take}
use Rattle.std.proofs.Common.{refl, sym, ap, subst, arith, append_assoc}
use Rattle.std.proofs.lemmas.List.{append-nil, map-append, length-map}
use Rattle.{std.specs.Prelude.Option}
use Rattle.std.specs.Prelude.{Some, None, nat_eq, if◌then◌else◌}
use Rattle.any_box.specs.Boxes.{box_kind}
use Rattle.any_box.specs.Noting.{Definition}
use Rattle.any_box.specs.Held.{floor_held, HeldBegins, HeldHolds, StepsHeld}
use Rattle.any_box.specs.declared.any_note.AnyNote.{AnyNote}
use Rattle.any_box.specs.declared.any_note.AnyNote.TheVariants.{OfSealer, OfChecker}
use Rattle.any_box.specs.declared.{held_box.HeldBox.HeldBox, held_box.HeldStep.HeldStep}
use Rattle.any_box.specs.declared.{kind.Kind.Kind, owed.Commit.Commit}
use Rattle.frame_ending.specs.Answered.{answered}
use Rattle.frame_ending.specs.{Answers.told_notes, Answers.note_in, Walk.Noted}
use Rattle.link_format.specs.declared.dir.Dir.{Dir}
use Rattle.link_format.specs.Setup.{Setup, setup_of}
use Rattle.sequence_journal.specs.Journal.{journal_floor}
use Rattle.link_box.specs.declared.check_note.CheckNote.TheVariants.{Passed, Refused, Dropped}
use Rattle.link_box.specs.declared.seal_note.SealNote.TheVariants.{Sealed, Unsealed}
use Rattle.yasir_c.specs.Answers.{answer_of, numbers_in, tick_bytes}
use Rattle.yasir_c.specs.Holding.{HandleTakesTick, TakesFront, HandleHandsOut, HandleStops}
use Rattle.yasir_c.specs.Telling.{tick_told, note_told, notes_told, quiet}
use Rattle.yasir_c.specs.Telling.{AreAnswers, HasTold, TellsAnswers}
use Rattle.yasir_c.specs.Withholding.{ready, readiness_after}
use Rattle.yasir_c.specs.declared.answer.{Answer.Answer, NoteNumbers.NoteNumbers}
use Rattle.yasir_c.specs.declared.held.Held.{Held, TheVariants.LineBox, TheVariants.Spacer}
use Rattle.yasir_c.specs.declared.withholding.WithholdingBox.{WithholdingBox}
use Rattle.yasir_ticks.specs.declared.tick.Tick.{Tick}
use Rattle.yasir_ticks.specs.declared.tick.Tick.TheVariants.{Silent, Byte}

-- the tick of a step is the one that C reads
tick-back : (tick : Tick)
    → (if nat_eq (tick_bytes tick).0 1 then Byte (tick_bytes tick).1 else Silent) ≡ tick
tick-back Silent = refl
tick-back (Byte b) = refl

-- the note of a step is the one that C reads
note-back : (m : ℕ) (tick : Tick) (note : Option AnyNote)
    → note_told m (answer_of (record { tick = tick; note = note; commit = None }))
    ≡ told_notes (λ n. numbers_in (Some n)) (note_in m note)
note-back m tick None = refl
note-back m tick (Some (OfSealer (Sealed number start len))) = refl
note-back m tick (Some (OfSealer (Unsealed start why))) = refl
note-back m tick (Some (OfChecker (Passed number start len))) = refl
note-back m tick (Some (OfChecker (Refused start why))) = refl
note-back m tick (Some (OfChecker (Dropped start why))) = refl

-- the notes of more answers
notes-append : (m : ℕ) (some more : List Answer)
    → notes_told m (some ++ more) ≡ notes_told m some ++ notes_told (m + length some) more
notes-append m [] more = ap (λ n. notes_told n more) (omega arith)
notes-append m (answer ∷ some) more =
    let e : m + suc (length some) ≡ (m + 1) + length some = omega arith in
    rw e (ap (λ ns. note_told m answer ++ ns) (notes-append (m + 1) some more)
    ∙ sym (append_assoc (note_told m answer) (notes_told (m + 1) some)
    (notes_told ((m + 1) + length some) more)))

-- silent answers and answers with bytes have no notes
notes-quiet : (m : ℕ) (ticks : List Tick) → notes_told m (map (λ t. quiet t) ticks) ≡ []
notes-quiet m [] = refl
notes-quiet m (tick ∷ ticks) = notes-quiet (m + 1) ticks

ticks-quiet : (ticks : List Tick) → map tick_told (map (λ t. quiet t) ticks) ≡ ticks
ticks-quiet [] = refl
ticks-quiet (tick ∷ ticks) =
    ap (λ t. t ∷ map tick_told (map (λ u. quiet u) ticks)) (tick-back tick)
    ∙ ap (λ ts. tick ∷ ts) (ticks-quiet ticks)

abbrev told : List (Noted AnyNote) → List (Noted NoteNumbers)
told notes = told_notes (λ n. numbers_in (Some n)) notes

told-append : (some more : List (Noted AnyNote)) → told (some ++ more) ≡ told some ++ told more
told-append some more =
    map-append (λ (n : Noted AnyNote). record { tick = n.tick; note = numbers_in (Some n.note) })
    some more

-- more answers to more of a line
answers-more : (made : Definition) (setup : Setup) (line more : List Tick) (some new : List Answer)
    → AreAnswers made setup line some
    → made.other setup (line ++ more) ≡ made.other setup line ++ map tick_told new
    → told (made.notes setup (line ++ more))
    ≡ told (made.notes setup line) ++ notes_told (0 + length some) new
    → AreAnswers made setup (line ++ more) (some ++ new)
answers-more made setup line more some new are ticks notes = record {
  ticks_are = map-append tick_told some new
      ∙ (ap (λ ts. ts ++ map tick_told new) are.ticks_are ∙ sym ticks);
  notes_are = notes-append 0 some new
      ∙ (ap (λ ns. ns ++ notes_told (0 + length some) new) are.notes_are ∙ sym notes);
}

-- the box in a handle is one box
abbrev box_or : WithholdingBox → Option Held → WithholdingBox
box_or other None = other
box_or other (Some (LineBox line_box)) = line_box
box_or other (Some (Spacer spacer)) = other

same-box : (one two : WithholdingBox) → Some (LineBox one) ≡ Some (LineBox two) → one ≡ two
same-box one two e = ap (box_or one) e

no-length : {A : Type 0} (l : List A) → length l ≡ 0 → l ≡ []
no-length [] e = refl
no-length (x ∷ l) e = absurd (omega (arith, e))

module _ (boxes : DefinedBox AnyBox)
    (as-long : (kind : Kind) (setup : Setup) (line : List Tick)
    → length ((boxes.defined kind).other setup line) ≡ length line)
    (none-noted : (kind : Kind) (setup : Setup) → (boxes.defined kind).notes setup [] ≡ []) where
  abbrev made : Kind → Definition
  made kind = boxes.defined kind

  -- there is an answer for each tick
  length-answers : (kind : Kind) (setup : Setup) (line : List Tick) (some : List Answer)
      → AreAnswers (made kind) setup line some → 0 + length some ≡ length line
  length-answers kind setup line some are =
      let e = sym (length-map some tick_told) ∙ (ap length are.ticks_are
      ∙ as-long kind setup line) in
      omega (arith, e)

  -- one more answer to one more tick
  answers-step : (kind : Kind) (setup : Setup) (before after : HeldBox) (line : List Tick)
      (some : List Answer) (t : Tick) (step : HeldStep) → box_kind before.line_box ≡ kind
      → HeldHolds boxes before setup line
      → StepsHeld boxes before after t step
      → AreAnswers (made kind) setup line some
      → AreAnswers (made kind) setup (line ++ t ∷ []) (some ++ answer_of step ∷ [])
  answers-step kind setup before after line some t step kind_is holds steps are =
      let one = steps.steps.steps setup line holds in
      let e : box_kind after.line_box ≡ kind = steps.steps.kind_is ∙ kind_is in
      let tick_is = subst (λ k. (made k).other setup (line ++ t ∷ [])
      ≡ (made k).other setup line ++ step.tick ∷ []) e one.tick_is in
      let note_is = subst (λ k. (made k).notes setup (line ++ t ∷ [])
      ≡ (made k).notes setup line ++ note_in (length line) step.note) e one.note_is in
      let count = length-answers kind setup line some are in
      let here : told (note_in (length line) step.note)
      ≡ notes_told (0 + length some) (answer_of step ∷ []) =
      sym (note-back (length line) step.tick step.note)
      ∙ (ap (λ m. note_told m (answer_of step)) (sym count)
      ∙ sym (append-nil (note_told (0 + length some) (answer_of step)))) in
      answers-more (made kind) setup line (t ∷ []) some (answer_of step ∷ []) are
      (tick_is ∙ ap (λ u. (made kind).other setup line ++ u ∷ []) (sym (tick-back step.tick)))
      (ap told note_is ∙ (told-append ((made kind).notes setup line) _
      ∙ ap (λ ns. told ((made kind).notes setup line) ++ ns) here))

  -- what a box has taken after a step, and the answers to it
  record Stepped (kind : Kind) (setup : Setup) (new : WithholdingBox) (line : List Tick)
      (some : List Answer) : Type 0 where
    kind_is : box_kind new.line_box.line_box ≡ kind
    holds : HeldHolds boxes new.line_box setup line
    are : AreAnswers (made kind) setup line some

  stepped : (kind : Kind) (setup : Setup) (old new : WithholdingBox) (line : List Tick)
      (some : List Answer) (t : Tick) (step : HeldStep)
      → TellsAnswers boxes kind setup old line some
      → HandleTakesTick boxes (Some (LineBox old)) (Some (LineBox new)) t step
      → Stepped kind setup new (line ++ t ∷ []) (some ++ answer_of step ∷ [])
  stepped kind setup old new line some t step tells takes =
      let was = subst (λ b. TellsAnswers boxes kind setup b line some)
      (same-box _ _ takes.old_is) tells in
      let is : takes.after ≡ new.line_box =
      sym (ap (λ (b : WithholdingBox). b.line_box) (same-box _ _ takes.new_is)) in
      record {
        kind_is = subst (λ (h : HeldBox). box_kind h.line_box ≡ kind) is
            (takes.steps.steps.kind_is ∙ was.kind_is);
        holds = subst (λ h. HeldHolds boxes h setup (line ++ t ∷ [])) is
            (takes.steps.steps.steps setup line was.holds).stands;
        are = answers-step kind setup takes.before takes.after line some t step was.kind_is
            was.holds takes.steps was.told;
      }

  readiness-is : (new : WithholdingBox) (t : Tick) (step : HeldStep) (old : WithholdingBox)
      (commit : Option Commit)
      → HandleTakesTick boxes (Some (LineBox old)) (Some (LineBox new)) t step
      → step.commit ≡ commit → new.readiness ≡ readiness_after commit (answer_of step)
  readiness-is new t step old commit takes is =
      ap (λ (b : WithholdingBox). b.readiness) (same-box _ _ takes.new_is)
      ∙ ap (λ c. readiness_after c (answer_of step)) is

  pub tells-answer : (kind : Kind) (setup : Setup) (old new : WithholdingBox) (line : List Tick)
      (some : List Answer) (t : Tick) (step : HeldStep)
      → TellsAnswers boxes kind setup old line some
      → HandleTakesTick boxes (Some (LineBox old)) (Some (LineBox new)) t step
      → step.commit ≡ None
      → TellsAnswers boxes kind setup new (line ++ t ∷ []) (some ++ answer_of step ∷ [])
  tells-answer kind setup old new line some t step tells takes is =
      let has = stepped kind setup old new line some t step tells takes in
      record {
        kind_is = has.kind_is;
        holds = has.holds;
        told = subst (λ r. HasTold (made kind) setup (line ++ t ∷ []) r
            (some ++ answer_of step ∷ []))
            (sym (readiness-is new t step old None takes is)) has.are;
      }

  pub tells-less : (kind : Kind) (setup : Setup) (old new : WithholdingBox) (line : List Tick)
      (some : List Answer) (t : Tick) (step : HeldStep) (commit : Commit)
      → TellsAnswers boxes kind setup old line some
      → HandleTakesTick boxes (Some (LineBox old)) (Some (LineBox new)) t step
      → step.commit ≡ Some commit
      → TellsAnswers boxes kind setup new (line ++ t ∷ []) some
  tells-less kind setup old new line some t step commit tells takes is =
      let has = stepped kind setup old new line some t step tells takes in
      record {
        kind_is = has.kind_is;
        holds = has.holds;
        told = subst (λ r. HasTold (made kind) setup (line ++ t ∷ []) r some)
            (sym (readiness-is new t step old (Some commit) takes is)) has.are;
      }

  pub tells-withheld : (kind : Kind) (setup : Setup) (old new : WithholdingBox) (line : List Tick)
      (some : List Answer) (answer : Answer)
      → TellsAnswers boxes kind setup old line some
      → HandleHandsOut (Some (LineBox old)) (Some (LineBox new)) answer
      → TellsAnswers boxes kind setup new line (some ++ answer ∷ [])
  tells-withheld kind setup old new line some answer tells hands =
      let was = subst (λ b. TellsAnswers boxes kind setup b line some)
      (same-box _ _ hands.old_is) tells in
      subst (λ b. TellsAnswers boxes kind setup b line (some ++ answer ∷ []))
      (sym (same-box new _ hands.new_is))
      (record { kind_is = was.kind_is; holds = was.holds; told = was.told })

  pub tells-no-more : (kind : Kind) (setup : Setup) (old new : WithholdingBox) (line : List Tick)
      (some : List Answer) → TellsAnswers boxes kind setup old line some
      → HandleStops (Some (LineBox old)) (Some (LineBox new))
      → TellsAnswers boxes kind setup new line some
  tells-no-more kind setup old new line some tells stops =
      let was = subst (λ b. TellsAnswers boxes kind setup b line some)
      (same-box _ _ stops.old_is) tells in
      subst (λ b. TellsAnswers boxes kind setup b line some)
      (sym (same-box new _ stops.new_is))
      (record { kind_is = was.kind_is; holds = was.holds; told = (stops.answer, was.told) })

  pub tells-run : (kind : Kind) (setup : Setup) (old new : WithholdingBox) (line : List Tick)
      (some : List Answer) (run : List Tick) (sent : List ℕ) (taken : ℕ)
      → TellsAnswers boxes kind setup old line some
      → TakesFront boxes (Some (LineBox old)) (Some (LineBox new)) run sent taken
      → TellsAnswers boxes kind setup new (line ++ take taken run)
      (some ++ map (λ t. quiet t) (answered taken sent))
  tells-run kind setup old new line some run sent taken tells takes =
      let was = subst (λ b. TellsAnswers boxes kind setup b line some)
      (same-box _ _ takes.old_is) tells in
      let front = take taken run in let ticks = answered taken sent in
      let more = map (λ t. quiet t) ticks in
      let taking = takes.takes.takes in
      let e : box_kind takes.after.line_box ≡ kind = taking.kind_is ∙ was.kind_is in
      let one = taking.takes (floor_held takes.before) setup line was.holds in
      let ticks_are = subst (λ k. (made k).other setup (line ++ front)
      ≡ (made k).other setup line ++ ticks) e one.ticks_are in
      let no_note = subst (λ k. (made k).notes setup (line ++ front)
      ≡ (made k).notes setup line) e one.no_note in
      let are = answers-more (made kind) setup line front some more was.told
      (ticks_are ∙ ap (λ ts. (made kind).other setup line ++ ts) (sym (ticks-quiet ticks)))
      (ap told no_note ∙ (sym (append-nil (told ((made kind).notes setup line)))
      ∙ ap (λ ns. told ((made kind).notes setup line) ++ ns)
      (sym (notes-quiet (0 + length some) ticks)))) in
      subst (λ b. TellsAnswers boxes kind setup b (line ++ front) (some ++ more))
      (sym (same-box new _ takes.new_is))
      (record {
        kind_is = e;
        holds = subst (λ n. boxes.stands takes.after.line_box n setup
            (line ++ front)) (sym (ap journal_floor takes.takes.journal)) one.stands;
        told = are;
      })

  -- nothing is made of no line
  no-other : (kind : Kind) (setup : Setup) → (made kind).other setup [] ≡ []
  no-other kind setup = no-length ((made kind).other setup []) (as-long kind setup [])

  pub tells-none : (kind : Kind) (dir : Dir) (key a b : List ℕ) (held : HeldBox)
      → HeldBegins boxes kind dir key a b held
      → TellsAnswers boxes kind (setup_of key dir (floor_held held)) (ready held) [] []
  tells-none kind dir key a b held begins =
      let setup = setup_of key dir (floor_held held) in
      record {
        kind_is = begins.kind_is;
        holds = begins.holds;
        told = record {
          ticks_are = sym (no-other kind setup);
          notes_are = sym (ap told (none-noted kind setup));
        };
      }
