-- What a box has made of a line, as more ticks come.
use Rattle.line_commands.proofs.InMemory.{front_first}
use Rattle.line_commands.proofs.NotesInOrder.{order-more, order-to}
use Rattle.line_commands.specs.KeptBox.{timed_of, line_alone, KeepsLine, IsServed, IsSteady, KeptTakesOn}
use Rattle.line_commands.specs.KeptBox.{KeptTakesUpTo, TakesSome, KeepsOn, KeepsSome, KeepsWaiting}
use Rattle.line_commands.specs.KeptBox.{ticks_kept}
use Rattle.line_commands.specs.{MemoryText.text_bytes, TimedLines.timed_lines, TimedLines.AreInOrder}
use Rattle.line_commands.specs.declared.{kept_box.KeptBox.KeptBox, memory_text.MemoryText.MemoryText}
use Rattle.frame_ending.{proofs.BurstRuns.run-none, specs.Answers.told_notes}
use Rattle.frame_ending.specs.Answers.{note_in}
use Rattle.frame_ending.specs.{Walk.Walker, Walk.Noted, Walk.notes_of, Walk.line_of}
use Rattle.line_texts.proofs.{Added.adds_nothing, Sending.begins, Sending.sends_added}
use Rattle.line_texts.specs.{Adding.TextAdds, Sending.LineAndNotes, Sending.AnswersNoted}
use Rattle.line_texts.specs.Sending.{SinkTexts, sink_texts, SendsTexts}
use Rattle.line_texts.specs.{Texts.waiting_in, Writer.WriterHasWritten, declared.texts.Texts.Texts}
use Rattle.link_box.specs.{Runs.TakesRun, Stepping.BoxSteps, Walking.full_notes}
use Rattle.link_box.specs.declared.box_trait.LinkBox.{Ghosts as LinkBox}
use Rattle.{link_format.specs.Setup.Setup, session_lists.specs.FrameList.KeptFrames}
use Rattle.{session_lists.specs.FrameList.Holds, sequence_journal.specs.Journal.journal_floor}
use Rattle.std.proofs.Common.{◌≡◌, ◌∙◌, ℕ, ◌+◌, ◌-◌, ◌≤◌, List, [], ◌∷◌, ◌++◌, length}
use Rattle.std.proofs.Common.{take, Option, Some, None, refl, ap, sym, subst, arith}
use Rattle.std.proofs.Common.{append-nil, append_assoc, length-append}
use Rattle.std.proofs.lemmas.List.{length-take-le, map-append, length-replicate, take-replicate}
use Rattle.std.proofs.lemmas.List.{replicate-append-replicate}
use Rattle.std.specs.Io.KnownBytes.{append_known}
use Rattle.yasir_io.specs.TextBuffer.{waiting_bytes}
use Rattle.yasir_ticks.specs.{Bursts.bursts_from, Ticks.silent}
use Rattle.yasir_ticks.specs.declared.tick.Tick.{Tick, TheVariants.Silent}

-- ---- lines and texts

-- a walk over no line notes nothing
no-note : {S N : Type 0} (w : Walker S N) (s : S) → notes_of w s [] ≡ []
unfolding bursts_from
no-note w s = refl

no-tick : {S N : Type 0} (w : Walker S N) (s : S) → line_of w s [] ≡ []
unfolding bursts_from
no-tick w s = refl

-- a text that was written to an empty memory
pub text-of : (bytes text : List ℕ) → Some bytes ≡ append_known (Some []) text → bytes ≡ text
text-of bytes text is = cc

-- ---- what one call adds

module _ {B N : Type 0} (b : LinkBox B N) (line_of : N → List ℕ) where
  abbrev lines : Setup → List Tick → List (KeptFrames ℕ)
  lines setup line = (timed_of b.walking line_of setup).note_lines line

  abbrev begun-texts : SinkTexts
  begun-texts = sink_texts (Some []) (Some [])

  abbrev texts_in : KeptBox B → SinkTexts
  texts_in value = sink_texts (Some (text_bytes value.text)) (Some (text_bytes value.log))

  -- With the line of a step's note, if it has one, the lines are in order up to the next tick.
  order-step : (m : ℕ) (before : List (KeptFrames ℕ)) (note : Option N) → AreInOrder 0 m before
      → AreInOrder 0 (m + 1) (before ++ timed_lines line_of (note_in m note))
  order-step m before None order =
      subst (AreInOrder 0 (m + 1)) (sym (append-nil before))
      (order-to 0 m (m + 1) before order (omega arith))
  order-step m before (Some note) order = order-more 0 m before _ order refl

  module _ (old new : KeptBox B) (answer : List Tick)
      (adds : TextAdds (waiting_in old.texts) (waiting_in new.texts) answer [])
      (held : texts_in new ≡ texts_in old) where
    -- The ticks that a box returned for a run are on their way.
    sent-on : (made : LineAndNotes) (line run : List Tick) → AnswersNoted made line run answer []
        → SendsTexts made (waiting_in old.texts) begun-texts (texts_in old) line
        → SendsTexts made (waiting_in new.texts) begun-texts (texts_in new) (line ++ run)
    sent-on made line run answers sends =
        subst (λ now. SendsTexts made (waiting_in new.texts) begun-texts now (line ++ run)) (sym held)
        (sends_added made line run answer [] answers (waiting_in old.texts) (waiting_in new.texts)
        begun-texts (texts_in old) sends adds)

    -- The box takes a run without a note.
    keeps-run : (run : List Tick)
        → TakesRun b.walking b.stands old.line_box new.line_box run answer
        → new.journal ≡ old.journal → new.notes ≡ old.notes
        → ticks_kept new ≡ ticks_kept old + length run
        → (setup : Setup) (line : List Tick) → KeepsLine b line_of old setup line
        → KeepsLine b line_of new setup (line ++ run)
    keeps-run run takes journal notes counts setup line keeps =
        let ran = takes (journal_floor old.journal) setup line keeps.steps in
        let size : length (line ++ run) ≡ length line + length run = length-append line run in
        let told : lines setup (line ++ run) ≡ lines setup line =
        ap (timed_lines line_of) ran.answers.notes in
        record {
          steps = subst (λ j. b.stands new.line_box (journal_floor j) setup (line ++ run))
              (sym journal) ran.stands;
          counted = omega (arith, counts, keeps.counted, size);
          sends = sent-on (line_alone (timed_of b.walking line_of setup)) line run
              (record { ticks_are = ran.answers.ticks; note_is = refl }) keeps.sends;
          notes = subst (λ l. Holds l (lines setup (line ++ run))) (sym notes)
              (subst (Holds old.notes) (sym told) keeps.notes);
          in_order = subst (AreInOrder 0 (length (line ++ run))) (sym told)
              (order-to 0 (length line) (length (line ++ run)) (lines setup line) keeps.in_order
              (omega (arith, size)));
        }

    -- The box takes a tick, and the line of its step's note, if it has one, is kept.
    pub keeps-step : (t tick : Tick) (note : Option N) → answer ≡ tick ∷ []
        → BoxSteps b.walking b.stands old.line_box (journal_floor old.journal) new.line_box
        (journal_floor new.journal) t tick note
        → ((kept : List (KeptFrames ℕ)) → Holds old.notes kept
        → Holds new.notes (kept ++ timed_lines line_of (note_in (ticks_kept old) note)))
        → ticks_kept new ≡ ticks_kept old + 1
        → (setup : Setup) (line : List Tick) → KeepsLine b line_of old setup line
        → KeepsLine b line_of new setup (line ++ t ∷ [])
    keeps-step t tick note is_answer steps holds counts setup line keeps =
        let stepped = steps setup line keeps.steps in
        let size : length (line ++ t ∷ []) ≡ length line + 1 = length-append line (t ∷ []) in
        let told : List (Noted N) = told_notes b.walking.brief (full_notes b.walking setup line) in
        let is : lines setup (line ++ t ∷ [])
        ≡ lines setup line ++ timed_lines line_of (note_in (length line) note) =
        ap (timed_lines line_of) stepped.answers.note
        ∙ map-append _ told (note_in (length line) note) in
        let made : LineAndNotes = line_alone (timed_of b.walking line_of setup) in
        record {
          steps = stepped.stands;
          counted = omega (arith, counts, keeps.counted, size);
          sends = sent-on made line (t ∷ []) (record {
            ticks_are = subst (λ l. made.other_line (line ++ t ∷ []) ≡ made.other_line line ++ l)
                (sym is_answer) stepped.answers.tick;
            note_is = refl;
          }) keeps.sends;
          notes = subst (Holds new.notes) (sym is)
              (subst (λ m. Holds new.notes (lines setup line ++ timed_lines line_of (note_in m note)))
              keeps.counted (holds (lines setup line) keeps.notes));
          in_order = subst (λ m. AreInOrder 0 m (lines setup (line ++ t ∷ []))) (sym size)
              (subst (AreInOrder 0 (length line + 1)) (sym is)
              (order-step (length line) (lines setup line) note keeps.in_order));
        }

  -- The box took the first n ticks of a run, and the texts took what it returned.
  pub run-kept : (old : KeptBox B) (box : B) (texts : Texts) (ticks : ℕ) (run : List Tick) (n : ℕ)
      (answer : List Tick) → n ≤ length run
      → TakesRun b.walking b.stands old.line_box box (take n run) answer
      → ticks ≡ ticks_kept old + n → b.taken box ≡ b.taken old.line_box + n
      → b.link_of box ≡ b.link_of old.line_box → IsServed b line_of old
      → TextAdds (waiting_in old.texts) (waiting_in texts) answer []
      → KeptTakesUpTo b line_of old (record old { line_box = box; texts = texts; ticks = ticks }) run n
  run-kept old box texts ticks run n answer within takes counts taken link served adds =
      let size : length (take n run) ≡ n = length-take-le n run within in
      let new = record old { line_box = box; texts = texts; ticks = ticks } in
      let counted : ticks ≡ ticks_kept old + length (take n run) = omega (arith, counts, size) in
      record {
        within = within;
        goes = record {
          counted = counted;
          served = record {
            of_link = served.of_link ∙ sym link;
            fits = served.fits;
            level = omega (arith, taken, served.level, counts);
            whole = served.whole;
          };
          keeps = keeps-run old new answer adds refl (take n run) takes refl refl counted;
        };
      }

  -- A run without ticks has an empty answer.
  none_run : (old box : B) (run : List Tick) (n : ℕ) → n ≡ 0 → (answer : List Tick)
      → TakesRun b.walking b.stands old box (take n run) answer
      → TakesRun b.walking b.stands old box [] []
  none_run old box run n none answer takes = λ last setup line stands. record {
    stands = subst (λ run. b.stands box last setup (line ++ run)) (ap (λ k. take k run) none)
        (takes last setup line stands).stands;
    answers = run-none (b.walking.walker setup) b.walking.brief (b.walking.begun setup) line;
  }

  -- If the box took no tick, nothing but the box itself may differ.
  pub none-kept : (old : KeptBox B) (box : B) (run : List Tick) (n : ℕ) → n ≡ 0
      → (answer : List Tick)
      → TakesRun b.walking b.stands old.line_box box (take n run) answer
      → b.taken box ≡ b.taken old.line_box + n → b.link_of box ≡ b.link_of old.line_box
      → IsServed b line_of old → KeptTakesUpTo b line_of old (record old { line_box = box }) run n
  none-kept old box run n none answer takes taken link served =
      let no_tick : take n run ≡ [] = ap (λ k. take k run) none in
      run-kept old box old.texts old.ticks run n [] (omega (arith, none))
      (subst (λ r. TakesRun b.walking b.stands old.line_box box r []) (sym no_tick)
      (none_run old.line_box box run n none answer takes))
      (omega (arith, none)) taken link served (adds_nothing (waiting_in old.texts))

  -- What waited went to the memory.
  pub handed-on : (old mid : KeptBox B) (texts : Texts) (text log : MemoryText) (run : List Tick)
      (n : ℕ) → KeptTakesUpTo b line_of old mid run n
      → ((made : LineAndNotes) (line : List Tick)
      → SendsTexts made (waiting_in mid.texts) begun-texts (texts_in mid) line
      → SendsTexts made (waiting_in texts) begun-texts
      (sink_texts (Some (text_bytes text)) (Some (text_bytes log))) line)
      → KeptTakesUpTo b line_of old (record mid { texts = texts; text = text; log = log }) run n
  handed-on old mid texts text log run n up on = record {
    within = up.within;
    goes = record {
      counted = up.goes.counted;
      served = record {
        of_link = up.goes.served.of_link;
        fits = up.goes.served.fits;
        level = up.goes.served.level;
        whole = up.goes.served.whole;
      };
      keeps = λ setup line keeps.
          let kept = up.goes.keeps setup line keeps in record {
            steps = kept.steps;
            counted = kept.counted;
            sends = on (line_alone (timed_of b.walking line_of setup)) (line ++ take n run) kept.sends;
            notes = kept.notes;
            in_order = kept.in_order;
          };
    };
  }

  -- ---- ticks after ticks

  on-nothing : (value : KeptBox B) → IsServed b line_of value → KeptTakesOn b line_of value value []
  on-nothing value served = record {
    counted = omega arith;
    served = served;
    keeps = λ setup line keeps.
        subst (KeepsLine b line_of value setup) (sym (append-nil line)) keeps;
  }

  on-then : (x y z : KeptBox B) (first second : List Tick) → KeptTakesOn b line_of x y first
      → KeptTakesOn b line_of y z second → KeptTakesOn b line_of x z (first ++ second)
  on-then x y z first second on then = record {
    counted = omega (arith, on.counted, then.counted, length-append first second);
    served = then.served;
    keeps = λ setup line keeps.
        subst (KeepsLine b line_of z setup) (append_assoc line first second)
        (then.keeps setup (line ++ first) (on.keeps setup line keeps));
  }

  on-as : (x z : KeptBox B) (run same : List Tick) → run ≡ same → KeptTakesOn b line_of x z run
      → KeptTakesOn b line_of x z same
  on-as x z run same is on = subst (KeptTakesOn b line_of x z) is on

  -- The first call took no tick, and the second one took a front of the run.
  pub up-again : (x y z : KeptBox B) (run : List Tick) (none n : ℕ) → none ≤ 0
      → KeptTakesUpTo b line_of x y run none → KeptTakesUpTo b line_of y z run n
      → KeptTakesUpTo b line_of x z run n
  up-again x y z run none n few front then =
      let zero : none ≡ 0 = omega (arith, few) in
      let nothing : take none run ≡ [] = ap (λ k. take k run) zero in
      record {
        within = then.within;
        goes = on-then x y z [] (take n run) (on-as x y (take none run) [] nothing front.goes)
            then.goes;
      }

  -- What was taken of a short front of a run was taken of the run.
  pub up-to-front : (x z : KeptBox B) (run front : List Tick) (n : ℕ)
      → front ≡ take (length front) run → KeptTakesUpTo b line_of x z front n
      → KeptTakesUpTo b line_of x z run n
  up-to-front x z run front n is up =
      let first = front_first n (length front) run front is up.within in
      record {
        within = first.0;
        goes = on-as x z (take n front) (take n run) first.1 up.goes;
      }

  -- A call took no tick, and then one tick was taken.
  pub some-one : (x y z : KeptBox B) (run : List Tick) (n : ℕ) → n ≤ 0
      → KeptTakesUpTo b line_of x y run n → (t : Tick) (rest : List Tick) → run ≡ t ∷ rest
      → KeptTakesOn b line_of y z (t ∷ []) → TakesSome b line_of x z run 1
  some-one x y z run n none front t rest is on =
      let zero : n ≡ 0 = omega (arith, none) in
      let nothing : take n run ≡ [] = ap (λ k. take k run) zero in
      let first : t ∷ [] ≡ take 1 run = sym (ap (take 1) is) in
      record {
        some = omega arith;
        front = record {
          within = omega (arith, ap length is);
          goes = on-as x z (t ∷ []) (take 1 run) first (on-then x y z [] (t ∷ [])
              (on-as x y (take n run) [] nothing front.goes) on);
        };
      }

  -- ---- silence

  pub waits-none : (value : KeptBox B) (ticks : ℕ) → IsSteady b line_of value
      → KeepsWaiting b line_of value value ticks ticks
  waits-none value ticks steady = record {
    done = 0;
    all = omega arith;
    goes = on-nothing value steady.served;
    steady = steady;
  }

  pub waits-some : (x y z : KeptBox B) (ticks left count : ℕ)
      → KeepsWaiting b line_of x y ticks left → KeepsSome b line_of y z (silent left) count
      → KeepsWaiting b line_of x z ticks (left - count)
  waits-some x y z ticks left count waits keeps =
      let front = keeps.front in
      let within : count ≤ left = omega (arith, front.within, length-replicate left Silent) in
      let run : take count (silent left) ≡ silent count = take-replicate count left Silent within in
      record {
        done = waits.done + count;
        all = omega (arith, waits.all, within);
        goes = on-as x z (silent waits.done ++ silent count) (silent (waits.done + count))
            (replicate-append-replicate waits.done count Silent)
            (on-then x y z (silent waits.done) (silent count) waits.goes
            (on-as y z (take count (silent left)) (silent count) run front.goes));
        steady = keeps.steady;
      }

  pub waits-all : (x z : KeptBox B) (ticks left : ℕ) → left ≤ 0
      → KeepsWaiting b line_of x z ticks left → KeepsOn b line_of x z (silent ticks)
  waits-all x z ticks left none waits =
      let all : waits.done ≡ ticks = omega (arith, waits.all, none) in
      record {
        goes = on-as x z (silent waits.done) (silent ticks) (ap silent all) waits.goes;
        steady = waits.steady;
      }

  -- ---- no tick yet

  pub keeps-none : (value : KeptBox B) (setup : Setup)
      → b.stands value.line_box (journal_floor value.journal) setup []
      → ticks_kept value ≡ 0 → WriterHasWritten value.texts.writer [] []
      → value.texts.ticks.items ≡ [] → waiting_bytes value.texts.notes ≡ []
      → text_bytes value.text ≡ [] → text_bytes value.log ≡ [] → Holds value.notes []
      → KeepsLine b line_of value setup []
  keeps-none value setup stands none written ticks notes text log holds =
      let w = b.walking.walker setup in
      let made : LineAndNotes = line_alone (timed_of b.walking line_of setup) in
      let nothing : lines setup [] ≡ [] = ap (λ ns. timed_lines line_of (told_notes b.walking.brief ns))
      (no-note w (b.walking.begun setup)) in
      record {
        steps = stands;
        counted = none;
        sends = subst (λ now. SendsTexts made (waiting_in value.texts) begun-texts now [])
            (cong-texts (sym text) (sym log))
            (begins made value.texts.writer _ _ begun-texts (no-tick w (b.walking.begun setup)) refl
            written ticks notes);
        notes = subst (Holds value.notes) (sym nothing) holds;
        in_order = subst (AreInOrder 0 0) (sym nothing) (omega arith);
      }
    where
      cong-texts : {a b c d : List ℕ} → a ≡ b → c ≡ d
          → sink_texts (Some a) (Some c) ≡ sink_texts (Some b) (Some d)
      cong-texts first second = cc
