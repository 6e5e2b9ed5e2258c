-- What a box has taken in memory: a tick, a run, or ticks after ticks.
use Rattle.line_commands.proofs.AnsweredRuns.{run_noted, step_noted}
use Rattle.line_commands.proofs.Walking.{run-answers, step-answers}
use Rattle.line_commands.specs.BoxLines.{BoxOrigin, BoxLinesHaveTaken, BoxLinesAreReady, BoxLinesTakeOn, BoxLinesTakeUpTo, TakesSome}
use Rattle.line_commands.specs.BoxLines.{StandsAfter}
use Rattle.line_commands.specs.{Boxes.AnswersBoxRun, Boxes.line_of_note, LinkBoxed.boxed_of}
use Rattle.line_commands.specs.{Sending.made_by, declared.box_lines.BoxLines.BoxLines}
use Rattle.frame_ending.proofs.BurstRuns.{run-none}
use Rattle.frame_ending.specs.Causal.{IsCausal}
use Rattle.frame_ending.specs.declared.box_step.BoxStep.{BoxStep}
use Rattle.line_texts.proofs.Added.{adds_nothing, adds_both, answers_both}
use Rattle.line_texts.proofs.Sending.{sends_added}
use Rattle.line_texts.specs.{Adding.TextAdds, Adding.HasLineRoom, Sending.SinkTexts, Texts.waiting_in}
use Rattle.line_texts.specs.declared.texts.Texts.{Texts}
use Rattle.link_box.specs.{Runs.TakesRun, Stepping.BoxSteps}
use Rattle.link_box.specs.declared.box_trait.LinkBox.{Ghosts as LinkBox}
use Rattle.link_format.specs.Setup.{Setup}
use Rattle.line_texts.specs.Adding.{IsShortFront}
use Rattle.sequence_journal.specs.{Journal.journal_link, Journal.journal_floor, Journal.Fits}
use Rattle.sequence_journal.specs.Late.{disk_journal, late_number, IsRising}
use Rattle.sequence_journal.specs.declared.{journal.Journal.Journal, late.LateJournal.LateJournal}
use Rattle.std.proofs.Common.{◌≡◌, ◌∙◌, ℕ, ◌+◌, ◌<◌, ◌≤◌, List, [], ◌∷◌, ◌++◌, length, take, None}
use Rattle.std.proofs.Common.{refl, sym, ap, subst, arith, append_assoc, length-append}
use Rattle.std.proofs.lemmas.List.{take-take, length-take}
use Rattle.yasir_ticks.specs.declared.tick.Tick.{Tick}

-- the first `n` ticks of a front are the first `n` ticks of the whole
pub front_first : (n most : ℕ) (all front : List Tick) → front ≡ take most all → n ≤ length front
    → (n ≤ length all) × (take n front ≡ take n all)
front_first n most all front is within =
    let size : length front ≡ length (take most all) = ap length is in
    let few : n ≤ most = omega (arith, within, size, length-take most all) in (
      omega (arith, within, size, length-take most all),
      ap (take n) is ∙ take-take n most all few,
    )

module _ {B N : Type 0} (b : LinkBox B N) (line_of : N → List ℕ) where
  -- ---- a run

  module _ (old : BoxLines B) (box : B) (texts : Texts) (run answer : List Tick)
      (causal : (value : B) (last : ℕ) (setup : Setup) (line : List Tick)
      → b.stands value last setup line → IsCausal (b.walking.walker setup))
      (takes : TakesRun b.walking b.stands old.line_box box run answer)
      (counts : b.taken box ≡ b.taken old.line_box + length run)
      (same : b.link_of box ≡ b.link_of old.line_box)
      (ready : BoxLinesAreReady b line_of old)
      (adds : TextAdds (waiting_in old.texts) (waiting_in texts) answer []) where
    abbrev ran : BoxLines B
    ran = record old { line_box = box; texts = texts }

    abbrev floor : ℕ
    floor = journal_floor old.journal

    run_answers : (setup : Setup) (line : List Tick) → StandsAfter b line_of old setup line
        → AnswersBoxRun (boxed_of b.walking line_of setup) line run answer
    run_answers setup line stood = run-answers b.walking line_of setup
        (causal old.line_box floor setup line stood.steps) line run answer
        (takes floor setup line stood.steps).answers

    pub run_taken : BoxLinesTakeOn b line_of old ran run
    run_taken = record {
      counted = counts;
      ready = record {
        serves = record {
          of_link = ready.serves.of_link ∙ sym same;
          fits = ready.serves.fits;
        };
        link_is = ready.link_is ∙ sym same;
        level = ready.level;
        rising = ready.rising;
      };
      disk = refl;
      answers = λ setup line stood.
          let answers = run_answers setup line stood in
          record {
            stands = record {
              steps = (takes floor setup line stood.steps).stands;
              number_is = stood.number_is ∙ sym answers.number;
            };
            answer = answer;
            note = [];
            noted = run_noted (boxed_of b.walking line_of setup) line run answer answers;
            adds = adds;
          };
    }

  -- The box took the first ticks of a run.
  pub front_taken : (old : BoxLines B) (box : B) (texts : Texts) (run : List Tick) (n : ℕ)
      (answer : List Tick)
      → (causal : (value : B) (last : ℕ) (setup : Setup) (line : List Tick)
      → b.stands value last setup line → IsCausal (b.walking.walker setup))
      → n ≤ length run
      → TakesRun b.walking b.stands old.line_box box (take n run) answer
      → b.taken box ≡ b.taken old.line_box + n → b.link_of box ≡ b.link_of old.line_box
      → BoxLinesAreReady b line_of old → TextAdds (waiting_in old.texts) (waiting_in texts) answer []
      → BoxLinesTakeUpTo b line_of old (record old { line_box = box; texts = texts }) run n
  front_taken old box texts run n answer causal within takes counts same ready adds = record {
    within = within;
    goes = run_taken old box texts (take n run) answer causal takes
        (omega (arith, counts, length-take n run, within)) same ready adds;
  }

  -- ---- a tick

  module _ (old : BoxLines B) (box : B) (journal : Journal) (late : LateJournal) (texts : Texts)
      (t : Tick) (step : BoxStep N)
      (link : journal_link journal ≡ journal_link old.journal) (fits : Fits journal None)
      (number : late_number late ≡ journal_floor journal) (rising : IsRising late)
      (disk : disk_journal late ≡ disk_journal old.late)
      (counts : b.taken box ≡ b.taken old.line_box + 1)
      (same : b.link_of box ≡ b.link_of old.line_box)
      (steps : BoxSteps b.walking b.stands old.line_box (journal_floor old.journal) box
      (journal_floor journal) t step.tick step.note)
      (ready : BoxLinesAreReady b line_of old)
      (adds : TextAdds (waiting_in old.texts) (waiting_in texts) (step.tick ∷ [])
      (line_of_note line_of step.note)) where
    abbrev stepped : BoxLines B
    stepped = record { line_box = box; journal = journal; late = late; texts = texts }

    pub step_taken : BoxLinesTakeOn b line_of old stepped (t ∷ [])
    step_taken = record {
      counted = counts;
      ready = record {
        serves = record { of_link = link ∙ (ready.serves.of_link ∙ sym same); fits = fits };
        link_is = ap journal_link disk ∙ (ready.link_is ∙ sym same);
        level = number;
        rising = rising;
      };
      disk = disk;
      answers = λ setup line stood.
          let went = steps setup line stood.steps in
          record {
            stands = record { steps = went.stands; number_is = went.number };
            answer = step.tick ∷ [];
            note = line_of_note line_of step.note;
            noted = step_noted (boxed_of b.walking line_of setup) line t step.tick
                (line_of_note line_of step.note)
                (step-answers b.walking line_of setup line t step.tick step.note went.answers);
            adds = adds;
          };
    }

  -- What the box took is on its way to the sinks.
  pub taken_on : (old new : BoxLines B) (run : List Tick) → BoxLinesTakeOn b line_of old new run
      → (origin : BoxOrigin) (held : SinkTexts) (line : List Tick)
      → BoxLinesHaveTaken b line_of old origin held line → BoxLinesHaveTaken b line_of new origin held (line ++ run)
  taken_on old new run on origin held line has =
      let adds = on.answers origin.setup line has.stood in
      record {
        stood = adds.stands;
        sends = sends_added (made_by (boxed_of b.walking line_of origin.setup)) line run adds.answer
            adds.note adds.noted (waiting_in old.texts) (waiting_in new.texts) origin.texts held
            has.sends adds.adds;
      }

  -- ---- ticks after ticks

  pub on_then : (x y z : BoxLines B) (first second : List Tick) → BoxLinesTakeOn b line_of x y first
      → BoxLinesTakeOn b line_of y z second → BoxLinesTakeOn b line_of x z (first ++ second)
  on_then x y z first second on then = record {
    counted = omega (arith, on.counted, then.counted, length-append first second);
    ready = then.ready;
    disk = then.disk ∙ on.disk;
    answers = λ setup line stood.
        let one = on.answers setup line stood in
        let next = then.answers setup (line ++ first) one.stands in
        record {
          stands = subst (StandsAfter b line_of z setup) (append_assoc line first second)
              next.stands;
          answer = one.answer ++ next.answer;
          note = one.note ++ next.note;
          noted = answers_both (made_by (boxed_of b.walking line_of setup)) line first second
              one.answer next.answer one.note next.note one.noted next.noted;
          adds = adds_both (waiting_in x.texts) (waiting_in y.texts) (waiting_in z.texts)
              one.answer next.answer one.note next.note one.adds next.adds;
        };
  }

  pub on_as : (x z : BoxLines B) (run same : List Tick) → run ≡ same → BoxLinesTakeOn b line_of x z run
      → BoxLinesTakeOn b line_of x z same
  on_as x z run same is on = subst (BoxLinesTakeOn b line_of x z) is on

  -- A call took no tick, and then another one took the first ticks of the same run.
  pub up_then : (x y z : BoxLines B) (run : List Tick) (m n : ℕ) → m ≤ 0
      → BoxLinesTakeUpTo b line_of x y run m → BoxLinesTakeUpTo b line_of y z run n
      → BoxLinesTakeUpTo b line_of x z run n
  up_then x y z run m n none first second =
      let zero : m ≡ 0 = omega (arith, none) in
      let nothing : take m run ≡ [] = ap (λ k. take k run) zero in record {
        within = second.within;
        goes = on_then x y z [] (take n run) (on_as x y (take m run) [] nothing first.goes)
            second.goes;
      }

  -- A call took no tick, and then one tick was taken.
  pub some_one : (x y z : BoxLines B) (run : List Tick) (n : ℕ) → n ≤ 0
      → BoxLinesTakeUpTo b line_of x y run n → (t : Tick) (rest : List Tick) → run ≡ t ∷ rest
      → BoxLinesTakeOn b line_of y z (t ∷ []) → HasLineRoom z.texts → TakesSome b line_of x z run 1
  some_one x y z run n none front t rest is on room =
      let zero : n ≡ 0 = omega (arith, none) in
      let nothing : take n run ≡ [] = ap (λ k. take k run) zero in
      let first : t ∷ [] ≡ take 1 run = sym (ap (take 1) is) in
      let some : 0 < length run = subst (λ l. 0 < length l) (sym is) (omega arith) in record {
        some = omega arith;
        front = record {
          within = omega (arith, some);
          goes = on_as x z (t ∷ []) (take 1 run) first (on_then x y z [] (t ∷ [])
              (on_as x y (take n run) [] nothing front.goes) on);
        };
        line_room = room;
      }

  -- What was taken of a short front of a run was taken of the run.
  pub of_short : (x z : BoxLines B) (run front : List Tick) (n : ℕ) → IsShortFront run front
      → BoxLinesTakeUpTo b line_of x z front n → BoxLinesTakeUpTo b line_of x z run n
  of_short x z run front n short up =
      let first = front_first n (length front) run front short.front_is up.within in
      record {
        within = first.0;
        goes = on_as x z (take n front) (take n run) first.1 up.goes;
      }

  -- If the box took no tick, nothing but the box itself may differ.
  pub none_taken : (old : BoxLines B) (box : B) (run : List Tick) (n : ℕ) → n ≡ 0
      → (causal : (value : B) (last : ℕ) (setup : Setup) (line : List Tick)
      → b.stands value last setup line → IsCausal (b.walking.walker setup))
      → (answer : List Tick) → TakesRun b.walking b.stands old.line_box box (take n run) answer
      → b.taken box ≡ b.taken old.line_box + n
      → b.link_of box ≡ b.link_of old.line_box
      → BoxLinesAreReady b line_of old
      → BoxLinesTakeUpTo b line_of old (record old { line_box = box }) run n
  none_taken old box run n none causal answer takes counts same ready =
      let no_tick : take n run ≡ [] = ap (λ k. take k run) none in
      let at_none : TakesRun b.walking b.stands old.line_box box [] [] = λ last setup line stands.
      record {
        stands = subst (λ run. b.stands box last setup (line ++ run)) no_tick
            (takes last setup line stands).stands;
        answers = run-none (b.walking.walker setup) b.walking.brief (b.walking.begun setup) line;
      } in
      record {
        within = omega (arith, none);
        goes = on_as old (record old { line_box = box }) [] (take n run) (sym no_tick)
            (run_taken old box old.texts [] [] causal at_none (omega (arith, counts, none)) same
            ready (adds_nothing (waiting_in old.texts)));
      }
