-- Runs that are sent.
use Rattle.frame_ending.specs.Answered.{answered}
use Rattle.link_box.specs.declared.box_trait.LinkBox.{Ghosts as LinkBox}
use Rattle.{sequence_journal.specs.Journal.journal_floor, std.proofs.Common.◌≡◌}
use Rattle.std.proofs.Common.{◌∙◌, ℕ, zero, suc, ◌+◌, ◌-◌, List, [], ◌∷◌, ◌++◌, length, take, drop}
use Rattle.std.proofs.Common.{map, ap, sym, subst, append_assoc, append-nil, refl, arith, Option}
use Rattle.std.proofs.lemmas.List.{take_all, take_rest, map-append, replicate-append-replicate}
use Rattle.trial_session.specs.{Boxes.trial_setup, Counting.Counting}
use Rattle.trial_session.specs.Counting.{CountsStep, CountsRun, through_in, refused_in, dropped_in}
use Rattle.trial_session.specs.Sides.{HasTaken, SideHasSent, HasPassed}
use Rattle.trial_session.specs.declared.{fate.Fate.Fate, side.Side.Side}
use Rattle.yasir_ticks.specs.Ticks.{silent}
use Rattle.yasir_ticks.specs.declared.tick.Tick.{Tick, TheVariants.Silent, TheVariants.Byte}

-- ---- lists up to a place

pub take-some : {A : Type 0} (at n : ℕ) (l : List A)
    → take (at + n) l ≡ take at l ++ take n (drop at l)
take-some zero n l = let on : zero + n ≡ n = omega arith in ap (λ k. take k l) on
take-some (suc at) n [] =
    take_all (suc at + n) [] (omega arith) ∙ sym (take_all n [] (omega arith))
take-some {A} (suc at) n (x ∷ xs) =
    let on : suc at + n ≡ suc (at + n) = omega arith in
    ap (λ k. take k (x ∷ xs)) on ∙ ap (λ (r : List A). x ∷ r) (take-some at n xs)

-- ticks up to a place, and the next n
pub run-more : (at n : ℕ) (ticks rest before : List Tick) → rest ≡ drop at ticks
    → before ++ take at ticks ++ take n rest ≡ before ++ take (at + n) ticks
run-more at n ticks rest before is =
    append_assoc before (take at ticks) (take n rest)
    ∙ ap (λ l. before ++ l) (ap (λ l. take at ticks ++ take n l) is ∙ sym (take-some at n ticks))

-- bytes up to a place, and the next n
pub bytes-more : (at n : ℕ) (bytes : List ℕ) (before : List Tick)
    → before ++ map (λ b. Byte b) (take at bytes)
    ++ map (λ b. Byte b) (take n (take (length bytes - at) (drop at bytes)))
    ≡ before ++ map (λ b. Byte b) (take (at + n) bytes)
bytes-more at n bytes before =
    append_assoc before (map (λ b. Byte b) (take at bytes)) _
    ∙ ap (λ l. before ++ l)
    (ap (λ l. map (λ b. Byte b) (take at bytes) ++ map (λ b. Byte b) (take n l))
    (take_rest bytes at)
    ∙ sym (map-append (λ b. Byte b) (take at bytes) (take n (drop at bytes)))
    ∙ ap (map (λ b. Byte b)) (sym (take-some at n bytes)))

pub silence-more : (at n : ℕ) (before : List Tick)
    → before ++ silent at ++ silent n ≡ before ++ silent (at + n)
silence-more at n before =
    append_assoc before (silent at) (silent n)
    ∙ ap (λ l. before ++ l) (replicate-append-replicate at n Silent)

module _ {X N : Type 0} (line_box : LinkBox X N) (counting : Counting) where
  -- The box takes a run in which nothing is counted.
  pub passes-run : (side next : Side X) (line run front answer : List Tick) → run ≡ front
      → line_box.stands next.line_box (journal_floor next.journal) trial_setup (line ++ run)
      → next.through ≡ side.through → next.refused ≡ side.refused → next.dropped ≡ side.dropped
      → HasTaken line_box counting side line → CountsRun counting line run answer
      → HasPassed line_box counting next line front answer
  passes-run side next line run front answer same stands through refused dropped before counts =
      subst (λ l. HasPassed line_box counting next line l answer) same (record {
        sent = record {
          taken = record {
            stands = stands;
            through_is = through ∙ before.through_is ∙ sym counts.through_is;
            refused_is = refused ∙ before.refused_is ∙ sym counts.refused_is;
            dropped_is = dropped ∙ before.dropped_is ∙ sym counts.dropped_is;
          };
          answered = counts.ticks_are;
        };
        long = counts.long;
      })

  -- The box takes a tick in whose step a burst may be counted.
  pub sends-step : (side next : Side X) (line : List Tick) (t tick : Tick) (fate : Option Fate)
      → line_box.stands next.line_box (journal_floor next.journal) trial_setup (line ++ t ∷ [])
      → next.through ≡ side.through + through_in fate
      → next.refused ≡ side.refused + refused_in fate
      → next.dropped ≡ side.dropped + dropped_in fate
      → HasTaken line_box counting side line → CountsStep counting line t tick fate
      → SideHasSent line_box counting next line (t ∷ []) (tick ∷ [])
  sends-step side next line t tick fate stands through refused dropped before counts = record {
    taken = record {
      stands = stands;
      through_is = through ∙ ap (λ k. k + through_in fate) before.through_is
          ∙ sym counts.through_is;
      refused_is = refused ∙ ap (λ k. k + refused_in fate) before.refused_is
          ∙ sym counts.refused_is;
      dropped_is = dropped ∙ ap (λ k. k + dropped_in fate) before.dropped_is
          ∙ sym counts.dropped_is;
    };
    answered = counts.tick_is;
  }

  -- A run without ticks changes nothing.
  pub passes-none : (side : Side X) (line run answer : List Tick) → run ≡ []
      → HasPassed line_box counting side line run answer → HasTaken line_box counting side line
  passes-none side line run answer none passed =
      subst (HasTaken line_box counting side) (ap (λ l. line ++ l) none ∙ append-nil line)
      passed.sent.taken

  -- A single tick that is sent is a run.
  pub passes-tick : (next : Side X) (line : List Tick) (t answer : Tick) (run answers : List Tick)
      → run ≡ t ∷ [] → answers ≡ answer ∷ []
      → SideHasSent line_box counting next line (t ∷ []) (answer ∷ [])
      → HasPassed line_box counting next line run answers
  passes-tick next line t answer run answers run_is answers_are sent =
      subst (λ l. HasPassed line_box counting next line l answers) (sym run_is)
      (subst (λ l. HasPassed line_box counting next line (t ∷ []) l) (sym answers_are) (record {
        sent = sent;
        long = refl;
      }))

  -- Bytes of an answer may be replaced by equal ones.
  pub passes-as : (next : Side X) (line run : List Tick) (n : ℕ) (left items : List ℕ)
      → left ≡ items → HasPassed line_box counting next line run (answered n items)
      → HasPassed line_box counting next line run (answered n left)
  passes-as next line run n left items is =
      subst (λ l. HasPassed line_box counting next line run (answered n l)) (sym is)

  -- nothing is sent yet
  pub sends-none : (side : Side X) (line : List Tick) → HasTaken line_box counting side line
      → SideHasSent line_box counting side line [] []
  sends-none side line taken = record {
    taken = subst (HasTaken line_box counting side) (sym (append-nil line)) taken;
    answered = ap counting.other_line (append-nil line)
        ∙ sym (append-nil (counting.other_line line));
  }

  -- One more run is sent.
  pub sends-run : (side next : Side X) (line more run answer before after : List Tick)
      → SideHasSent line_box counting side line more before
      → ((l : List Tick) → HasTaken line_box counting side l → HasPassed line_box counting next l
      run answer)
      → after ≡ before ++ answer
      → SideHasSent line_box counting next line (more ++ run) after
  sends-run side next line more run answer before after so pass is =
      let one = (pass (line ++ more) so.taken).sent in
      record {
        taken = subst (HasTaken line_box counting next) (append_assoc line more run) one.taken;
        answered = ap counting.other_line (sym (append_assoc line more run))
            ∙ one.answered
            ∙ ap (λ l. l ++ answer) so.answered
            ∙ append_assoc (counting.other_line line) before answer
            ∙ ap (λ l. counting.other_line line ++ l) (sym is);
      }
