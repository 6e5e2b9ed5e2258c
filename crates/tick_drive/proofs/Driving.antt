-- How a drive over an input goes on by a byte and by a line, and how it ends.
use Rattle.std.proofs.Common.{◌≡◌, ◌≢◌, ℕ, ◌+◌, ◌≤◌, inl, inr, List, [], ◌∷◌, ◌++◌, length, Option}
use Rattle.std.proofs.Common.{Ok, Err, Bool, true, false, subst, sym, ap, refl, ◌∙◌, arith}
use Rattle.std.proofs.{Common.append-nil, Common.length-append, lemmas.Bool.cases_eq}
use Rattle.std.{proofs.lemmas.List.nil_from_length, specs.List.flat_map, specs.Prelude.unwrap_or}
use Rattle.tick_drive.proofs.{ItemLaws.ticks_with, Moving.gives_then, Moving.gives_front}
use Rattle.tick_drive.{proofs.Moving.gives_items, specs.Consumers.Consuming}
use Rattle.tick_drive.specs.{Consumers.AreJoined, Consumers.Gives, Drive.Drives, Drive.HandsOver}
use Rattle.tick_drive.specs.{Drive.HandAnswer, Drive.halted_end, Input.IsMetOf}
use Rattle.tick_drive.specs.Input.{EndsInputLine, IsWhole, IsReadCause, max_ticks, is_read_fault}
use Rattle.tick_drive.specs.Intake.{HasMet, MeetsLine, MeetsEnd, StepAnswer, FinishAnswer, lent}
use Rattle.tick_drive.specs.{Items.silent_items, declared.consumer.Stop.Stop, declared.end.End.End}
use Rattle.tick_drive.specs.declared.end.End.TheVariants.{Whole, Refused, TooLong, ReadFault}
use Rattle.tick_drive.specs.declared.end.{End.TheVariants.Stopped, TooMuch.TheVariants.Ticks}
use Rattle.tick_drive.specs.declared.{end.TooMuch.TheVariants.Bytes, input_loop.Halt.Halt}
use Rattle.tick_drive.specs.declared.input_loop.Halt.TheVariants.{TooMany, ByConsumer}
use Rattle.{tick_drive.specs.declared.intake.Intake.Intake, yasir_ticks.proofs.Lines.lines_of-more}
use Rattle.yasir_ticks.specs.{Characters.line_feed, Reader.items_of_content, TickText.IsTickText}
use Rattle.yasir_ticks.specs.TickText.{BeginsTickText, ended_items, lines_of, line_items}
use Rattle.yasir_ticks.specs.Ticks.{Item, ticks_in}
use Rattle.yasir_ticks.specs.declared.{TheConstants.MAX_TICKS, place.Content.Content}

ended_items-nil : ended_items [] ≡ []
unfolding lines_of
ended_items-nil = refl

nothing_behind : (xs ys : List Item) → xs ++ ys ≡ xs → ys ≡ []
nothing_behind xs ys e = nil_from_length ys (omega (arith, ap length e, length-append xs ys))

-- If a line with ticks or a mark ends at a byte, the byte is an LF.
ends_by_line_feed : (text : List ℕ) (byte : ℕ) (line : List Item)
    → ended_items (text ++ byte ∷ []) ≡ ended_items text ++ line → line ≢ [] → byte ≡ line_feed
ends_by_line_feed text byte line ended some = elim (cases_eq byte line_feed) [
  | inl is ↦ is
  | inr other ↦ absurd (some (nothing_behind (ended_items text) line (sym ended ∙ same other)))
]
  where
    same : byte ≢ 10 → ended_items (text ++ byte ∷ []) ≡ ended_items text
    same other = ap (λ lines. flat_map (λ l. unwrap_or (line_items l) []) lines.ended)
        (lines_of-more text byte other)

-- If a line with ticks or a mark is met, an LF ends it, and no such line ended in the bytes before
-- the LF.
ends_line : (intake : Intake) (marks : ℕ) (before now : Option (List ℕ)) (text : List ℕ)
    (line : List Item) (met : MeetsLine intake marks before now text line) → line ≢ []
    → EndsInputLine marks before (text ++ met.front) (ended_items text) line
ends_line intake marks before now text line met some =
    let byte_is : met.byte ≡ line_feed =
    ends_by_line_feed (text ++ met.front) met.byte line
    (met.ended ∙ ap (λ items. items ++ line) (sym (met.quiet some))) some in
    record {
      met = subst (λ b. IsMetOf before ((text ++ met.front) ++ b ∷ [])) byte_is
          (record { came = (_, met.met.source); within = met.met.within });
      begins = subst (λ b. BeginsTickText marks ((text ++ met.front) ++ b ∷ [])) byte_is
          met.met.begins;
      ended = subst (λ b. ended_items ((text ++ met.front) ++ b ∷ [])
          ≡ ended_items text ++ line) byte_is met.ended;
      some = some;
    }

-- A line that is met with the bytes that are lent is met with any equal bytes.
pub line_lent : (intake : Intake) (marks : ℕ) (before now : Option (List ℕ)) (text : List ℕ)
    (content : Content) (bytes : List ℕ) → bytes ≡ lent intake
    → MeetsLine intake marks before now text (items_of_content content (lent intake))
    → MeetsLine intake marks before now text (items_of_content content bytes)
line_lent intake marks before now text content bytes e met =
    subst (λ b. MeetsLine intake marks before now text (items_of_content content b)) (sym e) met

-- A whole input is still whole with a rest after it.
rested : (marks rest : ℕ) (before now : Option (List ℕ)) (items : List Item)
    → IsWhole marks 0 before now items → IsWhole marks rest before now (items ++ silent_items rest)
rested marks rest before now items h = record {
  text = h.text;
  told = h.told;
  met = h.met;
  right = h.right;
  few = h.few;
  are = ap (λ items. items ++ silent_items rest) (h.are ∙ append-nil h.told);
}

-- A whole input has at most `max_ticks` ticks.
pub few-whole : (marks : ℕ) (before now : Option (List ℕ)) (items : List Item)
    → IsWhole marks 0 before now items → length (ticks_in items) ≤ max_ticks
few-whole marks before now items h =
    let same : length (ticks_in items) ≡ length (ticks_in h.told) =
    ap (λ l. length (ticks_in l)) (h.are ∙ append-nil h.told) in omega (arith, same, h.few)

-- If nothing was read, the input's count of faults stays the same, and is no cause.
pub read_same : (in0 in1 : ℕ) (is_cause : Bool) → in1 ≡ in0 → is_cause ≡ false
    → IsReadCause in0 in1 is_cause
read_same in0 in1 is_cause e unless = record {
  never_falls = omega (arith, e);
  failed = λ yes. absurd (let both : true ≡ false = sym yes ∙ unless in cc);
  same = λ _. e;
}

module _ {C : Type 0} (meaning : Consuming C) where
  -- Holds if a text was met so far, the consumer was given the items of the lines that ended in it,
  -- and these have `ticks` ticks.
  pub record Progress (marks : ℕ) (before now : Option (List ℕ)) (intake : Intake)
      (start state : C) (ticks : ℕ) : Type 0 where
    pub text : List ℕ
    pub met : HasMet intake marks before now text
    pub gives : Gives meaning start state (ended_items text) (Ok tt)
    pub sum : ticks ≡ length (ticks_in (ended_items text))
    pub few : ticks ≤ max_ticks
    pub room : meaning.taken state + max_ticks ≤ MAX_TICKS + ticks

module _ {C : Type 0} (meaning : Consuming C) (joins : AreJoined meaning) where
  -- At the start nothing was met, and nothing was given.
  pub progress_start : (marks : ℕ) (before : Option (List ℕ)) (intake : Intake)
      (start : C) → HasMet intake marks before before []
      → Gives meaning start start [] (Ok tt) → meaning.taken start + max_ticks ≤ MAX_TICKS
      → Progress meaning marks before before intake start start 0
  progress_start marks before intake start met none room = record {
    text = [];
    met = met;
    gives = gives_items meaning start start [] (ended_items []) (Ok tt) (sym ended_items-nil)
        none;
    sum = sym (ap (λ items. length (ticks_in items)) ended_items-nil);
    few = omega arith;
    room = omega (arith, room);
  }

  -- If the intake stays the same, so does the progress.
  pub progress_same : (marks : ℕ) (before now : Option (List ℕ)) (old new : Intake)
      (start state : C) (ticks : ℕ) → new ≡ old
      → Progress meaning marks before now old start state ticks
      → Progress meaning marks before now new start state ticks
  progress_same marks before now old new start state ticks e p =
      subst (λ i. Progress meaning marks before now i start state ticks) (sym e) p

  -- If bytes are met that end no line with ticks or a mark, the consumer needs to be given nothing.
  pub progress_quiet : (marks : ℕ) (before now later : Option (List ℕ)) (intake next : Intake)
      (start state : C) (ticks : ℕ)
      (p : Progress meaning marks before now intake start state ticks)
      → MeetsLine next marks before later p.text []
      → Progress meaning marks before later next start state ticks
  progress_quiet marks before now later intake next start state ticks p met =
      let same : ended_items ((p.text ++ met.front) ++ met.byte ∷ []) ≡ ended_items p.text =
      met.ended ∙ append-nil _ in record {
        text = (p.text ++ met.front) ++ met.byte ∷ [];
        met = met.met;
        gives = gives_items meaning start state _ _ (Ok tt) (sym same) p.gives;
        sum = p.sum ∙ ap (λ items. length (ticks_in items)) (sym same);
        few = p.few;
        room = p.room;
      }

  -- If a line is met and handed over, the consumer was given it and all lines before it.
  pub progress_line : (marks : ℕ) (before now later : Option (List ℕ)) (intake next : Intake)
      (start mid new : C) (ticks sum : ℕ) (line : List Item)
      (p : Progress meaning marks before now intake start mid ticks)
      → MeetsLine next marks before later p.text line
      → HandsOver meaning mid new ticks line sum
      → Progress meaning marks before later next start new sum
  progress_line marks before now later intake next start mid new ticks sum line p met handed =
      record {
        text = (p.text ++ met.front) ++ met.byte ∷ [];
        met = met.met;
        gives = gives_items meaning start new _ _ (Ok tt) (sym met.ended)
            (gives_then meaning joins start mid new _ _ (Ok tt) p.gives handed.gives);
        sum = omega (
          arith,
          handed.sum_is,
          p.sum,
          ticks_with (ended_items p.text) line,
          ap (λ items. length (ticks_in items)) met.ended,
        );
        few = handed.few;
        room = omega (arith, p.room, handed.gives.counted, handed.sum_is);
      }

  -- If a step returns an end, the drive ends with it.
  pub step_ends : (marks : ℕ) (before now later : Option (List ℕ)) (intake next : Intake)
      (start state : C) (ticks : ℕ) (end : End)
      (p : Progress meaning marks before now intake start state ticks)
      → StepAnswer next marks before later p.text (Err end)
      → Drives meaning marks 0 before later start state end
  step_ends marks before now later intake next start state ticks (Refused bad) p h = record {
    items = ended_items p.text;
    takes = record {
      text = p.text ++ h.front;
      refused = inl h.refused;
      few = omega (arith, p.sum, p.few);
      are = sym h.quiet;
    };
    gives = p.gives;
  }
  step_ends marks before now later intake next start state ticks (TooLong Bytes count) p h =
      record {
        items = ended_items p.text;
        takes = record {
          text = p.text;
          byte = h.byte;
          came = h.came;
          begins = p.met.begins;
          full = h.full;
          few = omega (arith, p.sum, p.few);
          are = refl;
          sum = h.sum;
        };
        gives = p.gives;
      }
  step_ends marks before now later intake next start state ticks ReadFault p h = record {
    items = ended_items p.text;
    takes = record {
      text = p.text;
      met = h;
      begins = p.met.begins;
      few = omega (arith, p.sum, p.few);
      are = refl;
    };
    gives = p.gives;
  }
  step_ends marks before now later intake next start state ticks (TooLong Ticks count) p h =
      absurd h
  step_ends marks before now later intake next start state ticks Whole p h = absurd h
  step_ends marks before now later intake next start state ticks (Stopped stop) p h = absurd h

  -- If a text isn't right at its end, the drive ends there, and no read fault is the cause.
  pub finish_ends : (marks : ℕ) (before now later : Option (List ℕ)) (intake next : Intake)
      (start state : C) (ticks : ℕ) (end : End)
      (p : Progress meaning marks before now intake start state ticks)
      → MeetsEnd next marks before later p.text → FinishAnswer marks p.text (Err end)
      → Drives meaning marks 0 before later start state end × (is_read_fault end ≡ false)
  finish_ends marks before now later intake next start state ticks (Refused bad) p met h = (
    record {
      items = ended_items p.text;
      takes = record {
        text = p.text;
        refused = inr (record {
          met = met.met;
          begins = met.begins;
          refused = h.0;
          line = h.1;
          why = h.2;
        });
        few = omega (arith, p.sum, p.few);
        are = refl;
      };
      gives = p.gives;
    },
    refl,
  )
  finish_ends marks before now later intake next start state ticks (TooLong what count) p met h =
      absurd h
  finish_ends marks before now later intake next start state ticks ReadFault p met h = absurd h
  finish_ends marks before now later intake next start state ticks Whole p met h = absurd h
  finish_ends marks before now later intake next start state ticks (Stopped stop) p met h = absurd h

  -- If a line is held back, or the consumer stops at one of its ticks, the drive ends there, and no
  -- read fault is the cause.
  pub line_ends : (marks : ℕ) (before now later : Option (List ℕ)) (intake next : Intake)
      (start mid new : C) (ticks : ℕ) (line : List Item) (halt : Halt)
      (p : Progress meaning marks before now intake start mid ticks)
      → MeetsLine next marks before later p.text line
      → HandAnswer meaning mid new ticks line (Err halt)
      → Drives meaning marks 0 before later start new (halted_end halt)
      × (is_read_fault (halted_end halt) ≡ false)
  line_ends marks before now later intake next start mid new ticks line
      (TooMany count) p met h =
      let some : line ≢ [] = λ none. let nothing : length (ticks_in line) ≡ 0 =
      ap (λ items. length (ticks_in items)) none in
      omega (arith, nothing, h.sum, h.above, p.few) in (
        record {
          items = ended_items p.text;
          takes = record {
            text = p.text ++ met.front;
            line = line;
            ended = inl (ends_line next marks before later p.text line met some);
            few = omega (arith, p.sum, p.few);
            are = sym (met.quiet some);
            sum = omega (arith, h.sum, p.sum, ticks_with (ended_items p.text) line);
            above = h.above;
          };
          gives = subst (λ state. Gives meaning start state (ended_items p.text) (Ok tt))
              (sym h.same) p.gives;
        },
        refl,
      )
  line_ends marks before now later intake next start mid new ticks line (ByConsumer stop) p met h =
      let some : line ≢ [] = λ none. let nothing : length line ≡ 0 = ap length none in
      omega (arith, nothing, h.gives.stopped.within) in
      let quiet = met.quiet some in (
        record {
          items = ended_items p.text ++ line;
          takes = inl (record {
            text = p.text ++ met.front;
            line = line;
            ended = subst (λ items. EndsInputLine marks before (p.text ++ met.front) items line)
                (sym quiet) (ends_line next marks before later p.text line met some);
            few = omega (arith, h.few, p.sum, ticks_with (ended_items p.text) line);
            are = ap (λ items. items ++ line) (sym quiet);
          });
          gives = gives_then meaning joins start mid new (ended_items p.text) line (Err stop)
              p.gives h.gives;
        },
        refl,
      )

  -- If the last line is handed over, the drive ends with `Whole`.
  pub last_ends : (marks : ℕ) (before now later : Option (List ℕ)) (intake next : Intake)
      (start mid new : C) (ticks sum : ℕ) (line : List Item)
      (p : Progress meaning marks before now intake start mid ticks)
      → MeetsEnd next marks before later p.text
      → IsTickText marks p.text (ended_items p.text ++ line)
      → HandsOver meaning mid new ticks line sum
      → Drives meaning marks 0 before later start new Whole
  last_ends marks before now later intake next start mid new ticks sum line p met right h = record {
    items = ended_items p.text ++ line;
    takes = record {
      text = p.text;
      told = ended_items p.text ++ line;
      met = met.met;
      right = right;
      few = omega (arith, h.few, h.sum_is, p.sum, ticks_with (ended_items p.text) line);
      are = sym (append-nil _);
    };
    gives = gives_then meaning joins start mid new (ended_items p.text) line (Ok tt) p.gives
        h.gives;
  }

  -- If the last line is held back, or the consumer stops at one of its ticks, the drive ends there,
  -- and no read fault is the cause.
  pub last_line_ends : (marks : ℕ) (before now later : Option (List ℕ)) (intake next : Intake)
      (start mid new : C) (ticks : ℕ) (line : List Item) (halt : Halt)
      (p : Progress meaning marks before now intake start mid ticks)
      → MeetsEnd next marks before later p.text
      → IsTickText marks p.text (ended_items p.text ++ line)
      → HandAnswer meaning mid new ticks line (Err halt)
      → Drives meaning marks 0 before later start new (halted_end halt)
      × (is_read_fault (halted_end halt) ≡ false)
  last_line_ends marks before now later intake next start mid new ticks line (TooMany count) p
      met right h = (
        record {
          items = ended_items p.text;
          takes = record {
            text = p.text;
            line = line;
            ended = inr (record { met = met.met; ended = right });
            few = omega (arith, p.sum, p.few);
            are = refl;
            sum = omega (arith, h.sum, p.sum, ticks_with (ended_items p.text) line);
            above = h.above;
          };
          gives = subst (λ state. Gives meaning start state (ended_items p.text) (Ok tt))
              (sym h.same) p.gives;
        },
        refl,
      )
  last_line_ends marks before now later intake next start mid new ticks line (ByConsumer stop) p met
      right h = (
        record {
          items = ended_items p.text ++ line;
          takes = inr (record {
            text = p.text;
            told = ended_items p.text ++ line;
            met = met.met;
            right = right;
            few = omega (arith, h.few, p.sum, ticks_with (ended_items p.text) line);
            are = sym (append-nil _);
          });
          gives =
              gives_then meaning joins start mid new (ended_items p.text) line (Err stop) p.gives
              h.gives;
        },
        refl,
      )

  -- If the consumer takes the rest after a whole input, the drive with this rest ends with `Whole`.
  pub rest_taken : (marks rest : ℕ) (before now : Option (List ℕ)) (old mid new : C)
      → Drives meaning marks 0 before now old mid Whole
      → Gives meaning mid new (silent_items rest) (Ok tt)
      → Drives meaning marks rest before now old new Whole
  rest_taken marks rest before now old mid new whole more = record {
    items = whole.items ++ silent_items rest;
    takes = rested marks rest before now whole.items whole.takes;
    gives = gives_then meaning joins old mid new whole.items (silent_items rest) (Ok tt) whole.gives
        more;
  }

  -- If the consumer stops in the rest after a whole input, the drive with this rest ends with this
  -- stop.
  pub rest_stops : (marks rest : ℕ) (before now : Option (List ℕ)) (old mid new : C)
      (stop : Stop) → Drives meaning marks 0 before now old mid Whole
      → Gives meaning mid new (silent_items rest) (Err stop)
      → Drives meaning marks rest before now old new (Stopped stop)
  rest_stops marks rest before now old mid new stop whole more = record {
    items = whole.items ++ silent_items rest;
    takes = inr (rested marks rest before now whole.items whole.takes);
    gives = gives_then meaning joins old mid new whole.items (silent_items rest) (Err stop)
        whole.gives more;
  }

  -- If a drive doesn't end with `Whole`, it ends in the same way with a rest after its input.
  pub other_ends : (marks rest : ℕ) (before now : Option (List ℕ)) (old new : C)
      (end : End) → (end ≡ Whole → ⊥)
      → Drives meaning marks 0 before now old new end
      → Drives meaning marks rest before now old new end
  other_ends marks rest before now old new Whole other h = absurd (other refl)
  other_ends marks rest before now old new (Refused bad) other h =
      record { items = h.items; takes = h.takes; gives = h.gives }
  other_ends marks rest before now old new (TooLong Ticks count) other h =
      record { items = h.items; takes = h.takes; gives = h.gives }
  other_ends marks rest before now old new (TooLong Bytes count) other h =
      record { items = h.items; takes = h.takes; gives = h.gives }
  other_ends marks rest before now old new ReadFault other h =
      record { items = h.items; takes = h.takes; gives = h.gives }
  other_ends marks rest before now old new (Stopped stop) other h = elim h.takes [
    | inl line ↦ record { items = h.items; takes = inl line; gives = h.gives }
    | inr whole ↦ record {
      items = h.items ++ silent_items rest;
      takes = inr (rested marks rest before now h.items whole);
      gives = gives_front meaning old new h.items (silent_items rest) stop h.gives;
    }
  ]
