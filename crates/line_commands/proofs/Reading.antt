-- What a reader of lines has read, as more bytes come.
use Rattle.line_commands.proofs.BehindReads.{items_in, whole_then, line_behind, capped_then}
use Rattle.line_commands.proofs.BehindReads.{ended_behind}
use Rattle.line_commands.proofs.BehindReads.{refused_behind, fault_behind, text_behind}
use Rattle.line_commands.proofs.BehindReads.{text_front}
use Rattle.line_commands.proofs.BehindReads.{end_behind, begins_behind}
use Rattle.line_commands.specs.Counted.{capped}
use Rattle.line_commands.specs.Lines.{AreWholeLines, HasRead, ReadsLine, RefusesByte, RefusesText, lent_lines}
use Rattle.line_commands.specs.{Lines.EndsNoLine, declared.lines.LineReader.LineReader}
use Rattle.std.proofs.Common.{◌≡◌, ◌≢◌, ◌∙◌, ℕ, ◌+◌, ◌-◌, ◌<◌, ◌≤◌, List, [], ◌∷◌, ◌++◌, length}
use Rattle.std.proofs.Common.{take, get_or, true, false, refl, ap, sym, subst, arith, append-nil}
use Rattle.std.proofs.{Common.append_assoc, Common.length-append, lemmas.List.length-take-le}
use Rattle.tick_drive.proofs.Known.{text_last}
use Rattle.yasir_ticks.proofs.{Completions.begins_at, Lines.lines_of-lf}
use Rattle.yasir_ticks.{proofs.Lines.lines_of-more, specs.Reader.StandsFor}
use Rattle.yasir_ticks.specs.{Reader.items_of_content, Slices.TakesUpTo, Slices.StopsAt}
use Rattle.yasir_ticks.specs.TickText.{Lines, lines_of, ended_items, line_after, IsTickText}
use Rattle.yasir_ticks.specs.{TickText.BeginsTickText, TickText.fault_at_end, Ticks.Item, Ticks.marks_in, Ticks.items_of_run}
use Rattle.yasir_ticks.specs.declared.fault.BadTicks.{BadTicks}
use Rattle.yasir_ticks.specs.declared.place.Content.{Content, TheVariants.NoTick}
use Rattle.yasir_ticks.specs.declared.place.Content.TheVariants.{KeptBytes, SilentTicks, OneMark}
use Rattle.yasir_ticks.specs.declared.{reader.TickReader.TickReader, run.Run.Run}

nothing_whole : AreWholeLines []
unfolding lines_of
nothing_whole = record { closed = refl; right = refl; unmarked = refl }

nothing_last : (lines_of []).last ≡ []
unfolding lines_of
nothing_last = refl

no_items : ended_items [] ≡ []
unfolding lines_of
no_items = refl

one_line : line_after [] ≡ 1
unfolding lines_of
one_line = refl

pub read_none : (new : LineReader) → StandsFor new.reader 0 [] → new.since ≡ 0 → new.line ≡ 1
    → HasRead new []
read_none new stands fed first = record {
  whole = [];
  part = [];
  is = refl;
  front = nothing_whole;
  stands = stands;
  fed = fed;
  counted = first ∙ sym (ap capped one_line);
  ends = λ _. nothing_last;
  quiet = λ _. no_items;
}

pub renewed : (old new : LineReader) (text : List ℕ) → HasRead old text → old.ended ≡ true
    → StandsFor new.reader 0 [] → new.since ≡ 0
    → new.line ≡ capped (old.line + (old.reader.line - 1)) → HasRead new text
renewed old new text has ended stands fed line =
    let marks : marks_in (ended_items has.part) ≡ 0 = omega (arith, has.stands.at.marked) in
    record {
      whole = has.whole ++ has.part;
      part = [];
      is = has.is ∙ sym (append-nil (has.whole ++ has.part));
      front = whole_then has.whole has.part has.front (has.ends ended) has.stands.at.ended marks;
      stands = stands;
      fed = fed;
      counted = line ∙ (ap (λ n. capped (n + (old.reader.line - 1))) has.counted
          ∙ (capped_then (line_after has.whole) (old.reader.line - 1)
          ∙ (ap (λ n. capped (line_after has.whole + (n - 1))) has.stands.at.counted
          ∙ ap capped (sym (line_behind has.whole has.part has.front.closed)))));
      ends = λ _. nothing_last;
      quiet = λ _. no_items;
    }

module _ (old : LineReader) (text bytes : List ℕ) (has : HasRead old text) (taken : ℕ) where
  abbrev own : List ℕ
  own = has.part ++ take taken bytes

  whole_is : text ++ take taken bytes ≡ has.whole ++ own
  whole_is = ap (λ l. l ++ take taken bytes) has.is
      ∙ append_assoc has.whole has.part (take taken bytes)

  ended_is : ended_items (text ++ take taken bytes) ≡ ended_items has.whole ++ ended_items own
  ended_is = ap ended_items whole_is ∙ ended_behind has.whole own has.front.closed

  before_is : ended_items text ≡ ended_items has.whole ++ ended_items has.part
  before_is = ap ended_items has.is ∙ ended_behind has.whole has.part has.front.closed

  line_is : line_after (text ++ take taken bytes)
      ≡ line_after has.whole + (line_after own - 1)
  line_is = ap line_after whole_is ∙ line_behind has.whole own has.front.closed

  closed_by : taken ≤ length bytes → 0 < taken → get_or bytes (taken - 1) 0 ≡ 10
      → (lines_of own).last ≡ []
  closed_by within some feed =
      let last : own ≡ (has.part ++ take (taken - 1) bytes) ++ 10 ∷ [] =
      sym (text_last has.part bytes taken within some)
      ∙ ap (λ b. (has.part ++ take (taken - 1) bytes) ++ b ∷ []) feed in
      ap (λ l. (lines_of l).last) last
      ∙ ap (λ (l : Lines). l.last) (lines_of-lf (has.part ++ take (taken - 1) bytes))

  -- A byte other than LF ends no line.
  unended_by : taken ≤ length bytes → 0 < taken → get_or bytes (taken - 1) 0 ≢ 10
      → ended_items (has.part ++ take (taken - 1) bytes) ≡ ended_items has.part
      → ended_items own ≡ ended_items has.part
  unended_by within some no_feed before =
      ap ended_items (sym (text_last has.part bytes taken within some))
      ∙ (ap (λ (l : Lines). items_in l) (lines_of-more (has.part ++ take (taken - 1) bytes)
      (get_or bytes (taken - 1) 0) no_feed) ∙ before)

  quiet_by : (new : TickReader) (content : Content)
      → TakesUpTo old.reader bytes taken content new
      → get_or bytes (taken - 1) 0 ≢ 10 → ended_items own ≡ ended_items has.part
  quiet_by new NoTick takes no_feed =
      takes.items 0 has.part has.stands ∙ append-nil (ended_items has.part)
  quiet_by new content takes no_feed =
      let last = takes.last 0 has.part has.stands (λ e. cc) in
      unended_by takes.within last.0 no_feed last.1

  pub fed_line : (new : LineReader) (content : Content) → 0 < length bytes
      → TakesUpTo old.reader bytes taken content new.reader → new.since ≡ old.since + taken
      → new.line ≡ old.line → old.ended ≡ false
      → (new.ended ≡ true → get_or bytes (taken - 1) 0 ≡ 10)
      → (new.ended ≡ false → get_or bytes (taken - 1) 0 ≢ 10)
      → ReadsLine new text bytes taken (items_of_content content (lent_lines new))
  fed_line new content any takes fed line begun ended unended = record {
    some = takes.progress any;
    within = takes.within;
    has_read = record {
      whole = has.whole;
      part = own;
      is = whole_is;
      front = has.front;
      stands = takes.stands 0 has.part has.stands;
      fed = omega (
        arith,
        fed,
        has.fed,
        length-append has.part (take taken bytes),
        length-take-le taken bytes takes.within,
      );
      counted = line ∙ has.counted;
      ends = λ e. closed_by takes.within (takes.progress any) (ended e);
      quiet = λ e. quiet_by new.reader content takes (unended e) ∙ has.quiet begun;
    };
    ended = ended_is ∙ (ap (λ l. ended_items has.whole ++ l) (takes.items 0 has.part has.stands)
        ∙ (sym (append_assoc (ended_items has.whole) (ended_items has.part)
        (items_of_content content (lent_lines new)))
        ∙ ap (λ l. l ++ items_of_content content (lent_lines new)) (sym before_is)));
  }

  pub fed_refused : (new : TickReader) (bad told : BadTicks)
      → StopsAt old.reader bytes taken bad new
      → told.line ≡ capped (old.line + (bad.line - 1)) → told.why ≡ bad.why
      → RefusesByte text bytes told
  fed_refused new bad told stops line why =
      let refused = stops.refused 0 has.part has.stands in
      let byte : ℕ = get_or bytes taken 0 in
      record {
        taken = taken;
        within = stops.within;
        refused = rw whole_is (refused_behind has.whole own byte has.front refused.0);
        quiet = ended_is ∙ (ap (λ l. ended_items has.whole ++ l) refused.3 ∙ sym before_is);
        line = line ∙ (ap (λ n. capped (n + (bad.line - 1))) has.counted
            ∙ (capped_then (line_after has.whole) (bad.line - 1)
            ∙ (ap (λ n. capped (line_after has.whole + (n - 1))) refused.1
            ∙ ap capped (sym line_is))));
        why = why ∙ (refused.2 ∙ (sym (fault_behind has.whole own byte has.front.closed)
            ∙ rw whole_is refl));
      }

-- A right text begins with what was read.
pub read_begins : (lines : LineReader) (text : List ℕ) → HasRead lines text → BeginsTickText 0 text
read_begins lines text has = subst (BeginsTickText 0) (sym has.is)
    (begins_behind has.whole has.part has.front (begins_at has.stands.at))

-- If the last line hasn't ended, what the reader was fed since its start ends no line.
pub fed_unended : (lines : LineReader) (text : List ℕ) (count : ℕ) → HasRead lines text
    → lines.ended ≡ false → count ≡ lines.since → EndsNoLine text count
fed_unended lines text count has begun counted = record {
  whole = has.whole;
  part = has.part;
  is = has.is;
  counted = counted ∙ has.fed;
  none = ap ended_items has.is ∙ (ended_behind has.whole has.part has.front.closed
      ∙ (ap (λ l. ended_items has.whole ++ l) (has.quiet begun)
      ∙ append-nil (ended_items has.whole)));
}

-- If the part of a text that the reader was fed is right with the run of its last line, so is the
-- whole text.
pub finished : (old : LineReader) (text : List ℕ) (run : Run) → HasRead old text
    → ((marks : ℕ) (part : List ℕ) → StandsFor old.reader marks part
    → IsTickText marks part (ended_items part ++ items_of_run run))
    → IsTickText 0 text (ended_items text ++ items_of_run run)
finished old text run has right =
    let items : List Item = items_of_run run in
    let own = right 0 has.part has.stands in
    let before : ended_items text ≡ ended_items has.whole ++ ended_items has.part =
    ap ended_items has.is ∙ ended_behind has.whole has.part has.front.closed in
    let all : (ended_items has.whole ++ (ended_items has.part ++ items))
    ≡ ended_items text ++ items =
    sym (append_assoc (ended_items has.whole) (ended_items has.part) items)
    ∙ ap (λ l. l ++ items) (sym before) in
    subst (IsTickText 0 text) all
    (subst (λ t. IsTickText 0 t (ended_items has.whole ++ (ended_items has.part ++ items)))
    (sym has.is) (text_behind has.whole has.part (ended_items has.part ++ items) has.front own))

pub finished_refused : (old : LineReader) (text : List ℕ) (bad told : BadTicks) → HasRead old text
    → ((marks : ℕ) (part : List ℕ) → StandsFor old.reader marks part
    → (¬ ((items : List Item) × IsTickText marks part items))
    × (bad.line ≡ line_after part) × (bad.why ≡ fault_at_end part))
    → told.line ≡ capped (old.line + (bad.line - 1)) → told.why ≡ bad.why → RefusesText text told
finished_refused old text bad told has refused line why =
    let own = refused 0 has.part has.stands in
    record {
      begins = read_begins old text has;
      refused = λ right. own.0 (text_front has.whole has.part right.0 has.front
          (subst (λ t. IsTickText 0 t right.0) has.is right.1));
      line = line ∙ (ap (λ n. capped (n + (bad.line - 1))) has.counted
          ∙ (capped_then (line_after has.whole) (bad.line - 1)
          ∙ (ap (λ n. capped (line_after has.whole + (n - 1))) own.1
          ∙ (ap capped (sym (line_behind has.whole has.part has.front.closed))
          ∙ ap (λ t. capped (line_after t)) (sym has.is)))));
      why = why ∙ (own.2 ∙ (sym (end_behind has.whole has.part has.front.closed)
          ∙ ap fault_at_end (sym has.is)));
    }
