-- How runs and notes are added to what waits.
use Rattle.line_texts.specs.Adding.{TextAdds, Waits, IsShort, IsShortFront}
use Rattle.line_texts.specs.Sending.{LineAndNotes, AnswersNoted, Waiting}
use Rattle.line_texts.specs.{Texts.waiting_in, Writer.WriterHasWritten, Writer.WriterTakes, Writer.TakesInto}
use Rattle.line_texts.specs.declared.line_room.LineRoom.{LineRoom}
use Rattle.line_texts.specs.declared.{line_writer.LineWriter.LineWriter, texts.Texts.Texts}
use Rattle.std.proofs.Common.{◌≡◌, ◌∙◌, ℕ, zero, suc, ◌+◌, ◌*◌, ◌<◌, ◌≤◌, inl, Bool, true, false}
use Rattle.std.proofs.Common.{List, [], ◌++◌, refl, sym, ap, subst, append_assoc, append-nil}
use Rattle.std.proofs.Common.{arith, take, drop, map, length, inr, ◌∷◌, length-append, length-drop}
use Rattle.std.proofs.lemmas.Bool.{cases_lt}
use Rattle.std.proofs.lemmas.List.{take-append-drop, map-append, length-map, length-replicate}
use Rattle.std.proofs.lemmas.List.{length-take, length-take-le, take-replicate, take-map, take_all}
use Rattle.frame_ending.specs.Answered.{answered}
use Rattle.yasir_ticks.specs.Ticks.{silent}
use Rattle.yasir_ticks.specs.declared.tick.Tick.{Tick, TheVariants.Silent, TheVariants.Byte}

-- ---- runs

-- nothing is added
pub adds_nothing : (waits : Waiting) → TextAdds waits waits [] []
adds_nothing waits = record {
  line = [];
  taken = λ ticks answered has.
      subst (λ l. WriterHasWritten waits.writer l (answered ++ [])) (sym (append-nil ticks))
      (subst (WriterHasWritten waits.writer ticks) (sym (append-nil answered)) has);
  ticks = sym (append-nil waits.ticks);
  notes = sym (append-nil waits.notes);
}

-- a run that completes no line
pub adds_joined : (old : Waiting) (writer : LineWriter) (run : List Tick)
    → WriterTakes old.writer writer run [] → TextAdds old (record old { writer = writer }) run []
adds_joined old writer run goes = record {
  line = [];
  taken = goes;
  ticks = sym (append-nil old.ticks);
  notes = sym (append-nil old.notes);
}

-- a run that completes a line
pub adds_line : (old : Waiting) (joined writer : LineWriter) (items : List ℕ) (run : List Tick)
    → joined ≡ old.writer → TakesInto joined writer run old.ticks items
    → TextAdds old (record old { writer = writer; ticks = items }) run []
adds_line old joined writer items run same into = record {
  line = into.line;
  taken = subst (λ w. WriterTakes w writer run into.line) same into.taken;
  ticks = into.added;
  notes = sym (append-nil old.notes);
}

-- one run with its note after another
pub adds_both : (a b c : Waiting) (run more : List Tick) (note next : List ℕ) → TextAdds a b run note
    → TextAdds b c more next → TextAdds a c (run ++ more) (note ++ next)
adds_both a b c run more note next first second = record {
  line = first.line ++ second.line;
  taken = λ ticks answered has.
      subst (λ l. WriterHasWritten c.writer l (answered ++ (first.line ++ second.line)))
      (append_assoc ticks run more)
      (subst (WriterHasWritten c.writer ((ticks ++ run) ++ more))
      (append_assoc answered first.line second.line)
      (second.taken (ticks ++ run) (answered ++ first.line) (first.taken ticks answered has)));
  ticks = second.ticks ∙ ap (λ l. l ++ second.line) first.ticks
      ∙ append_assoc a.ticks first.line second.line;
  notes = second.notes ∙ ap (λ l. l ++ next) first.notes ∙ append_assoc a.notes note next;
}

-- one run after another
pub adds_then : (a b c : Waiting) (run more : List Tick) → TextAdds a b run [] → TextAdds b c more []
    → TextAdds a c (run ++ more) []
adds_then a b c run more first second = adds_both a b c run more [] [] first second

-- what is answered for one run after another
pub answers_both : (made : LineAndNotes) (line run more answer next : List Tick)
    (note then : List ℕ) → AnswersNoted made line run answer note
    → AnswersNoted made (line ++ run) more next then
    → AnswersNoted made line (run ++ more) (answer ++ next) (note ++ then)
answers_both made line run more answer next note then first second =
    let same : line ++ (run ++ more) ≡ (line ++ run) ++ more = sym (append_assoc line run more) in
    record {
      ticks_are = ap made.other_line same
          ∙ (second.ticks_are ∙ (ap (λ l. l ++ next) first.ticks_are
          ∙ append_assoc (made.other_line line) answer next));
      note_is = ap made.note_lines same
          ∙ (second.note_is ∙ (ap (λ l. l ++ then) first.note_is
          ∙ append_assoc (made.note_lines line) note then));
    }

-- what is added waits too
pub waits_added : (old new : Waiting) (ticks run : List Tick) (notes note : List ℕ)
    → Waits old ticks notes → TextAdds old new run note → Waits new (ticks ++ run) (notes ++ note)
waits_added old new ticks run notes note waits adds = record {
  written = subst (WriterHasWritten new.writer (ticks ++ run)) (sym adds.ticks)
      (adds.taken ticks old.ticks waits.written);
  notes_are = adds.notes ∙ ap (λ l. l ++ note) waits.notes_are;
}

pub adds_as : (a b : Waiting) (run all : List Tick) (note : List ℕ) → run ≡ all
    → TextAdds a b run note → TextAdds a b all note
adds_as a b run all note is adds = subst (λ r. TextAdds a b r note) is adds

-- ---- what completes no line

none_left : (silence count m : ℕ)
    → (silence ≡ 0 → count + m < 32 * zero + 32) × (0 < silence → 0 < m → m < 32 * zero)
    → 0 < m → (silence ≡ 0 → 32 ≤ count + m) → ⊥
none_left zero count m few some fills = omega (arith, few.0 refl, fills refl)
none_left (suc n) count m few some fills = omega (arith, few.1 (omega arith) some)

-- silence that completes no line is taken
pub silence_joins : (writer : LineWriter) (m : ℕ) (joined : Bool) → writer.count ≡ 0
    → writer.silence + m < 1000000
    → (joined ≡ false → writer.count ≡ 0 → 1000000 ≤ writer.silence + m) → joined ≡ true
silence_joins writer m true none few fills = refl
silence_joins writer m false none few fills = absurd (omega (arith, few, fills refl none))

-- ---- bytes that complete lines

-- n bytes complete no more than `most` lines: one line if they end silence, and then a line for
-- each 32 bytes.
abbrev FillsUpTo : ℕ → LineWriter → ℕ → Type 0
FillsUpTo most writer n = (writer.silence ≡ 0 → writer.count + n < 32 * most + 32)
    × (0 < writer.silence → 0 < n → n < 32 * most)

-- The first of some bytes were added, and `left` is the rest of them. These complete no more than
-- `most` lines, for which there is room.
pub record AddsFirst (old now : Texts) (bytes left : List ℕ) : Type 0 where
  pub done : List ℕ
  pub all : bytes ≡ done ++ left
  pub adds : TextAdds (waiting_in old) (waiting_in now) (map Byte done) []
  pub most : ℕ
  pub few : FillsUpTo most now.writer (length left)
  pub room : length now.ticks.items + 66 * most ≤ 65536
  pub grows : length now.ticks.items + 66 * most ≤ length old.ticks.items + 660

pub adds_begun : (texts : Texts) (bytes : List ℕ) → length bytes ≤ 300
    → length texts.ticks.items + 660 ≤ 65536 → AddsFirst texts texts bytes bytes
adds_begun texts bytes short room = record {
  done = [];
  all = refl;
  adds = adds_nothing (waiting_in texts);
  most = 10;
  few = (λ none. omega (arith, short, texts.writer.few), λ some more. omega (arith, short));
  room = omega (arith, room);
  grows = omega arith;
}

module _ (old now : Texts) (bytes left : List ℕ) (first : AddsFirst old now bytes left) where
  -- if the rest completes a line, there is room for it
  pub room_for_line : 0 < length left
      → (now.writer.silence ≡ 0 → 32 ≤ now.writer.count + length left)
      → (most : ℕ) × (first.most ≡ suc most)
  room_for_line some fills = by first.most first.few
    where
      by : (most : ℕ) → FillsUpTo most now.writer (length left) → (m : ℕ) × (most ≡ suc m)
      by zero few =
          absurd (none_left now.writer.silence now.writer.count (length left) few some fills)
      by (suc m) few = (m, refl)

  -- some more bytes, which complete a line
  pub adds_on : (joined writer : LineWriter) (ticks : LineRoom) (n : ℕ) → joined ≡ now.writer
      → 0 < length left → (now.writer.silence ≡ 0 → 32 ≤ now.writer.count + length left)
      → n ≤ length left → writer.silence ≡ 0
      → (joined.silence ≡ 0 → writer.count + 32 ≡ joined.count + n)
      → (0 < joined.silence → writer.count ≡ n)
      → TakesInto joined writer (map Byte (take n left)) now.ticks.items ticks.items
      → AddsFirst old (record now { writer = writer; ticks = ticks }) bytes (drop n left)
  adds_on joined writer ticks n same some fills within none count begun into =
      let room = room_for_line some fills in
      let few = subst (λ w. FillsUpTo (suc room.0) w (length left)) (sym same)
      (subst (λ m. FillsUpTo m now.writer (length left)) room.1 first.few) in
      let fits : length now.ticks.items + 66 * suc room.0 ≤ 65536 =
      subst (λ m. length now.ticks.items + 66 * m ≤ 65536) room.1 first.room in
      let grown : length now.ticks.items + 66 * suc room.0 ≤ length old.ticks.items + 660 =
      subst (λ m. length now.ticks.items + 66 * m ≤ length old.ticks.items + 660) room.1
      first.grows in
      record {
        done = first.done ++ take n left;
        all = first.all ∙ ap (λ l. first.done ++ l) (sym (take-append-drop n left))
            ∙ sym (append_assoc first.done (take n left) (drop n left));
        adds = adds_as _ _ _ _ [] (sym (map-append Byte first.done (take n left)))
            (adds_then (waiting_in old) (waiting_in now) _ (map Byte first.done)
            (map Byte (take n left)) first.adds
            (adds_line (waiting_in now) joined writer ticks.items (map Byte (take n left)) same into));
        most = room.0;
        few = fewer joined.silence joined.count writer.silence writer.count (length left)
            (length (drop n left)) n room.0 few some none count begun (omega (
              arith,
              within,
              length-drop n left,
            ));
        room = omega (
          arith,
          fits,
          into.short,
          ap length into.added,
          length-append now.ticks.items into.line,
        );
        grows = omega (
          arith,
          grown,
          into.short,
          ap length into.added,
          length-append now.ticks.items into.line,
        );
      }
    where
      fewer : (silence count silence2 count2 m left n most : ℕ)
          → (silence ≡ 0 → count + m < 32 * suc most + 32) × (0 < silence → 0 < m → m < 32 * suc most)
          → 0 < m → silence2 ≡ 0 → (silence ≡ 0 → count2 + 32 ≡ count + n)
          → (0 < silence → count2 ≡ n) → n + left ≡ m
          → (silence2 ≡ 0 → count2 + left < 32 * most + 32)
          × (0 < silence2 → 0 < left → left < 32 * most)
      fewer zero count silence2 count2 m left n most few some none filled begun sum =
          (λ _. omega (arith, few.0 refl, filled refl, sum), λ any. absurd (omega (arith, any, none)))
      fewer (suc s) count silence2 count2 m left n most few some none filled begun sum = (
        λ _. omega (arith, few.1 (omega arith) some, begun (omega arith), sum),
        λ any. absurd (omega (arith, any, none)),
      )

  -- the rest, which completes no line
  pub adds_last : (writer : LineWriter) → WriterTakes now.writer writer (map Byte left) []
      → TextAdds (waiting_in old) (waiting_in (record now { writer = writer })) (map Byte bytes) []
  adds_last writer goes = adds_as _ _ _ _ []
      (sym (map-append Byte first.done left) ∙ ap (map Byte) (sym first.all))
      (adds_then (waiting_in old) (waiting_in now) _ (map Byte first.done) (map Byte left)
      first.adds (adds_joined (waiting_in now) writer (map Byte left) goes))

-- ---- short runs

pub short_bytes : (bytes : List ℕ) → IsShort (map Byte bytes) → length bytes ≤ 300
short_bytes bytes (inl few) = omega (arith, few, length-map bytes Byte)
short_bytes [] (inr still) = omega arith
short_bytes (b ∷ bytes) (inr still) =
    let none : Byte b ∷ map Byte bytes ≡ Silent ∷ silent (length (map Byte bytes)) = still.1 in cc

-- a front of a short run is short
pub short_take : (n : ℕ) (ticks : List Tick) → IsShort ticks → IsShort (take n ticks)
short_take n ticks (inl few) = inl (omega (arith, few, length-take n ticks))
short_take n ticks (inr still) =
    elim (cases_lt n (length ticks)) [
      | inl within ↦
          let size = length-take-le n ticks (omega (arith, within)) in
          let is : take n ticks ≡ silent n = ap (take n) still.1
          ∙ take-replicate n (length ticks) Silent (omega (arith, within)) in
          inr (omega (arith, size, within, still.0), is ∙ ap silent (sym size))
      | inr all ↦ subst IsShort (sym (take_all n ticks all)) (inr still)
    ]

pub short_bytes_of : (bytes : List ℕ) → length bytes ≤ 300 → IsShort (map Byte bytes)
short_bytes_of bytes few = inl (omega (arith, few, length-map bytes Byte))

pub short_silence_of : (n : ℕ) → n < 1000000 → IsShort (silent n)
short_silence_of n few =
    let size : length (silent n) ≡ n = length-replicate n Silent in
    inr (omega (arith, few, size), ap silent (sym size))

-- what a box returns for a short run is one
pub short_answer : (n : ℕ) (sent : List ℕ) → n < 1000000 → length sent ≤ 300
    → IsShort (answered n sent)
short_answer n [] few fits = short_silence_of n few
short_answer n (b ∷ sent) few fits = short_bytes_of (b ∷ sent) fits

-- a short run has fewer than 1000000 ticks
pub short_below : (ticks : List Tick) → IsShort ticks → length ticks < 1000000
short_below ticks (inl few) = omega (arith, few)
short_below ticks (inr still) = still.0

pub front_of_bytes : (bytes : List ℕ) (n : ℕ) → n ≤ 300 → n ≤ length bytes
    → (0 < length bytes → 0 < n) → IsShortFront (map Byte bytes) (map Byte (take n bytes))
front_of_bytes bytes n few within some =
    let size : length (map Byte (take n bytes)) ≡ n =
    length-map (take n bytes) Byte ∙ length-take-le n bytes within in
    record {
      short = short_bytes_of (take n bytes) (omega (arith, few, length-take-le n bytes within));
      front_is = sym (ap (λ m. take m (map Byte bytes)) size ∙ take-map Byte n bytes);
      some = λ any. omega (arith, size, some (omega (arith, any, length-map bytes Byte)));
    }

pub front_of_silence : (ticks n : ℕ) → n < 1000000 → n ≤ ticks → (0 < ticks → 0 < n)
    → IsShortFront (silent ticks) (silent n)
front_of_silence ticks n few within some =
    let size : length (silent n) ≡ n = length-replicate n Silent in
    record {
      short = short_silence_of n few;
      front_is = sym (ap (λ m. take m (silent ticks)) size ∙ take-replicate n ticks Silent within);
      some = λ any. omega (arith, size, some (omega (arith, any, length-replicate ticks Silent)));
    }
