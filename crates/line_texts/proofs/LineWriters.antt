-- What more ticks do to the line of a writer that isn't filled.
use Rattle.line_texts.specs.Writer.{unfilled, WriterHasWritten, WriterTakes}
use Rattle.line_texts.specs.declared.line_writer.LineWriter.{LineWriter}
use Rattle.std.proofs.Common.{◌≡◌, ◌∙◌, ℕ, zero, suc, ◌+◌, ◌<◌, ◌≤◌, List, [], ◌∷◌, ◌++◌, length}
use Rattle.std.proofs.Common.{get_or, map, take, refl, sym, ap, arith}
use Rattle.std.proofs.lemmas.List.{append-nil, append_assoc, map-append, replicate-append-replicate}
use Rattle.{std.proofs.lemmas.List.length-take-le, yasir_ticks.proofs.RightTicks.are_silent}
use Rattle.yasir_ticks.proofs.Writing.{leads-bytes, leads-silence, full_ends-bytes}
use Rattle.yasir_ticks.proofs.Writing.{silent_ends-bytes, full_ends-silence, byte_ends-silence}
use Rattle.yasir_ticks.specs.CanonicalText.{canonical_text, byte_line, silence_line, stretches}
use Rattle.yasir_ticks.specs.Ticks.{AreTicks, silent}
use Rattle.yasir_ticks.specs.declared.tick.Tick.{Tick, TheVariants.Silent, TheVariants.Byte}

-- ---- ticks

are_ticks-append : (a b : List Tick) → AreTicks a → AreTicks b → AreTicks (a ++ b)
are_ticks-append [] b are more = more
are_ticks-append (t ∷ a) b are more = (are.0, are_ticks-append a b are.1 more)

pub are_all : (bytes : List ℕ) → ((i : ℕ) → get_or bytes i 0 < 256) → AreTicks (map Byte bytes)
are_all [] fits = tt
are_all (b ∷ bytes) fits = (fits 0, are_all bytes (λ i. fits (suc i)))

-- ---- the line that isn't filled

pub bytes_are : (writer : LineWriter) → writer.silence ≡ 0
    → unfilled writer ≡ map Byte (take writer.count writer.bytes)
bytes_are writer none =
    ap (λ n. map Byte (take writer.count writer.bytes) ++ silent n) none ∙ append-nil _

pub silence_is : (writer : LineWriter) → writer.count ≡ 0 → unfilled writer ≡ silent writer.silence
silence_is writer none = ap (λ n. map Byte (take n writer.bytes) ++ silent writer.silence) none

-- If the writer holds bytes, it holds no silence.
pub not_silent : (writer : LineWriter) → 0 < writer.count → writer.silence ≡ 0
not_silent writer some = by writer.silence writer.single
  where
    by : (n : ℕ) → (0 < n → writer.count ≡ 0) → n ≡ 0
    by zero single = refl
    by (suc n) single = let none : writer.count ≡ 0 = single (omega arith) in absurd (omega arith)

takes : (old new : LineWriter) (run : List Tick) (text : List ℕ) → AreTicks run
    → ((more : List Tick) → text ++ canonical_text (unfilled new ++ more)
    ≡ canonical_text ((unfilled old ++ run) ++ more))
    → WriterTakes old new run text
takes old new run text are step = λ ticks answered has. record {
  text = λ more.
      append_assoc answered text (canonical_text (unfilled new ++ more))
      ∙ ap (λ l. answered ++ l) (step more
      ∙ ap canonical_text (append_assoc (unfilled old) run more))
      ∙ has.text (run ++ more) ∙ ap canonical_text (sym (append_assoc ticks run more));
  are = are_ticks-append ticks run has.are are;
}

-- more ticks of the same kind, which complete no line
joins : (old new : LineWriter) (run : List Tick) → AreTicks run
    → unfilled new ≡ unfilled old ++ run → WriterTakes old new run []
joins old new run are is = takes old new run [] are (λ more. ap (λ l. canonical_text (l ++ more)) is)

pub bytes_joined : (old new : LineWriter) (x : List ℕ) → AreTicks (map Byte x)
    → old.silence ≡ 0 → new.silence ≡ 0
    → take new.count new.bytes ≡ take old.count old.bytes ++ x → WriterTakes old new (map Byte x) []
bytes_joined old new x are none still is = joins old new (map Byte x) are
    (bytes_are new still ∙ ap (map Byte) is ∙ map-append Byte (take old.count old.bytes) x
    ∙ ap (λ l. l ++ map Byte x) (sym (bytes_are old none)))

pub silence_joined : (old new : LineWriter) (n : ℕ) → old.count ≡ 0 → new.count ≡ 0
    → new.silence ≡ old.silence + n → WriterTakes old new (silent n) []
silence_joined old new n none still is = joins old new (silent n) (are_silent n)
    (silence_is new still ∙ ap silent is ∙ sym (replicate-append-replicate old.silence n Silent)
    ∙ ap (λ l. l ++ silent n) (sym (silence_is old none)))

-- ticks that fill the line, which is then complete
pub bytes_filled : (old new : LineWriter) (line x : List ℕ) → AreTicks (map Byte x)
    → old.silence ≡ 0 → new.count ≡ 0 → new.silence ≡ 0
    → line ≡ take old.count old.bytes ++ x → length line ≡ 32
    → WriterTakes old new (map Byte x) (byte_line line)
bytes_filled old new line x are none no_byte no_silence is long =
    takes old new (map Byte x) (byte_line line) are (λ more.
    ap (λ l. byte_line line ++ canonical_text (l ++ more))
    (silence_is new no_byte ∙ ap silent no_silence)
    ∙ sym (leads-bytes line more (omega arith) (omega arith)
    (full_ends-bytes line (stretches more) long))
    ∙ ap (λ l. canonical_text (l ++ more))
    (ap (map Byte) is ∙ map-append Byte (take old.count old.bytes) x
    ∙ ap (λ l. l ++ map Byte x) (sym (bytes_are old none))))

pub silence_filled : (old new : LineWriter) (n m : ℕ) → old.count ≡ 0 → new.count ≡ 0
    → new.silence ≡ 0 → old.silence + n ≡ m → m ≡ 1000000
    → WriterTakes old new (silent n) (silence_line m)
silence_filled old new n m none no_byte no_silence sum full =
    takes old new (silent n) (silence_line m) (are_silent n) (λ more.
    ap (λ l. silence_line m ++ canonical_text (l ++ more))
    (silence_is new no_byte ∙ ap silent no_silence)
    ∙ sym (leads-silence m more (omega arith) (omega arith)
    (full_ends-silence m (stretches more) full))
    ∙ ap (λ l. canonical_text (l ++ more))
    (ap silent (sym sum) ∙ sym (replicate-append-replicate old.silence n Silent)
    ∙ ap (λ l. l ++ silent n) (sym (silence_is old none))))

-- Ticks of the other kind end the line.
pub bytes_ended : (old new : LineWriter) (n : ℕ) → 0 < old.count → old.count ≤ length old.bytes
    → new.count ≡ 0 → new.silence ≡ n → 0 < n
    → WriterTakes old new (silent n) (byte_line (take old.count old.bytes))
bytes_ended old new zero some long no_byte is begun = absurd (omega arith)
bytes_ended old new (suc n) some long no_byte is begun =
    let line = take old.count old.bytes in
    let size = length-take-le old.count old.bytes long in
    let few = old.few in
    takes old new (silent (suc n)) (byte_line line) (are_silent (suc n)) (λ more.
    ap (λ l. byte_line line ++ canonical_text (l ++ more)) (silence_is new no_byte ∙ ap silent is)
    ∙ sym (leads-bytes line (Silent ∷ (silent n ++ more)) (omega arith) (omega arith)
    (silent_ends-bytes line (stretches (silent n ++ more))))
    ∙ ap canonical_text (sym (append_assoc (map Byte line) (silent (suc n)) more)
    ∙ ap (λ l. (l ++ silent (suc n)) ++ more) (sym (bytes_are old (not_silent old some)))))

pub silence_ended : (old new : LineWriter) (x : List ℕ) → AreTicks (map Byte x)
    → 0 < old.silence → new.silence ≡ 0 → take new.count new.bytes ≡ x → 0 < length x
    → WriterTakes old new (map Byte x) (silence_line old.silence)
silence_ended old new [] are some none is begun = absurd (omega arith)
silence_ended old new (b ∷ x) are some none is begun =
    let n = old.silence in
    let few = old.short in
    takes old new (map Byte (b ∷ x)) (silence_line n) are (λ more.
    ap (λ l. silence_line n ++ canonical_text (l ++ more))
    (bytes_are new none ∙ ap (map Byte) is)
    ∙ sym (leads-silence n (Byte b ∷ (map Byte x ++ more)) some (omega arith)
    (byte_ends-silence n b (stretches (map Byte x ++ more))))
    ∙ ap canonical_text (sym (append_assoc (silent n) (map Byte (b ∷ x)) more)
    ∙ ap (λ l. (l ++ map Byte (b ∷ x)) ++ more) (sym (silence_is old (old.single some)))))

-- ---- the end

pub ended : (writer : LineWriter) (line : List ℕ) → canonical_text (unfilled writer ++ []) ≡ line
    → (ticks : List Tick) (answered : List ℕ) → WriterHasWritten writer ticks answered
    → answered ++ line ≡ canonical_text ticks
ended writer line is ticks answered has = ap (λ l. answered ++ l) (sym is) ∙ has.text []
    ∙ ap canonical_text (append-nil ticks)

pub bytes_last : (writer : LineWriter) → 0 < writer.count → writer.count ≤ length writer.bytes
    → (ticks : List Tick) (answered : List ℕ) → WriterHasWritten writer ticks answered
    → answered ++ byte_line (take writer.count writer.bytes) ≡ canonical_text ticks
bytes_last writer some long =
    let line = take writer.count writer.bytes in
    let size = length-take-le writer.count writer.bytes long in
    let few = writer.few in
    ended writer (byte_line line)
    (ap (λ l. canonical_text (l ++ [])) (bytes_are writer (not_silent writer some))
    ∙ leads-bytes line [] (omega arith) (omega arith) tt ∙ append-nil (byte_line line))

pub silence_last : (writer : LineWriter) → writer.count ≡ 0 → 0 < writer.silence
    → (ticks : List Tick) (answered : List ℕ) → WriterHasWritten writer ticks answered
    → answered ++ silence_line writer.silence ≡ canonical_text ticks
silence_last writer none some =
    let few = writer.short in
    ended writer (silence_line writer.silence)
    (ap (λ l. canonical_text (l ++ [])) (silence_is writer none)
    ∙ leads-silence writer.silence [] some (omega arith) tt
    ∙ append-nil (silence_line writer.silence))

pub nothing_last : (writer : LineWriter) → writer.count ≡ 0 → writer.silence ≡ 0
    → (ticks : List Tick) (answered : List ℕ) → WriterHasWritten writer ticks answered
    → answered ++ [] ≡ canonical_text ticks
nothing_last writer none still = ended writer []
    (ap (λ l. canonical_text (l ++ [])) (silence_is writer none ∙ ap silent still))
