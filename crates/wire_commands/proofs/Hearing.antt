-- What a port surely hears, as more of it and of the port's own ticks gets known.
use Rattle.std.proofs.Common.{◌≡◌, ◌∙◌, ℕ, zero, suc, ◌<◌, ◌≤◌, List, [], ◌∷◌, ◌++◌, length, take, drop}
use Rattle.std.proofs.Common.{◌+◌, map, get_or, refl, sym, ap, subst, arith}
use Rattle.std.proofs.Math.Seq.{drop-nil}
use Rattle.std.proofs.lemmas.List.{length-replicate, length-map, map-append, replicate_more}
use Rattle.two_wire.specs.Wires.{heard, hears}
use Rattle.wire_commands.proofs.Filling.{filled-at, filled-long}
use Rattle.line_commands.specs.Recording.{filled_recording}
use Rattle.wire_commands.specs.Hearing.{SurelyHearsTick, SurelyHears}
use Rattle.yasir_ticks.specs.{Ticks.silent, declared.tick.Tick.Tick}
use Rattle.yasir_ticks.specs.declared.tick.Tick.TheVariants.{Silent, Byte}

pub sure-more : (known wires run : List Tick) (t : Tick) → SurelyHears known wires run
    → length run < length wires
    → SurelyHearsTick (drop (length run) known) (get_or wires (length run) Silent) t
    → SurelyHears known wires (run ++ t ∷ [])
sure-more known [] run t sure inside last = absurd (omega arith)
sure-more [] (w ∷ ws) [] t sure inside last = (last, tt)
sure-more (k ∷ ks) (w ∷ ws) [] t sure inside last = (last, tt)
sure-more [] (w ∷ ws) (r ∷ rs) t sure inside last = (
  sure.0,
  sure-more [] ws rs t sure.1 (omega arith)
      (subst (λ l. SurelyHearsTick l (get_or ws (length rs) Silent) t) (sym (drop-nil (length rs)))
      last),
)
sure-more (k ∷ ks) (w ∷ ws) (r ∷ rs) t sure inside last =
    (sure.0, sure-more ks ws rs t sure.1 (omega arith) last)

-- the first tick of a recording
pub sure-first : (own : Tick) (known line : List Tick) (left : ℕ) (t : Tick) → 0 < left
    → t ≡ heard own (get_or line 0 Silent)
    → SurelyHears (own ∷ known) (filled_recording left line) (t ∷ [])
sure-first own known line left t some is =
    let long = filled-long left line in
    sure-more (own ∷ known) (filled_recording left line) [] t tt (omega arith)
    (is ∙ ap (heard own) (sym (filled-at left line 0)))

silence-is-sure : (own wire t : Tick) → wire ≡ Silent → t ≡ Silent → t ≡ heard own wire
silence-is-sure Silent wire t silent is = is ∙ sym silent
silence-is-sure (Byte b) wire t silent is = is

-- ---- one tick

-- A port that drives the wires with a byte hears nothing.
bytes-hear : (bytes : List ℕ) (place : ℕ) (wire : Tick) → place < length bytes
    → SurelyHearsTick (drop place (map Byte bytes)) wire Silent
bytes-hear [] place wire inside = absurd (omega arith)
bytes-hear (b ∷ bytes) zero wire inside = refl
bytes-hear (b ∷ bytes) (suc place) wire inside = bytes-hear bytes place wire (omega arith)

pub hears-behind-bytes : (own : Tick) (bytes : List ℕ) (place : ℕ) (wire : Tick) → 0 < place
    → place ≤ length bytes → SurelyHearsTick (drop place (own ∷ map Byte bytes)) wire Silent
hears-behind-bytes own bytes zero wire some inside = absurd (omega arith)
hears-behind-bytes own bytes (suc place) wire some inside = bytes-hear bytes place wire (omega arith)

-- A port that is silent hears what is on the wires.
silence-hears : (n place : ℕ) (wire : Tick) → place < n
    → SurelyHearsTick (drop place (silent n)) wire wire
silence-hears zero place wire inside = absurd (omega arith)
silence-hears (suc n) zero wire inside = refl
silence-hears (suc n) (suc place) wire inside = silence-hears n place wire (omega arith)

pub hears-behind-silence : (own : Tick) (n place : ℕ) (wire : Tick) → 0 < place → place ≤ n
    → SurelyHearsTick (drop place (own ∷ silent n)) wire wire
hears-behind-silence own n zero wire some inside = absurd (omega arith)
hears-behind-silence own n (suc place) wire some inside = silence-hears n place wire (omega arith)

-- Whatever a port drives silent wires with, it hears nothing.
pub hears-silence : (known : List Tick) (wire : Tick) → wire ≡ Silent
    → SurelyHearsTick known wire Silent
hears-silence [] wire silence = (silence, refl)
hears-silence (own ∷ known) wire silence = silence-is-sure own wire Silent silence refl

-- ---- one more tick of a recording

pub silence-more : (known line : List Tick) (left count : ℕ) → count < left
    → SurelyHears known (filled_recording left line) (silent count)
    → SurelyHearsTick (drop count known) (get_or line count Silent) Silent
    → SurelyHears known (filled_recording left line) (silent (count + 1))
silence-more known line left count inside sure last =
    let filled : List Tick = filled_recording left line in
    let size = length-replicate count Silent in
    let long = filled-long left line in
    subst (SurelyHears known filled) (replicate_more count Silent)
    (sure-more known filled (silent count) Silent sure (omega (arith, size))
    (subst (λ n. SurelyHearsTick (drop n known) (get_or filled n Silent) Silent) (sym size)
    (subst (λ t. SurelyHearsTick (drop count known) t Silent) (sym (filled-at left line count)) last)))

pub byte-more : (known line : List Tick) (left count : ℕ) (bytes : List ℕ) (byte : ℕ) → count < left
    → length bytes ≡ count → SurelyHears known (filled_recording left line) (map Byte bytes)
    → SurelyHearsTick (drop count known) (get_or line count Silent) (Byte byte)
    → SurelyHears known (filled_recording left line) (map Byte (bytes ++ byte ∷ []))
byte-more known line left count bytes byte inside counted sure last =
    let filled : List Tick = filled_recording left line in
    let size : length (map Byte bytes) ≡ count = length-map bytes Byte ∙ counted in
    let long = filled-long left line in
    subst (SurelyHears known filled) (sym (map-append Byte bytes (byte ∷ [])))
    (sure-more known filled (map Byte bytes) (Byte byte) sure (omega (arith, size))
    (subst (λ n. SurelyHearsTick (drop n known) (get_or filled n Silent) (Byte byte)) (sym size)
    (subst (λ t. SurelyHearsTick (drop count known) t (Byte byte)) (sym (filled-at left line count))
    last)))

-- ---- more gets known, and ticks go by

-- What is sure stays so when more of the port's own ticks get known.
pub sure-grow : (known more wires run : List Tick) → SurelyHears known wires run
    → SurelyHears (known ++ more) wires run
sure-grow known more wires [] sure = tt
sure-grow known more [] (r ∷ rs) sure = sure
sure-grow [] [] (w ∷ ws) (r ∷ rs) sure = sure
sure-grow [] (m ∷ ms) (w ∷ ws) (r ∷ rs) sure =
    (silence-is-sure m w r sure.0.0 sure.0.1, sure-grow [] ms ws rs sure.1)
sure-grow (k ∷ ks) more (w ∷ ws) (r ∷ rs) sure = (sure.0, sure-grow ks more ws rs sure.1)

-- what is sure of the ticks behind the first ones
pub sure-drop : (n : ℕ) (known wires run : List Tick) → SurelyHears known wires run
    → SurelyHears (drop n known) (drop n wires) (drop n run)
sure-drop zero known wires run sure = sure
sure-drop (suc n) known wires [] sure = tt
sure-drop (suc n) known [] (r ∷ rs) sure = absurd sure
sure-drop (suc n) [] (w ∷ ws) (r ∷ rs) sure =
    subst (λ l. SurelyHears l (drop n ws) (drop n rs)) (drop-nil n) (sure-drop n [] ws rs sure.1)
sure-drop (suc n) (k ∷ ks) (w ∷ ws) (r ∷ rs) sure = sure-drop n ks ws rs sure.1

pub sure-within : (known wires run : List Tick) → SurelyHears known wires run
    → length run ≤ length wires
sure-within known wires [] sure = omega arith
sure-within known [] (r ∷ rs) sure = absurd sure
sure-within [] (w ∷ ws) (r ∷ rs) sure =
    let rest = sure-within [] ws rs sure.1 in omega arith
sure-within (k ∷ ks) (w ∷ ws) (r ∷ rs) sure =
    let rest = sure-within ks ws rs sure.1 in omega arith

-- Nothing is sure of a recording that has ended.
pub sure-none : (known run : List Tick) → SurelyHears known [] run → run ≡ []
sure-none known [] sure = refl
sure-none known (r ∷ rs) sure = absurd sure

-- What is sure is heard, as far as the port's own ticks are known.
pub sure-heard : (n : ℕ) (known wires run : List Tick) → SurelyHears known wires run
    → n ≤ length known → n ≤ length run → hears (take n known) (take n wires) ≡ take n run
sure-heard zero known wires run sure inside within = refl
sure-heard (suc n) [] wires run sure inside within = absurd (omega arith)
sure-heard (suc n) (k ∷ ks) wires [] sure inside within = absurd (omega arith)
sure-heard (suc n) (k ∷ ks) [] (r ∷ rs) sure inside within = absurd sure
sure-heard (suc n) (k ∷ ks) (w ∷ ws) (r ∷ rs) sure inside within =
    ap (λ t. t ∷ hears (take n ks) (take n ws)) (sym sure.0)
    ∙ ap (λ l. r ∷ l) (sure-heard n ks ws rs sure.1 (omega arith) (omega arith))

pub sure-take : (n : ℕ) (known wires run : List Tick) → SurelyHears known wires run
    → SurelyHears known wires (take n run)
sure-take zero known wires run sure = tt
sure-take (suc n) known wires [] sure = tt
sure-take (suc n) known [] (r ∷ rs) sure = absurd sure
sure-take (suc n) [] (w ∷ ws) (r ∷ rs) sure = (sure.0, sure-take n [] ws rs sure.1)
sure-take (suc n) (k ∷ ks) (w ∷ ws) (r ∷ rs) sure = (sure.0, sure-take n ks ws rs sure.1)
