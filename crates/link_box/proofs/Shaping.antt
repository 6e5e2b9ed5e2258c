-- How ticks keep the shape of a pause and a trailer as they come.
use Rattle.frame_ending.specs.LiveBytes.{before_pause, has_pause}
use Rattle.link_box.specs.Shapes.{kept}
use Rattle.std.proofs.Common.{◌≡◌, ℕ, zero, suc, ◌+◌, ◌<◌, ◌≤◌, Bool, true, false, List, [], ◌∷◌}
use Rattle.std.proofs.Common.{◌++◌, length, replicate, refl, arith}
use Rattle.yasir_ticks.specs.Ticks.{silent}
use Rattle.yasir_ticks.specs.declared.tick.Tick.{Tick, TheVariants.Silent, TheVariants.Byte}

-- the shape of j silent ticks and n bytes
abbrev pub shape : ℕ → ℕ → List Bool
shape j n = replicate j false ++ replicate n true

-- Silence keeps the shape through the pause.
pub pause-goes_on : (j n : ℕ) (x : List Tick) → length x ≤ j → length x ≤ kept (shape j n) x
    → j ≤ kept (shape j n) x
unfolding kept
pause-goes_on zero n x few keeps = omega arith
pause-goes_on (suc j) n [] few keeps =
    let rest = pause-goes_on j n [] (omega arith) (omega arith) in omega arith
pause-goes_on (suc j) n (Silent ∷ x) few keeps =
    let rest = pause-goes_on j n x (omega arith) (omega arith) in omega arith
pause-goes_on (suc j) n (Byte b ∷ x) few keeps = absurd (omega arith)

-- Apart from the silent ticks of the pause, no more ticks keep the shape than have come.
bytes-most : (n : ℕ) (x : List Tick) → kept (replicate n true) x ≤ length x
unfolding kept
bytes-most zero x = omega arith
bytes-most (suc n) [] = omega arith
bytes-most (suc n) (Silent ∷ x) = omega arith
bytes-most (suc n) (Byte b ∷ x) = let rest = bytes-most n x in omega arith

pub kept-most : (j n : ℕ) (x : List Tick) (k : ℕ) → j ≤ k → length x ≤ k
    → kept (shape j n) x ≤ k
unfolding kept
kept-most zero n x k few long = let most = bytes-most n x in omega arith
kept-most (suc j) n x zero few long = absurd (omega arith)
kept-most (suc j) n [] (suc k) few long =
    let rest = kept-most j n [] k (omega arith) (omega arith) in omega arith
kept-most (suc j) n (Silent ∷ x) (suc k) few long =
    let rest = kept-most j n x k (omega arith) (omega arith) in omega arith
kept-most (suc j) n (Byte b ∷ x) (suc k) few long = omega arith

-- A byte after the pause keeps the shape.
bytes-keep : (n : ℕ) (x : List Tick) (g b : ℕ) → length x + g ≤ kept (replicate n true) x
    → length x + g < n
    → length x + g + 1 ≤ kept (replicate n true) (x ++ (silent g ++ Byte b ∷ []))
unfolding kept
bytes-keep zero x g b keeps few = absurd (omega arith)
bytes-keep (suc n) [] zero b keeps few = omega arith
bytes-keep (suc n) [] (suc g) b keeps few = absurd (omega arith)
bytes-keep (suc n) (Silent ∷ x) g b keeps few = absurd (omega arith)
bytes-keep (suc n) (Byte c ∷ x) g b keeps few =
    let rest = bytes-keep n x g b (omega arith) (omega arith) in omega arith

pub byte-keeps : (j n : ℕ) (x : List Tick) (g b : ℕ) → length x + g ≤ kept (shape j n) x
    → j ≤ length x + g → length x + g < j + n
    → length x + g + 1 ≤ kept (shape j n) (x ++ (silent g ++ Byte b ∷ []))
unfolding kept
byte-keeps zero n x g b keeps behind few = bytes-keep n x g b keeps (omega arith)
byte-keeps (suc j) n [] zero b keeps behind few = absurd (omega arith)
byte-keeps (suc j) n [] (suc g) b keeps behind few =
    let keep : length {A = Tick} [] + g ≤ kept (shape j n) [] = omega arith in
    let far : j ≤ length {A = Tick} [] + g = omega arith in
    let near : length {A = Tick} [] + g < j + n = omega arith in
    let rest = byte-keeps j n [] g b keep far near in omega arith
byte-keeps (suc j) n (Silent ∷ x) g b keeps behind few =
    let rest = byte-keeps j n x g b (omega arith) (omega arith) (omega arith) in omega arith
byte-keeps (suc j) n (Byte c ∷ x) g b keeps behind few = absurd (omega arith)

-- A byte in the pause breaks the shape.
pub byte-breaks : (j n : ℕ) (x : List Tick) (g b : ℕ) → length x + g ≤ kept (shape j n) x
    → length x + g < j → kept (shape j n) (x ++ (silent g ++ Byte b ∷ [])) ≡ length x + g
unfolding kept
byte-breaks zero n x g b keeps few = absurd (omega arith)
byte-breaks (suc j) n [] zero b keeps few = refl
byte-breaks (suc j) n [] (suc g) b keeps few =
    let keep : length {A = Tick} [] + g ≤ kept (shape j n) [] = omega arith in
    let near : length {A = Tick} [] + g < j = omega arith in
    let rest = byte-breaks j n [] g b keep near in omega arith
byte-breaks (suc j) n (Silent ∷ x) g b keeps few =
    let rest = byte-breaks j n x g b (omega arith) (omega arith) in omega arith
byte-breaks (suc j) n (Byte c ∷ x) g b keeps few = absurd (omega arith)

-- ticks with a pause are at least two more than those before the pause
pub pause-longer : (x : List Tick) → has_pause x ≡ true → length (before_pause x) + 2 ≤ length x
unfolding has_pause before_pause
pause-longer [] is = absurd cc
pause-longer (Byte b ∷ x) is = let rest = pause-longer x is in omega arith
pause-longer (Silent ∷ []) is = absurd cc
pause-longer (Silent ∷ Silent ∷ x) is = omega arith
pause-longer (Silent ∷ Byte b ∷ x) is = let rest = pause-longer x is in omega arith
