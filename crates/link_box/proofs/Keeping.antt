-- How many ticks keep a shape when silence and other ticks follow them.
use Rattle.link_format.specs.Profile.{Profile, pause_len, trailer_len, trailer_shape}
use Rattle.link_box.specs.Shapes.{kept}
use Rattle.std.proofs.Common.{◌≡◌, ℕ, zero, suc, ◌+◌, ◌<◌, ◌≤◌, Bool, true, false, List, []}
use Rattle.std.proofs.Common.{◌∷◌, ◌++◌, length, take, drop, replicate, refl, ap, arith}
use Rattle.std.proofs.lemmas.List.{take-append-le, length-replicate}
use Rattle.yasir_ticks.specs.Ticks.{silent}
use Rattle.yasir_ticks.specs.declared.tick.Tick.{Tick, TheVariants.Silent, TheVariants.Byte}

pub kept-le : (shape : List Bool) (x : List Tick) → kept shape x ≤ length shape
unfolding kept
kept-le [] x = omega arith
kept-le (true ∷ shape) [] = omega arith
kept-le (true ∷ shape) (Silent ∷ x) = omega arith
kept-le (true ∷ shape) (Byte b ∷ x) = let rest = kept-le shape x in omega arith
kept-le (false ∷ shape) [] = let rest = kept-le shape [] in omega arith
kept-le (false ∷ shape) (Silent ∷ x) = let rest = kept-le shape x in omega arith
kept-le (false ∷ shape) (Byte b ∷ x) = omega arith

-- If the shape breaks in these ticks or in the silence after them, what follows doesn't change
-- where.
pub kept-broken : (shape : List Bool) (x : List Tick) (n : ℕ) (y : List Tick)
    → kept shape x < length x + n → kept shape (x ++ (silent n ++ y)) ≡ kept shape x
unfolding kept
kept-broken [] x n y broken = refl
kept-broken (true ∷ shape) [] zero y broken = absurd (omega arith)
kept-broken (true ∷ shape) [] (suc n) y broken = refl
kept-broken (true ∷ shape) (Silent ∷ x) n y broken = refl
kept-broken (true ∷ shape) (Byte b ∷ x) n y broken =
    ap suc (kept-broken shape x n y (omega arith))
kept-broken (false ∷ shape) [] zero y broken = absurd (omega arith)
kept-broken (false ∷ shape) [] (suc n) y broken =
    let rest : kept shape [] < length {A = Tick} [] + n = omega arith in
    ap suc (kept-broken shape [] n y rest)
kept-broken (false ∷ shape) (Silent ∷ x) n y broken =
    ap suc (kept-broken shape x n y (omega arith))
kept-broken (false ∷ shape) (Byte b ∷ x) n y broken = refl

-- If the shape is over after these ticks and the silence, what follows doesn't count.
pub kept-over : (shape : List Bool) (x : List Tick) (n : ℕ) (y : List Tick)
    → length shape ≤ length x + n → kept shape (x ++ (silent n ++ y)) ≡ kept shape x
unfolding kept
kept-over [] x n y over = refl
kept-over (true ∷ shape) [] zero y over = absurd (omega arith)
kept-over (true ∷ shape) [] (suc n) y over = refl
kept-over (true ∷ shape) (Silent ∷ x) n y over = refl
kept-over (true ∷ shape) (Byte b ∷ x) n y over = ap suc (kept-over shape x n y (omega arith))
kept-over (false ∷ shape) [] zero y over = absurd (omega arith)
kept-over (false ∷ shape) [] (suc n) y over =
    let rest : length shape ≤ length {A = Tick} [] + n = omega arith in
    ap suc (kept-over shape [] n y rest)
kept-over (false ∷ shape) (Silent ∷ x) n y over = ap suc (kept-over shape x n y (omega arith))
kept-over (false ∷ shape) (Byte b ∷ x) n y over = refl

-- If these ticks and the silence keep the shape, they keep it whatever follows.
pub kept-so_far : (shape : List Bool) (x : List Tick) (n : ℕ) (y : List Tick)
    → length x + n ≤ kept shape x → length x + n ≤ kept shape (x ++ (silent n ++ y))
unfolding kept
kept-so_far [] x n y keeps = keeps
kept-so_far (true ∷ shape) [] n y keeps = omega arith
kept-so_far (true ∷ shape) (Silent ∷ x) n y keeps = absurd (omega arith)
kept-so_far (true ∷ shape) (Byte b ∷ x) n y keeps =
    let rest = kept-so_far shape x n y (omega arith) in omega arith
kept-so_far (false ∷ shape) [] zero y keeps = omega arith
kept-so_far (false ∷ shape) [] (suc n) y keeps =
    let few : length {A = Tick} [] + n ≤ kept shape [] = omega arith in
    let rest = kept-so_far shape [] n y few in
    omega arith
kept-so_far (false ∷ shape) (Silent ∷ x) n y keeps =
    let rest = kept-so_far shape x n y (omega arith) in omega arith
kept-so_far (false ∷ shape) (Byte b ∷ x) n y keeps = absurd (omega arith)

-- ---- the shape of a pause and a trailer

-- silence keeps the shape of a pause and a trailer through the pause, and no longer
kept-no_byte : (n : ℕ) → kept (replicate n true) [] ≡ 0
unfolding kept
kept-no_byte zero = refl
kept-no_byte (suc n) = refl

pub kept-silence : (profile : Profile) → kept (trailer_shape profile) [] ≡ pause_len
unfolding kept
kept-silence profile = ap (λ k. suc (suc (suc k))) (kept-no_byte (trailer_len profile))

pub length-shape : (profile : Profile)
    → length (trailer_shape profile) ≡ pause_len + trailer_len profile
length-shape profile =
    let bytes = length-replicate (trailer_len profile) true in
    omega arith

kept-bytes : (n : ℕ) (x : List Tick) → kept (replicate n true) x ≤ length x
unfolding kept
kept-bytes zero x = omega arith
kept-bytes (suc n) [] = omega arith
kept-bytes (suc n) (Silent ∷ x) = omega arith
kept-bytes (suc n) (Byte b ∷ x) = let rest = kept-bytes n x in omega arith

-- no more ticks keep the shape than have come, apart from the silent ones of the pause
pub kept-within : (j n : ℕ) (x : List Tick)
    → kept (replicate j false ++ replicate n true) x ≤ length x + j
unfolding kept
kept-within zero n x = let few = kept-bytes n x in omega arith
kept-within (suc j) n [] = let rest = kept-within j n [] in omega arith
kept-within (suc j) n (Silent ∷ x) = let rest = kept-within j n x in omega arith
kept-within (suc j) n (Byte b ∷ x) = omega arith

-- The ticks of a whole trailer stay the same, whatever follows them.
pub whole-stays : (n : ℕ) (x y : List Tick)
    → kept (replicate pause_len false ++ replicate n true) x ≡ pause_len + n
    → take n (drop pause_len (x ++ y)) ≡ take n (drop pause_len x)
unfolding kept
whole-stays zero x y whole = refl
whole-stays (suc n) [] y whole = absurd (omega arith)
whole-stays (suc n) (Byte b ∷ x) y whole = absurd (omega arith)
whole-stays (suc n) (Silent ∷ []) y whole = absurd (omega arith)
whole-stays (suc n) (Silent ∷ Byte b ∷ x) y whole = absurd (omega arith)
whole-stays (suc n) (Silent ∷ Silent ∷ []) y whole = absurd (omega arith)
whole-stays (suc n) (Silent ∷ Silent ∷ Byte b ∷ x) y whole = absurd (omega arith)
whole-stays (suc n) (Silent ∷ Silent ∷ Silent ∷ x) y whole =
    let few = kept-bytes (suc n) x in
    take-append-le (suc n) x y (omega arith)
