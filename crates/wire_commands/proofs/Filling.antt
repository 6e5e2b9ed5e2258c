-- A recording that is filled with silence, tick by tick.
use Rattle.line_commands.specs.Recording.{filled_recording}
use Rattle.std.proofs.Common.{◌≡◌, ◌∙◌, ℕ, zero, suc, ◌+◌, ◌-◌, ◌<◌, ◌≤◌, List, [], ◌∷◌, ◌++◌, length, take}
use Rattle.std.proofs.Common.{drop, get_or, refl, ap, arith, length-append, add-one}
use Rattle.std.proofs.Math.Seq.{take-suc}
use Rattle.std.proofs.lemmas.List.{length-replicate, take_all, drop-replicate}
use Rattle.yasir_ticks.specs.{Ticks.silent, declared.tick.Tick.Tick}
use Rattle.yasir_ticks.specs.declared.tick.Tick.TheVariants.{Silent}

pub filled-long : (left : ℕ) (line : List Tick) → left ≤ length (filled_recording left line)
filled-long left line = omega (
  arith,
  length-append line (silent (left - length line)),
  length-replicate (left - length line) Silent,
)

pub filled-size : (left : ℕ) (line : List Tick) → length line ≤ left
    → length (filled_recording left line) ≡ left
filled-size left line within = omega (
  arith,
  within,
  length-append line (silent (left - length line)),
  length-replicate (left - length line) Silent,
)

silence-at : (n place : ℕ) → get_or (silent n) place Silent ≡ Silent
silence-at zero place = refl
silence-at (suc n) zero = refl
silence-at (suc n) (suc place) = silence-at n place

behind-silence : (n : ℕ) (line : List Tick) (place : ℕ)
    → get_or (line ++ silent n) place Silent ≡ get_or line place Silent
behind-silence n [] place = silence-at n place
behind-silence n (t ∷ line) zero = refl
behind-silence n (t ∷ line) (suc place) = behind-silence n line place

pub filled-at : (left : ℕ) (line : List Tick) (place : ℕ)
    → get_or (filled_recording left line) place Silent ≡ get_or line place Silent
filled-at left line place = behind-silence (left - length line) line place

-- one more tick of a recording
pub filled-next : (left : ℕ) (line : List Tick) (place : ℕ) → place < left
    → take (place + 1) (filled_recording left line)
    ≡ take place (filled_recording left line) ++ get_or line place Silent ∷ []
filled-next left line place inside =
    let filled : List Tick = filled_recording left line in
    let long = filled-long left line in
    ap (λ n. take n filled) (add-one place)
    ∙ (take-suc filled place Silent (omega arith)
    ∙ ap (λ t. take place filled ++ t ∷ []) (filled-at left line place))

-- the ticks behind a place
pub filled-behind : (n left : ℕ) (line : List Tick)
    → drop n (filled_recording left line) ≡ filled_recording (left - n) (drop n line)
filled-behind zero left line =
    let same : left ≡ left - 0 = omega arith in
    ap (λ m. filled_recording m line) same
filled-behind (suc n) left [] =
    let same : (left - 0) - suc n ≡ (left - suc n) - 0 = omega arith in
    drop-replicate (suc n) (left - 0) Silent ∙ ap silent same
filled-behind (suc n) left (t ∷ line) =
    let first : left - suc (length line) ≡ (left - 1) - length line = omega arith in
    let next : (left - 1) - n ≡ left - suc n = omega arith in
    ap (λ m. drop n (line ++ silent m)) first
    ∙ (filled-behind n (left - 1) line ∙ ap (λ m. filled_recording m (drop n line)) next)

pub whole-filled : (line : List Tick) (steps : ℕ) → length line ≤ steps
    → take steps (filled_recording steps line) ≡ filled_recording steps line
whole-filled line steps within =
    let size = filled-size steps line within in
    take_all steps (filled_recording steps line) (omega arith)
