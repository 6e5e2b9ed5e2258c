-- Times tell the silent ticks of a line.
use Rattle.line_stamps.specs.Clock.{AllNext, KeepsEdges, silence, silent_ticks}
use Rattle.{line_stamps.specs.Places.PlacedByte, stamp_laws.proofs.CutLines.Told}
use Rattle.stamp_laws.specs.TimedFrames.{are_parted, are_apart}
use Rattle.std.proofs.Common.{◌≡◌, ◌∙◌, ℕ, ◌*◌, ◌<◌, ◌≤◌, ⊎_elim, sym, List, [], ◌∷◌, nat_lt}
use Rattle.std.proofs.Common.{nat_le, arith, le-leb}
use Rattle.std.proofs.lemmas.Bool.{cases_lt, lt-ltb, le-ltb, lt-leb}

module _ (one : ℕ) where
  parted-is : (x y : PlacedByte) → KeepsEdges one x y
      → are_parted one x y ≡ nat_le 4 (silent_ticks x y)
  parted-is x y keeps =
      ⊎_elim
      (λ (few : silent_ticks x y < 4).
      ⊎_elim
      (λ (short : 2 * silence one x y < 7 * one). lt-leb (7 * one) (2 * silence one x y) short
      ∙ sym (lt-leb 4 (silent_ticks x y) few))
      (λ (long : 7 * one ≤ 2 * silence one x y). absurd (let no = keeps.end.1 long in omega arith))
      (cases_lt (2 * silence one x y) (7 * one)))
      (λ (many : 4 ≤ silent_ticks x y).
      le-leb (7 * one) (2 * silence one x y) (keeps.end.0 many)
      ∙ sym (le-leb 4 (silent_ticks x y) many))
      (cases_lt (silent_ticks x y) 4)

  apart-is : (x y : PlacedByte) → KeepsEdges one x y
      → nat_lt 1 (silent_ticks x y) ≡ are_apart one x y
  apart-is x y keeps =
      ⊎_elim
      (λ (more : 1 < silent_ticks x y).
      ⊎_elim
      (λ (long : 3 * one < 2 * silence one x y). lt-ltb 1 (silent_ticks x y) more
      ∙ sym (lt-ltb (3 * one) (2 * silence one x y) long))
      (λ (short : 2 * silence one x y ≤ 3 * one).
      absurd (let no = keeps.inside.1 short in omega arith))
      (cases_lt (3 * one) (2 * silence one x y)))
      (λ (few : silent_ticks x y ≤ 1).
      le-ltb 1 (silent_ticks x y) few
      ∙ sym (le-ltb (3 * one) (2 * silence one x y) (keeps.inside.0 few)))
      (cases_lt 1 (silent_ticks x y))

  pub told : (xs : List PlacedByte) → AllNext (KeepsEdges one) xs
      → Told (are_parted one) (are_apart one) xs
  told [] keeps = tt
  told (x ∷ []) keeps = tt
  told (x ∷ y ∷ more) keeps = (
    record {
      later = keeps.0.later;
      ends = parted-is x y keeps.0;
      breaks = λ joins. apart-is x y keeps.0;
    },
    told (y ∷ more) keeps.1,
  )
