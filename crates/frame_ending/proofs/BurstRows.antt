-- Tables of small worked lines, and what a box makes of each.
use Rattle.std.proofs.Common.{◌≡◌, ℕ, List, map}
use Rattle.yasir_ticks.specs.declared.tick.Tick.{Tick}
use Rattle.frame_ending.specs.Walk.{Noted}

-- a line, the floor with which the box begins, what it notes, and the other line
pub record Row (N : Type 0) : Type 0 where
  pub floor : ℕ
  pub line : List Tick
  pub notes : List (Noted N)
  pub other : List Tick

abbrev pub row : {N : Type 0} → ℕ → List Tick → List (Noted N) → List Tick → Row N
row floor line notes other = record {
  floor = floor;
  line = line;
  notes = notes;
  other = other;
}

abbrev pub noted_at : {N : Type 0} → ℕ → N → Noted N
noted_at tick note = record { tick = tick; note = note }

-- Holds if a definition of notes gives the notes of each row.
abbrev pub AreNotes : {N : Type 0} → (ℕ → List Tick → List (Noted N)) → List (Row N) → Type 0
AreNotes notes_of rows = map (λ r. notes_of r.floor r.line) rows ≡ map (λ r. r.notes) rows

-- Holds if a definition of the other line gives that of each row.
abbrev pub AreOthers : {N : Type 0} → (ℕ → List Tick → List Tick) → List (Row N) → Type 0
AreOthers other_of rows = map (λ r. other_of r.floor r.line) rows ≡ map (λ r. r.other) rows
