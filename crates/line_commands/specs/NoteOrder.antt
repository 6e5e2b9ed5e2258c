-- How far the lines of two lists are merged.
use Rattle.std.specs.Prelude.{◌≡◌, ℕ, ◌+◌, ◌<◌, ◌≤◌, List, [], ◌∷◌, ◌++◌, drop, ⊤}
use Rattle.session_lists.specs.FrameList.{KeptFrames, Holds, list_len}
use Rattle.session_lists.specs.declared.frame_list.FrameList.{FrameList}
use Rattle.line_commands.specs.TimedLines.{lines_before, AreInOrder}
use Rattle.line_commands.specs.declared.note_order.Places.{Places}

-- The list has a first line, and the step of this line is no later than that of the other list's
-- first line, if that list has one.
abbrev pub NoteComesFirst : List (KeptFrames ℕ) → List (KeptFrames ℕ) → Type 0
NoteComesFirst [] other = ⊥
NoteComesFirst (line ∷ lines) [] = ⊤
NoteComesFirst (line ∷ lines) (next ∷ other) = line.head ≤ next.head

-- The list has a first line, and the step of this line is before that of the other list's first
-- line, if that list has one.
abbrev pub ComesBefore : List (KeptFrames ℕ) → List (KeptFrames ℕ) → Type 0
ComesBefore [] other = ⊥
ComesBefore (line ∷ lines) [] = ⊤
ComesBefore (line ∷ lines) (next ∷ other) = line.head < next.head

-- For the steps before tick `n`, the text lacks the lines from these places on, and no others.
pub record MergedTo (n : ℕ) (a b : List (KeptFrames ℕ)) (text : List ℕ) (i j : ℕ) : Type 0 where
  pub is : text ++ lines_before n (drop i a) (drop j b) ≡ lines_before n a b
  pub first_in_order : AreInOrder 0 n (drop i a)
  pub second_in_order : AreInOrder 0 n (drop j b)

module _ (first second : FrameList ℕ) where
  -- The lines before these places are merged into the text, whatever lines the lists hold in order
  -- up to a tick.
  pub record Merges (text : List ℕ) (places : Places) : Type 0 where
    pub first_within : places.first ≤ list_len first
    pub second_within : places.second ≤ list_len second
    pub merged : (a b : List (KeptFrames ℕ)) → Holds first a → Holds second b → (n : ℕ)
        → AreInOrder 0 n a → AreInOrder 0 n b
        → MergedTo n a b text places.first places.second

  -- one more line is merged
  pub record MergesOne (text : List ℕ) (old new : Places) : Type 0 where
    pub merges : Merges text new
    pub one : new.first + new.second ≡ old.first + old.second + 1
