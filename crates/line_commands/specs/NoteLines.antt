-- What the lines of all notes have in common.
use Rattle.std.specs.Prelude.{ℕ, List, ◌++◌, codes, decimal}

-- `WORD N at S len L`: a word with the space after it, a number, the start of its frame and the
-- frame's length
abbrev pub numbered_line : List ℕ → ℕ → ℕ → ℕ → List ℕ
numbered_line word number start len =
    word ++ decimal number ++ codes " at " ++ decimal start ++ codes " len " ++ decimal len
    ++ codes "\n"

-- `WORD at S WHY`: a word with ` at `, the start of a burst, and the reason with the space before
-- it and the LF
abbrev pub placed_line : List ℕ → ℕ → List ℕ → List ℕ
placed_line word start why = word ++ decimal start ++ why
