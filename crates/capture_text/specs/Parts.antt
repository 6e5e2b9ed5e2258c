-- Parts of a line.
use Rattle.std.specs.Prelude.{ℕ, ◌+◌, ◌-◌, ◌==◌, nat_lt, if◌then◌else◌, List, [], length, take, drop}
use Rattle.std.specs.Prelude.{Option, Some, None, slice_index, bytes_eq}
use Rattle.memchr.specs.Find.{first_of, places, is_byte}

-- the first place of a byte in a text
abbrev pub place_of_part : ℕ → List ℕ → Option ℕ
place_of_part byte text = first_of (places (is_byte byte) text)

abbrev pub front_at : List ℕ → Option ℕ → List ℕ
front_at text (Some k) = take k text
front_at text None = text

abbrev pub behind_at : List ℕ → Option ℕ → List ℕ
behind_at text (Some k) = drop (k + 1) text
behind_at text None = []

-- what comes before the first such byte, or the whole text if there is none
abbrev pub front : ℕ → List ℕ → List ℕ
front byte text = front_at text (place_of_part byte text)

-- what comes after the first such byte, or nothing if there is none
abbrev pub behind : ℕ → List ℕ → List ℕ
behind byte text = behind_at text (place_of_part byte text)

-- what comes after a literal at the start of a text, or nothing if the text doesn't start with it
abbrev pub skip : List ℕ → List ℕ → List ℕ
skip literal text =
    if nat_lt (length text) (length literal) then []
    else if bytes_eq (take (length literal) text) literal then drop (length literal) text
    else []

-- a text without the quotes around it, if it has both
abbrev pub unquoted : List ℕ → List ℕ
unquoted text =
    if nat_lt (length text) 2 then text
    else if slice_index text 0 == 34
    then (if slice_index text (length text - 1) == 34 then take (length text - 1 - 1) (drop 1 text) else text)
    else text
