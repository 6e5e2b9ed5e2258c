-- The command `vectors`: a line for each table of known answers.
use Rattle.std.specs.Prelude.{ℕ, List, ◌++◌, length, Result, Ok, Err, codes, decimal}
use Rattle.yasir_io.specs.declared.sink.Sink.{Ghosts as Sink}
use Rattle.vectors.specs.Cases.{answer}
use Rattle.vectors.specs.Tables.{crc_cases, hmac_cases, frames_cases, user_cases}
use Rattle.vectors.specs.declared.table.Miss.{Miss}
use Rattle.command_ends.specs.Outside.{Outside}
use Rattle.command_ends.specs.declared.status.Status.{Status}
use Rattle.link_replay.specs.Printing.{Prints}

-- the line of a table: `NAME N ok`, or `NAME miss ROW` with the first row that isn't right
abbrev pub table_line : List ℕ → ℕ → Result (Unit {0}) Miss → List ℕ
table_line name rows (Ok x) = name ++ codes " " ++ decimal rows ++ codes " ok\n"
table_line name rows (Err miss) = name ++ codes " miss " ++ decimal miss.row ++ codes "\n"

-- the lines of all tables, each with the answer that the definitions give
abbrev pub table_lines : List ℕ
table_lines =
    table_line (codes "crc") (length crc_cases) (answer crc_cases)
    ++ table_line (codes "hmac") (length hmac_cases) (answer hmac_cases)
    ++ table_line (codes "frames") (length frames_cases) (answer frames_cases)
    ++ table_line (codes "user") (length user_cases) (answer user_cases)

-- What `vectors` does.
abbrev pub Tabulates : {K S O L D : Type 0} → Sink O → Sink L → Outside K S O L D → Outside K S O L D
    → Status → Type 0
Tabulates o l before after status = Prints o l table_lines before after status
