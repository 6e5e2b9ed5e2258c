-- A value change dump of the wires of a line, in nanoseconds (IEEE 1364, four-state VCD).
use Rattle.std.specs.Prelude.{ℕ, ◌+◌, ◌*◌, max, if◌then◌else◌, List, [], ◌∷◌, ◌++◌, length, codes}
use Rattle.std.specs.List.{flat_map}
use Rattle.std.specs.Fmt.{decimal}
use Rattle.yasir_ticks.specs.declared.tick.Tick.{Tick}
use Rattle.line_stamps.specs.declared.capture.Way.{Way}
use Rattle.line_stamps.specs.declared.capture.Way.TheVariants.{A, B}
use Rattle.line_stamps.specs.declared.rate.Rate.{Rate}
use Rattle.capture_text.specs.Changes.{bit_start, dump_changes}
use Rattle.capture_text.specs.declared.changes.Change.{Change}
use Rattle.capture_text.specs.declared.text.Wires.{Wires}
use Rattle.capture_text.specs.declared.text.Wires.TheVariants.{One, Two}

-- the sign with which a dump names a wire: `!` or `"`
abbrev pub wire_sign : Way → ℕ
wire_sign A = 33
wire_sign B = 34

-- the line of a time: `#`, its digits and an LF
abbrev pub time_line : ℕ → List ℕ
time_line time = 35 ∷ decimal time ++ 10 ∷ []

-- the text of a change: the line of its time, and a line of its level and its wire
abbrev pub change_text : Change → List ℕ
change_text change =
    time_line change.time ++ (if change.high then 49 else 48) ∷ wire_sign change.way ∷ 10 ∷ []

-- the head of a dump, and the levels of its wires at the start
abbrev pub dump_front : Wires → List ℕ
dump_front One = codes "$timescale 1 ns $end\n$scope module line $end\n$var wire 1 ! a $end\n$upscope $end\n$enddefinitions $end\n#0\n1!\n"
dump_front Two = codes "$timescale 1 ns $end\n$scope module line $end\n$var wire 1 ! a $end\n$var wire 1 \" b $end\n$upscope $end\n$enddefinitions $end\n#0\n1!\n1\"\n"

-- the end of a dump of this many ticks: both wires are quiet for one more character
abbrev pub dump_end : Rate → ℕ → List ℕ
dump_end rate ticks = time_line (bit_start rate ((ticks + 2) * rate.bits))

-- the wires of a dump whose way B is this line: both if the line has ticks, otherwise only that of
-- way A
abbrev pub wires_for : List Tick → Wires
wires_for [] = One
wires_for (tick ∷ line) = Two

-- The dump of two lines, at a rate. If there is only one line, the other one is empty.
abbrev pub dump_text : Rate → Wires → List Tick → List Tick → List ℕ
dump_text rate wires a b =
    dump_front wires ++ flat_map change_text (dump_changes rate a b)
    ++ dump_end rate (max (length a) (length b))
