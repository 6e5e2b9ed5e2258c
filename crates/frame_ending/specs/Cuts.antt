-- What a tick is, by the ticks of the line up to and including it.
use Rattle.std.specs.Prelude.{ℕ, suc, ◌-◌, nat_lt, ◌==◌, List, [], ◌∷◌, ◌++◌, length, Option, Some}
use Rattle.std.specs.Prelude.{None, if◌then◌else◌}
use Rattle.line_rules.specs.Rules.{Rules}
use Rattle.yasir_ticks.specs.Bursts.{Burst, end_of}
use Rattle.yasir_ticks.specs.declared.TheConstants.{T3_5_TICKS}
use Rattle.yasir_ticks.specs.declared.tick.Tick.{Tick}
use Rattle.yasir_ticks.specs.declared.tick.Tick.TheVariants.{Silent, Byte}
use Rattle.frame_ending.specs.declared.cut.Cut.{Cut}
use Rattle.frame_ending.specs.declared.cut.Cut.TheVariants.{Start, Live, Extra, Pause, Closed}
use Rattle.frame_ending.specs.declared.cut.Cut.TheVariants.{Quiet}
use Rattle.frame_ending.specs.LiveBytes.{live_end}
use Rattle.frame_ending.specs.SoFar.{last_burst}

-- A byte at tick n is the last byte of the last burst. It is also the first byte of that burst, or
-- its last live byte, or neither.
abbrev pub byte_cut : Rules → ℕ → ℕ → Option Burst → Cut
byte_cut rules n b None = Start b
byte_cut rules n b (Some d) =
    if d.start == n then Start b
    else if live_end rules d == suc n then Live b
    else Extra b

-- what the n-th silent tick in a row after a byte is
abbrev pub silence_cut : ℕ → Cut
silence_cut n =
    if nat_lt n T3_5_TICKS then Pause n
    else if n == T3_5_TICKS then Closed
    else Quiet

-- what a silent tick at tick n after this burst is
abbrev pub silent_cut : ℕ → Option Burst → Cut
silent_cut n None = Quiet
silent_cut n (Some d) = silence_cut (suc n - end_of d)

-- what the tick t after these ticks is
abbrev pub cut_of : Rules → List Tick → Tick → Cut
cut_of rules line (Byte b) = byte_cut rules (length line) b (last_burst (line ++ Byte b ∷ []))
cut_of rules line Silent = silent_cut (length line) (last_burst line)

-- what each of these ticks after this line is
abbrev pub cuts_after : Rules → List Tick → List Tick → List Cut
cuts_after rules line [] = []
cuts_after rules line (t ∷ more) = cut_of rules line t ∷ cuts_after rules (line ++ t ∷ []) more

-- Holds if the tick is neither a live byte nor the one that closes a burst.
abbrev pub IsPassing : Cut → Type 0
IsPassing (Start b) = ⊥
IsPassing (Live b) = ⊥
IsPassing (Extra b) = Unit {0}
IsPassing (Pause n) = Unit {0}
IsPassing Closed = ⊥
IsPassing Quiet = Unit {0}
