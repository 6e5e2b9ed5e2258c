-- What `take` makes of a capture that `give` wrote.
use Rattle.std.specs.Prelude.{◌≡◌, ℕ, min, List, [], ◌∷◌, Option, Some, None}
use Rattle.std.specs.Io.KnownBytes.{append_known}
use Rattle.yasir_ticks.specs.declared.tick.Tick.{Tick}
use Rattle.line_stamps.specs.Giving.{ByteAt, bytes_from}
use Rattle.line_stamps.specs.declared.rate.Rate.{Rate}
use Rattle.line_stamps.specs.declared.timing.Spacing.TheVariants.{ByTime}
use Rattle.line_capture.specs.Takes.{CaptureHeld, lines_text}
use Rattle.line_capture.specs.declared.take.Taking.{Taking}
use Rattle.line_capture.specs.declared.words.GiveForm.{GiveForm}
use Rattle.line_capture.specs.declared.words.GiveForm.TheVariants as give_forms
use Rattle.line_capture.specs.declared.words.TakeForm.{TakeForm}
use Rattle.line_capture.specs.declared.words.TakeForm.TheVariants as take_forms
use Rattle.line_capture.specs.declared.words.Ways.TheVariants.{Both}

-- the form in which `take` reads what `give` wrote, if it reads that form
abbrev pub taken_as : GiveForm → Option TakeForm
taken_as give_forms.Pcap = Some take_forms.Pcap
taken_as give_forms.Text = Some take_forms.Text
taken_as give_forms.Vcd = None

-- how both ways of a capture are taken by their times
abbrev pub both_ways : Rate → Taking
both_ways rate = record { rate = rate; ways = Both; spacing = ByTime }

-- the tick of the first byte of either line, or 0 if there is none
abbrev pub first_taken : List ByteAt → List ByteAt → ℕ
first_taken [] [] = 0
first_taken (x ∷ xs) [] = x.tick
first_taken [] (y ∷ ys) = y.tick
first_taken (x ∷ xs) (y ∷ ys) = min x.tick y.tick

-- the tick of the first byte of either of two lines, or 0 if there is none
abbrev pub first_tick_again : List Tick → List Tick → ℕ
first_tick_again a b = first_taken (bytes_from 0 a) (bytes_from 0 b)

-- Holds if tick 0 of the line that was taken is this tick of the one that was given, and each byte
-- is in the same tick of both.
abbrev pub SameTicks : ℕ → List Tick → List Tick → Type 0
SameTicks first given taken = bytes_from first taken ≡ bytes_from 0 given

-- Holds if the output got two lines with the same ticks as these, counted from the first byte of
-- either.
pub record TakesAgain (a b : List Tick) (before now : CaptureHeld) : Type 0 where
  pub taken_a : List Tick
  pub taken_b : List Tick
  pub out : now.out ≡ append_known before.out (lines_text Both taken_a taken_b)
  pub a_same : SameTicks (first_tick_again a b) a taken_a
  pub b_same : SameTicks (first_tick_again a b) b taken_b
