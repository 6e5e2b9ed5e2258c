-- Bursts that are counted by the fates that their notes tell.
use Rattle.std.specs.Prelude.{◌≡◌, ℕ, Bool, true, false, List, length}
use Rattle.std.specs.List.{filter}
use Rattle.yasir_ticks.specs.declared.tick.Tick.{Tick}
use Rattle.frame_ending.specs.Walk.{Noted}
use Rattle.link_box.specs.Walking.{Walking, full_notes, other_line}
use Rattle.trial_session.specs.Boxes.{trial_setup}
use Rattle.trial_session.specs.Counting.{Counting}
use Rattle.trial_session.specs.declared.fate.Fate.{Fate}
use Rattle.trial_session.specs.declared.fate.Fate.TheVariants.{Through, Refused, Dropped}

-- whether a burst with this fate got through: sealed by the transmitter, or passed by the receiver
abbrev pub is_through : Fate → Bool
is_through Through = true
is_through Refused = false
is_through Dropped = false

-- whether a burst with this fate was refused
abbrev pub is_refused : Fate → Bool
is_refused Through = false
is_refused Refused = true
is_refused Dropped = false

-- whether a burst with this fate was dropped
abbrev pub is_dropped : Fate → Bool
is_dropped Through = false
is_dropped Refused = false
is_dropped Dropped = true

-- of how many of these notes `p` holds
abbrev pub tally : {N : Type 0} → (N → Bool) → List (Noted N) → ℕ
tally p notes = length (filter (λ n. p n.note) notes)

-- Holds if a line has the other line of the walk, and for each fate as many bursts as there are
-- notes of it.
pub record CountsFates {A : Type 0} (walking : Walking A) (fate_of : A → Fate) (counting : Counting)
    : Type 0 where
  pub other_is : (line : List Tick)
      → counting.other_line line ≡ other_line walking trial_setup line
  pub through_is : (line : List Tick) → counting.through line
      ≡ tally (λ n. is_through (fate_of (walking.brief n))) (full_notes walking trial_setup line)
  pub refused_is : (line : List Tick) → counting.refused line
      ≡ tally (λ n. is_refused (fate_of (walking.brief n))) (full_notes walking trial_setup line)
  pub dropped_is : (line : List Tick) → counting.dropped line
      ≡ tally (λ n. is_dropped (fate_of (walking.brief n))) (full_notes walking trial_setup line)
