-- Walks that need no tick before its time, and what one more tick then adds.
use Rattle.std.specs.Prelude.{◌≡◌, ℕ, ◌+◌, ◌-◌, ◌<◌, ◌≤◌, List, [], ◌∷◌, ◌++◌, length}
use Rattle.yasir_ticks.specs.Ticks.{silent}
use Rattle.yasir_ticks.specs.Bursts.{Burst, bursts, end_of}
use Rattle.yasir_ticks.specs.BurstsOf.{IsContiguous}
use Rattle.yasir_ticks.specs.declared.TheConstants.{T3_5_TICKS}
use Rattle.yasir_ticks.specs.declared.tick.Tick.{Tick}
use Rattle.yasir_ticks.specs.declared.tick.Tick.TheVariants.{Silent, Byte}
use Rattle.frame_ending.specs.Laid.{tick_at}
use Rattle.frame_ending.specs.Walk.{Walker, walked, emitted_by, notes_of, line_of, notes_at}

-- a burst that goes on with a byte at tick m
abbrev pub going_on : Burst → ℕ → ℕ → Burst
going_on d m b = record {
  start = d.start;
  body = d.body ++ (silent (m - end_of d) ++ (Byte b ∷ []));
}

-- Holds if a burst is formed as bursts are, and tick m comes after its last byte, before the
-- silence that would end it.
pub record MayGoOn (d : Burst) (m : ℕ) : Type 0 where
  pub contiguous : IsContiguous T3_5_TICKS d.body
  pub after : end_of d ≤ m
  pub near : m < end_of d + T3_5_TICKS

-- Holds if a walk is causal. What a burst gives before tick m doesn't change if the burst goes on
-- at tick m. A burst gives nothing before its first tick, and its note comes before another burst
-- may start. Once a burst is noted, the state after it and its emission are settled.
pub record IsCausal {S N : Type 0} (w : Walker S N) : Type 0 where
  pub not_before : (s : S) (d : Burst) → IsContiguous T3_5_TICKS d.body → d.start ≤ w.tick s d
  pub in_time : (s : S) (d : Burst) → IsContiguous T3_5_TICKS d.body
      → w.tick s d < end_of d + T3_5_TICKS
  pub tick_stays : (s : S) (d : Burst) (m b : ℕ) → MayGoOn d m → w.tick s d < m
      → w.tick s (going_on d m b) ≡ w.tick s d
  pub note_stays : (s : S) (d : Burst) (m b : ℕ) → MayGoOn d m → w.tick s d < m
      → w.note s (going_on d m b) ≡ w.note s d
  pub next_stays : (s : S) (d : Burst) (m b : ℕ) → MayGoOn d m → w.tick s d < m
      → w.next s (going_on d m b) ≡ w.next s d
  pub emission_settles : (s : S) (d : Burst) (m b : ℕ) → MayGoOn d m → w.tick s d < m
      → w.emission s (going_on d m b) ≡ w.emission s d
  pub waits : (s : S) (d : Burst) (m b : ℕ) → MayGoOn d m → m ≤ w.tick s d
      → m ≤ w.tick s (going_on d m b)
  pub dark_before : (s : S) (d : Burst) (i : ℕ) → IsContiguous T3_5_TICKS d.body → i < d.start
      → tick_at (w.emission s d) i ≡ Silent
  pub emission_stays : (s : S) (d : Burst) (m b i : ℕ) → MayGoOn d m → i < m
      → tick_at (w.emission s (going_on d m b)) i ≡ tick_at (w.emission s d) i

-- Holds if one more tick adds the notes that come in its step, and one tick of the other line.
pub record AddsOneTick {S N : Type 0} (w : Walker S N) (s : S) (line : List Tick) (t : Tick) :
    Type 0 where
  pub notes : notes_of w s (line ++ t ∷ [])
      ≡ notes_of w s line ++ notes_at (length line) (walked w s (bursts (line ++ t ∷ [])))
  pub ticks : line_of w s (line ++ t ∷ [])
      ≡ line_of w s line ++ tick_at (emitted_by w s (bursts (line ++ t ∷ []))) (length line) ∷ []
