-- How far apart the bytes of a way are inside bursts.
use Rattle.std.specs.Prelude.{◌≡◌, ℕ, suc, ◌+◌, ◌-◌, ◌^◌, ◌==◌, min, max, nat_lt, if◌then◌else◌, Bool}
use Rattle.std.specs.Prelude.{List, [], ◌∷◌, ◌++◌, codes, decimal, Option, Some, None, Err, ◌⊎◌}
use Rattle.yasir_ticks.specs.declared.tick.Tick.{Tick}
use Rattle.yasir_ticks.specs.declared.tick.Tick.TheVariants.{Silent, Byte}
use Rattle.line_stamps.specs.Places.{last_spot, line_of_places}
use Rattle.line_stamps.specs.Placing.{answer_at}
use Rattle.line_stamps.specs.declared.capture.CaptureByte.{CaptureByte}
use Rattle.line_stamps.specs.declared.placer.Unplaced.TheVariants.{Early, Late}
use Rattle.line_stamps.specs.declared.timing.Timing.{Timing}
use Rattle.line_capture.specs.Placed.{AllInTime, NextIs}
use Rattle.line_capture.specs.declared.distances.Distances.{Distances}

-- The distances of bytes that follow each other: each is one more than the silent ticks between
-- the two. Given is how many silent ticks there were since the last byte, if there was one.
abbrev pub distances_after : Option ℕ → List Tick → List ℕ
distances_after None [] = []
distances_after None (Silent ∷ line) = distances_after None line
distances_after None (Byte b ∷ line) = distances_after (Some 0) line
distances_after (Some n) [] = []
distances_after (Some n) (Silent ∷ line) = distances_after (Some (suc n)) line
distances_after (Some n) (Byte b ∷ line) = suc n ∷ distances_after (Some 0) line

-- the distances of the bytes of a line that follow each other
abbrev pub distances : List Tick → List ℕ
distances line = distances_after None line

-- how often a number is in a list
abbrev pub count_equal : ℕ → List ℕ → ℕ
count_equal n [] = 0
count_equal n (x ∷ xs) = (if x == n then 1 else 0) + count_equal n xs

-- how often two bytes of a line that follow each other are this far apart; the count stops at
-- 2^64 - 1
abbrev pub distance_count : List Tick → ℕ → ℕ
distance_count line n = min (count_equal n (distances line)) (2 ^ 64 - 1)

-- Holds if these are the counts of the distances inside bursts: a burst ends with the fourth silent
-- tick, so two bytes of one are at most four ticks apart.
pub record CountsSo (line : List Tick) (found : Distances) : Type 0 where
  pub one : found.one ≡ distance_count line 1
  pub two : found.two ≡ distance_count line 2
  pub three : found.three ≡ distance_count line 3
  pub four : found.four ≡ distance_count line 4

-- Holds if these are the counts of the distances inside bursts on the line of the bytes up to the
-- first that is early or late.
pub record CountsDistances (t : Timing) (cs : List CaptureByte) (found : Distances) : Type 0 where
  pub front : List CaptureByte
  pub rest : List CaptureByte
  pub is : cs ≡ front ++ rest
  pub in_time : AllInTime t None front
  pub stop : (rest ≡ []) ⊎ NextIs rest (λ c.
      (answer_at t (last_spot t front) c ≡ Err Early)
      ⊎ (answer_at t (last_spot t front) c ≡ Err Late))
  pub counts : CountsSo (line_of_places t front) found

-- one more, if this holds; the count stops at 2^64 - 1
abbrev pub more_if : Bool → ℕ → ℕ
more_if such n = if such then min (n + 1) (2 ^ 64 - 1) else n

-- Holds if a distance was counted.
pub record CountsOne (old new : Distances) (steps : ℕ) : Type 0 where
  pub one : new.one ≡ more_if (steps == 1) old.one
  pub two : new.two ≡ more_if (steps == 2) old.two
  pub three : new.three ≡ more_if (steps == 3) old.three
  pub four : new.four ≡ more_if (steps == 4) old.four

-- the distances of two ways together
abbrev pub both_ways : Distances → Distances → Distances
both_ways a b = record {
  one = min (a.one + b.one) (2 ^ 64 - 1);
  two = min (a.two + b.two) (2 ^ 64 - 1);
  three = min (a.three + b.three) (2 ^ 64 - 1);
  four = min (a.four + b.four) (2 ^ 64 - 1);
}

-- the shortest distance, if there is one
abbrev pub shortest : Distances → Option ℕ
shortest d =
    if nat_lt 0 d.one then Some 1 else if nat_lt 0 d.two then Some 2
    else if nat_lt 0 d.three then Some 3 else if nat_lt 0 d.four then Some 4 else None

-- the count of the commonest distance
abbrev pub greatest_count : Distances → ℕ
greatest_count d = max (max d.one d.two) (max d.three d.four)

-- the commonest distance, and of several the shortest
abbrev pub commonest : Distances → ℕ
commonest d =
    if d.one == greatest_count d then 1 else if d.two == greatest_count d then 2
    else if d.three == greatest_count d then 3 else 4

-- the line of the shortest distance, if there is one, and the usual one
abbrev pub distance_line : Option ℕ → ℕ → List ℕ
distance_line None usual = codes "distances inside bursts: none\n"
distance_line (Some least) usual = codes "distances inside bursts: shortest " ++ decimal least
    ++ codes ", usual " ++ decimal usual ++ codes "\n"

-- the line that warns of bytes that are usually farther apart than a character
abbrev pub rate_warning : Option ℕ → ℕ → List ℕ
rate_warning None usual = []
rate_warning (Some least) usual =
    if usual == 1 then [] else codes "warning: the usual distance isn't 1: is the rate right?\n"

-- the lines that are written of the distances
abbrev pub distance_lines : Distances → List ℕ
distance_lines d =
    distance_line (shortest d) (commonest d) ++ rate_warning (shortest d) (commonest d)
