-- The distances of bytes, with one byte more.
use Rattle.line_capture.proofs.{CollectedBytes.item_parts, PlacedBytes.counts_on}
use Rattle.line_capture.specs.Distances.{distances_after, distances, count_equal, distance_count, both_ways}
use Rattle.line_capture.specs.Distances.{CountsSo, CountsOne, CountsDistances, more_if}
use Rattle.line_capture.specs.Placed.{AllInTime, CountsNext}
use Rattle.line_capture.specs.declared.distances.Distances.{Distances}
use Rattle.line_stamps.proofs.Clocks.{line-length, later}
use Rattle.line_stamps.specs.Places.{Spot, spot_of, line_of_places, last_spot, last_spot_from, next_tick}
use Rattle.line_stamps.specs.Places.{placed_from, ticks_from}
use Rattle.yasir_ticks.specs.Ticks.{silent}
use Rattle.yasir_ticks.specs.declared.tick.Tick.{Tick}
use Rattle.yasir_ticks.specs.declared.tick.Tick.TheVariants.{Silent, Byte}
use Rattle.line_stamps.specs.Placing.{PlacingHasTaken, timing_of, answer_at}
use Rattle.line_stamps.specs.declared.{capture.CaptureByte.CaptureByte, placer.Placer.Placer}
use Rattle.line_stamps.specs.declared.placer.Unplaced.TheVariants.{Early, Late}
use Rattle.line_stamps.specs.declared.timing.Timing.{Timing}
use Rattle.std.proofs.Common.{◌≡◌, ◌∙◌, ℕ, ◌+◌, ◌-◌, ◌<◌, ◌^◌, ◌==◌, Bool, true, false, cond, ◌≤◌, List, [], zero}
use Rattle.std.proofs.Common.{◌∷◌, ◌++◌, length, take, drop, get_or, min, suc, Option, Some, None, Err}
use Rattle.std.proofs.Common.{refl, sym, ap, subst, arith, append_assoc, append-nil, inr, ◌⊎◌}
use Rattle.std.proofs.lemmas.List.{take_more}

-- the ticks from the byte before a byte to it, if there is one before it
abbrev distance_at : Timing → Option Spot → CaptureByte → List ℕ
distance_at t None c = []
distance_at t (Some before) c = ((spot_of t (Some before) c).tick - before.tick) ∷ []

-- the ticks from each byte to the next one, given where the byte before them is, if there is one
abbrev distances_from : Timing → Option Spot → List CaptureByte → List ℕ
distances_from t last [] = []
distances_from t last (c ∷ cs) =
    distance_at t last c ++ distances_from t (Some (spot_of t last c)) cs

-- ---- silent ticks

silence_first : (n : ℕ) (line : List Tick)
    → distances_after None (silent n ++ line) ≡ distances_after None line
silence_first zero line = refl
silence_first (suc n) line = silence_first n line

silence_between : (n k : ℕ) (line : List Tick)
    → distances_after (Some k) (silent n ++ line) ≡ distances_after (Some (n + k)) line
silence_between zero k line = ap (λ m. distances_after (Some m) line) (omega arith)
silence_between (suc n) k line =
    let e : n + suc k ≡ suc n + k = omega arith in
    silence_between n (suc k) line ∙ ap (λ m. distances_after (Some m) line) e

-- The distances on a line are the ticks from each place to the next.
line_apart : (t : Timing) (before : Spot) (cs : List CaptureByte)
    → distances_after (Some 0) (ticks_from (suc before.tick) (placed_from t (Some before) cs))
    ≡ distances_from t (Some before) cs
line_apart t before [] = refl
line_apart t before (c ∷ cs) =
    let behind : suc before.tick ≤ (spot_of t (Some before) c).tick = later t (Some before) c in
    let same : suc ((spot_of t (Some before) c).tick - suc before.tick + 0)
    ≡ (spot_of t (Some before) c).tick - before.tick = omega (arith, behind) in
    silence_between ((spot_of t (Some before) c).tick - suc before.tick) 0
    (Byte c.byte ∷ ticks_from (suc (spot_of t (Some before) c).tick)
    (placed_from t (Some (spot_of t (Some before) c)) cs))
    ∙ ap (λ n. n ∷ distances_after (Some 0) (ticks_from (suc (spot_of t (Some before) c).tick)
    (placed_from t (Some (spot_of t (Some before) c)) cs))) same
    ∙ ap (λ l. ((spot_of t (Some before) c).tick - before.tick) ∷ l)
    (line_apart t (spot_of t (Some before) c) cs)

distances_are : (t : Timing) (cs : List CaptureByte)
    → distances (line_of_places t cs) ≡ distances_from t None cs
distances_are t [] = refl
distances_are t (c ∷ cs) =
    silence_first ((spot_of t None c).tick - 0) (Byte c.byte ∷ ticks_from (suc (spot_of t None c).tick)
    (placed_from t (Some (spot_of t None c)) cs))
    ∙ line_apart t (spot_of t None c) cs

-- ---- one byte more

equal_both : (n : ℕ) (xs ys : List ℕ)
    → count_equal n (xs ++ ys) ≡ count_equal n xs + count_equal n ys
equal_both n [] ys = omega arith
equal_both n (x ∷ xs) ys = let h = equal_both n xs ys in omega (arith, h)

distances_more : (t : Timing) (last : Option Spot) (cs : List CaptureByte) (c : CaptureByte)
    → distances_from t last (cs ++ c ∷ [])
    ≡ distances_from t last cs ++ distance_at t (last_spot_from t last cs) c
distances_more t last [] c = append-nil (distance_at t last c)
distances_more t last (d ∷ cs) c =
    ap (λ l. distance_at t last d ++ l) (distances_more t (Some (spot_of t last d)) cs c)
    ∙ sym (append_assoc (distance_at t last d) (distances_from t (Some (spot_of t last d)) cs)
    (distance_at t (last_spot_from t (Some (spot_of t last d)) cs) c))

last_more : (t : Timing) (last : Option Spot) (cs : List CaptureByte) (c : CaptureByte)
    → last_spot_from t last (cs ++ c ∷ []) ≡ Some (spot_of t (last_spot_from t last cs) c)
last_more t last [] c = refl
last_more t last (d ∷ cs) c = last_more t (Some (spot_of t last d)) cs c

ticks_are : (t : Timing) (cs : List CaptureByte)
    → length (line_of_places t cs) ≡ next_tick (last_spot t cs)
ticks_are t cs =
    let h : length (line_of_places t cs) + 0 ≡ next_tick (last_spot t cs) = line-length t None cs in
    omega (arith, h)

-- The first byte is behind none.
none_before : (t : Timing) (last : Option Spot) (c : CaptureByte) → next_tick last ≡ 0
    → distance_at t last c ≡ []
none_before t None c is = refl
none_before t (Some spot) c is = cc

-- The distance of a later byte is how many ticks the line has more with it.
one_before : (t : Timing) (last : Option Spot) (c : CaptureByte) (before after : ℕ)
    → before ≡ next_tick last → after ≡ suc (spot_of t last c).tick → 0 < before
    → distance_at t last c ≡ (after - before) ∷ []
one_before t None c before after was is some = absurd (omega (arith, was, some))
one_before t (Some spot) c before after was is some =
    let same : (spot_of t (Some spot) c).tick - spot.tick ≡ after - before = omega (arith, was, is) in
    ap (λ n. n ∷ []) same

step_counted : (such : Bool) (k all old new : ℕ) → all ≡ k + (cond such 1 0 + 0)
    → old ≡ min k (2 ^ 64 - 1) → new ≡ more_if such old → new ≡ min all (2 ^ 64 - 1)
step_counted true k all old new is had adds = omega (arith, is, had, adds)
step_counted false k all old new is had adds = omega (arith, is, had, adds)

module _ (t : Timing) (cs : List CaptureByte) (c : CaptureByte) where
  more_apart : distances (line_of_places t (cs ++ c ∷ []))
      ≡ distances (line_of_places t cs) ++ distance_at t (last_spot t cs) c
  more_apart = distances_are t (cs ++ c ∷ []) ∙ distances_more t None cs c
      ∙ ap (λ l. l ++ distance_at t (last_spot t cs) c) (sym (distances_are t cs))

  count_more : (n steps old new : ℕ) → distance_at t (last_spot t cs) c ≡ steps ∷ []
      → old ≡ distance_count (line_of_places t cs) n → new ≡ more_if (steps == n) old
      → new ≡ distance_count (line_of_places t (cs ++ c ∷ [])) n
  count_more n steps old new is had adds =
      step_counted (steps == n) (count_equal n (distances (line_of_places t cs)))
      (count_equal n (distances (line_of_places t (cs ++ c ∷ [])))) old new
      (ap (count_equal n) (more_apart ∙ ap (λ l. distances (line_of_places t cs) ++ l) is)
      ∙ equal_both n (distances (line_of_places t cs)) (steps ∷ [])) had adds

  pub counts_more : (old new : Distances) (steps : ℕ)
      → distance_at t (last_spot t cs) c ≡ steps ∷ [] → CountsSo (line_of_places t cs) old
      → CountsOne old new steps → CountsSo (line_of_places t (cs ++ c ∷ [])) new
  counts_more old new steps is had adds = record {
    one = count_more 1 steps old.one new.one is had.one adds.one;
    two = count_more 2 steps old.two new.two is had.two adds.two;
    three = count_more 3 steps old.three new.three is had.three adds.three;
    four = count_more 4 steps old.four new.four is had.four adds.four;
  }

  pub counts_same : (found : Distances) → distance_at t (last_spot t cs) c ≡ []
      → CountsSo (line_of_places t cs) found → CountsSo (line_of_places t (cs ++ c ∷ [])) found
  counts_same found is had =
      let same : distances (line_of_places t cs) ≡ distances (line_of_places t (cs ++ c ∷ [])) =
      sym (more_apart ∙ ap (λ l. distances (line_of_places t cs) ++ l) is
      ∙ append-nil (distances (line_of_places t cs))) in
      let counts : (n : ℕ) → distance_count (line_of_places t cs) n
      ≡ distance_count (line_of_places t (cs ++ c ∷ [])) n =
      λ n. ap (λ l. min (count_equal n l) (2 ^ 64 - 1)) same in record {
        one = had.one ∙ counts 1;
        two = had.two ∙ counts 2;
        three = had.three ∙ counts 3;
        four = had.four ∙ counts 4;
      }

-- The bytes so far were counted, and the next one is early or late.
pub distances_stop : (t : Timing) (cs : List CaptureByte) (i : ℕ) (d : CaptureByte)
    (placer placed : Placer) (found : Distances) → i < length cs → timing_of placer ≡ t
    → AllInTime t None (take i cs) → CountsNext placer placed (take i cs) (get_or cs i d) false
    → CountsSo (line_of_places t (take i cs)) found → CountsDistances t cs found
distances_stop t cs i d placer placed found within timing in_time both counts = record {
  front = take i cs;
  rest = get_or cs i d ∷ drop (suc i) cs;
  is = item_parts cs i d within;
  in_time = in_time;
  stop = inr (subst (λ u. (answer_at u (last_spot u (take i cs)) (get_or cs i d) ≡ Err Early)
      ⊎ (answer_at u (last_spot u (take i cs)) (get_or cs i d) ≡ Err Late)) timing both.1);
  counts = counts;
}

-- Nothing was counted.
pub none_counted : CountsSo [] (record { one = 0; two = 0; three = 0; four = 0 })
none_counted = record { one = refl; two = refl; three = refl; four = refl }

-- The bytes so far were counted, and the next one was taken.
module _ (t : Timing) (cs : List CaptureByte) (i : ℕ) (d : CaptureByte) (placer placed : Placer)
    (old found : Distances) (before : ℕ) (within : i < length cs) (timing : timing_of placer ≡ t)
    (next : CountsNext placer placed (take i cs) (get_or cs i d) true)
    (had : CountsSo (line_of_places t (take i cs)) old)
    (was : before ≡ length (line_of_places (timing_of placer) (take i cs))) where
  was_at : before ≡ next_tick (last_spot t (take i cs))
  was_at = was ∙ ap (λ u. length (line_of_places u (take i cs))) timing ∙ ticks_are t (take i cs)

  further : (new : Distances)
      → CountsSo (line_of_places t (take i cs ++ get_or cs i d ∷ [])) new → found ≡ new
      → CountsSo (line_of_places t (take (i + 1) cs)) found
  further new counts same = subst (λ l. CountsSo (line_of_places t l) found)
      (sym (take_more cs i d within))
      (subst (CountsSo (line_of_places t (take i cs ++ get_or cs i d ∷ []))) (sym same) counts)

  -- It is the first one.
  pub first_counted : before ≤ 0 → found ≡ old → CountsSo (line_of_places t (take (i + 1) cs)) found
  first_counted first same =
      let none : next_tick (last_spot t (take i cs)) ≡ 0 = omega (arith, was_at, first) in
      further old (counts_same t (take i cs) (get_or cs i d) old
      (none_before t (last_spot t (take i cs)) (get_or cs i d) none) had) same

  -- It is behind another one.
  pub later_counted : (new : Distances) (after steps : ℕ)
      → after ≡ length (line_of_places (timing_of placed) (take i cs ++ get_or cs i d ∷ []))
      → steps ≡ after - before → 0 < before → CountsOne old new steps → found ≡ new
      → CountsSo (line_of_places t (take (i + 1) cs)) found
  later_counted new after steps is apart some adds same =
      let now = is ∙ ap (λ u. length (line_of_places u (take i cs ++ get_or cs i d ∷ [])))
      (next.1 ∙ timing) ∙ ticks_are t (take i cs ++ get_or cs i d ∷ [])
      ∙ ap next_tick (last_more t None (take i cs) (get_or cs i d)) in
      further new (counts_more t (take i cs) (get_or cs i d) old new steps
      (one_before t (last_spot t (take i cs)) (get_or cs i d) before after was_at now some
      ∙ ap (λ n. n ∷ []) (sym apart)) had adds) same

-- the counts of two ways together
pub both_are : (a b : Distances) (one two three four : ℕ) → one ≡ min (a.one + b.one) (2 ^ 64 - 1)
    → two ≡ min (a.two + b.two) (2 ^ 64 - 1) → three ≡ min (a.three + b.three) (2 ^ 64 - 1)
    → four ≡ min (a.four + b.four) (2 ^ 64 - 1)
    → ◌≡◌ {A = Distances} (record { one = one; two = two; three = three; four = four })
    (both_ways a b)
both_are a b one two three four e1 e2 e3 e4 = rw e1 (rw e2 (rw e3 (rw e4 refl)))
