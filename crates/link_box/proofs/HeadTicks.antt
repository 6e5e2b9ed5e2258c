-- Where a header ends, with at most one silent tick between its bytes.
use Rattle.frame_ending.specs.LiveBytes.{before_pause, spelled, live_bytes}
use Rattle.line_rules.specs.{Rules.Rules, RulesLaws.IsLawful, RulesLaws.IsHeaded}
use Rattle.std.proofs.Common.{ℕ, ◌+◌, ◌*◌, ◌<◌, ◌≤◌, List, [], ◌∷◌, ◌++◌, length, arith}
use Rattle.{std.proofs.lemmas.List.length-take, yasir_ticks.specs.Bursts.Burst}
use Rattle.yasir_ticks.specs.BurstsOf.{IsContiguous, one, more}
use Rattle.yasir_ticks.specs.Ticks.{bytes_in, silent}
use Rattle.yasir_ticks.specs.declared.tick.Tick.{Tick, TheVariants.Silent, TheVariants.Byte}

pub before_pause-le : (x : List Tick) → length (before_pause x) ≤ length x
unfolding before_pause
before_pause-le [] = omega arith
before_pause-le (Byte b ∷ x) = let rest = before_pause-le x in omega arith
before_pause-le (Silent ∷ []) = omega arith
before_pause-le (Silent ∷ Silent ∷ x) = omega arith
before_pause-le (Silent ∷ Byte b ∷ x) = let rest = before_pause-le x in omega arith

before_pause-twice : (x : List Tick)
    → length (before_pause x) ≤ 2 * length (bytes_in (before_pause x))
unfolding before_pause
before_pause-twice [] = omega arith
before_pause-twice (Byte b ∷ x) = let rest = before_pause-twice x in omega arith
before_pause-twice (Silent ∷ []) = omega arith
before_pause-twice (Silent ∷ Silent ∷ x) = omega arith
before_pause-twice (Silent ∷ Byte b ∷ x) = let rest = before_pause-twice x in omega arith

before_pause-few : (cut : ℕ) (x : List Tick) → IsContiguous cut x
    → length (before_pause x) + 1 ≤ 2 * length (bytes_in (before_pause x))
unfolding before_pause
before_pause-few cut x (one b) = omega arith
before_pause-few cut x (more b gap rest few contiguous) =
    let others = before_pause-twice (silent gap ++ rest) in omega arith

module _ (rules : Rules) (lawful : IsLawful rules) (headed : IsHeaded rules) (d : Burst)
    (contiguous : IsContiguous 4 d.body) where
  -- if a burst's header is too short, all its bytes before the pause are live, and the ticks before
  -- the pause are at most twice as many as a header has bytes, less three
  pub short-pause : length (live_bytes rules d) < rules.header_len
      → length (before_pause d.body) + 3 ≤ 2 * rules.header_len
  short-pause short =
      let ticks = before_pause-few 4 d.body contiguous in
      let live = length-take (rules.room (spelled d)) (spelled d) in
      let room = headed.room_for_header (spelled d) in
      omega arith
