-- One more tick of a receiver, and of the gate behind it.
use Rattle.std.proofs.Common.{◌≡◌, ◌∙◌, ℕ, ◌+◌, List, [], ◌∷◌, ◌++◌, length, refl, sym, ap, arith}
use Rattle.yasir_ticks.specs.declared.tick.Tick.{Tick}
use Rattle.poll_session.specs.Watches.{quiet_and, quiet_behind, held_in, bursts_held}

pub quiet-one : (quiet : ℕ) (made : List Tick) (t : Tick)
    → quiet_behind quiet (made ++ t ∷ []) ≡ quiet_and (quiet_behind quiet made) t
quiet-one quiet [] t = refl
quiet-one quiet (x ∷ made) t = quiet-one (quiet_and quiet x) made t

pub held-one : (quiet : ℕ) (made driven : List Tick) (t d : Tick) → length made ≡ length driven
    → bursts_held quiet (made ++ t ∷ []) (driven ++ d ∷ [])
    ≡ bursts_held quiet made driven + held_in (quiet_behind quiet made) t d
held-one quiet [] [] t d same = omega arith
held-one quiet [] (y ∷ ys) t d same = absurd (omega (arith, same))
held-one quiet (x ∷ xs) [] t d same = absurd (omega (arith, same))
held-one quiet (x ∷ xs) (y ∷ ys) t d same =
    let rest : length xs ≡ length ys = omega (arith, same) in
    let more = held-one (quiet_and quiet x) xs ys t d rest in
    omega (arith, more)
