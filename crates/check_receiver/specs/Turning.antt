-- What a turn of the ring does: a tick enters it, and what leaves goes through the outlet.
use Rattle.std.specs.Prelude.{◌≡◌, ℕ, ◌==◌, nat_lt, false, List, [], ◌∷◌, ◌++◌, slice_index_or}
use Rattle.std.specs.Prelude.{drop}
use Rattle.yasir_ticks.specs.declared.tick.Tick.{Tick}
use Rattle.yasir_ticks.specs.declared.tick.Tick.TheVariants.{Silent}
use Rattle.line_rules.specs.declared.line_rules.LineRules.{Ghosts as LineRules}
use Rattle.yasir_ticks.specs.declared.delay_ring.DelayRing.{DelayRing}
use Rattle.yasir_ticks.specs.DelayRing.{ring_ticks}
use Rattle.yasir_ticks.specs.Ticks.{silent}
use Rattle.frame_ending.specs.SoFar.{live_bytes_so_far}
use Rattle.frame_ending.specs.Stands.{CutStandsFor}
use Rattle.line_rules.specs.Outlet.{OutletStandsForTicks, OutletRefuses, owed_by}
use Rattle.line_rules.specs.declared.outlet.Outlet.{Outlet}
use Rattle.link_box.specs.Turns.{HasTurned}
use Rattle.check_receiver.specs.Phases.{passes_in, settled}
use Rattle.check_receiver.specs.declared.checker.Checker.{Checker}
use Rattle.check_receiver.specs.declared.phase.Phase.TheVariants.{Idle, Leaving}

-- Holds if the tick `entering` has entered the ring, and the tick `answer` has left through the
-- outlet. If all of a burst has left with it, the receiver is idle. Everything else is as it was.
pub record Turned {R M : Type 0} {B D : ℕ} (proto : LineRules R) (old new : Checker R M B D)
    (entering answer : Tick) : Type 0 where
  pub others : new ≡ record old { ring = new.ring; outlet = new.outlet; phase = new.phase }
  pub ring : ring_ticks new.ring ≡ drop 1 (ring_ticks old.ring) ++ entering ∷ []
  pub out : (x : List ℕ) → OutletStandsForTicks proto old.outlet x
      → HasTurned proto old.outlet new.outlet (old.until == 0) (passes_in old.phase) x answer
      (slice_index_or (ring_ticks old.ring) 0 Silent)
  pub phase : new.phase ≡ settled old.phase old.until (nat_lt 0 (owed_by new.outlet))

-- the receiver with this ring, and idle
abbrev pub dropped : {R M : Type 0} {B D : ℕ} → Checker R M B D → DelayRing D → Checker R M B D
dropped old ring = record old { phase = Idle; until = 0; ring = ring }

-- Holds if the ring has been cleared and the receiver made idle, and then a silent tick has entered
-- the ring.
pub record TurnedClear {R M : Type 0} {B D : ℕ} (proto : LineRules R) (old new : Checker R M B D)
    (answer : Tick) : Type 0 where
  pub ring : DelayRing D
  pub clear : ring_ticks ring ≡ silent D
  pub turned : Turned proto (dropped old ring) new Silent answer

-- the receiver, whose last live byte leaves `n` steps later
abbrev pub with_until : {R M : Type 0} {B D : ℕ} → ℕ → Checker R M B D → Checker R M B D
with_until n old = record old { until = n }

-- the receiver after it has refused a burst: what follows of the burst leaves through this outlet,
-- and the next burst may start from tick `earliest` on
abbrev pub refused : {R M : Type 0} {B D : ℕ} → Checker R M B D → Outlet R → ℕ → Checker R M B D
refused old outlet earliest = record old {
  phase = Leaving false;
  earliest_start = earliest;
  outlet = outlet;
}

-- Holds if the outlet knows all bytes of the burst that is refused, and then a silent tick has
-- entered the ring.
pub record TurnedRefused {R M : Type 0} {B D : ℕ} (proto : LineRules R) (old new : Checker R M B D)
    (answer : Tick) : Type 0 where
  pub outlet : Outlet R
  pub knows : (line : List Tick) → CutStandsFor proto old.cut line
      → OutletRefuses proto outlet (live_bytes_so_far proto.rules line)
  pub owed : owed_by outlet ≡ owed_by old.outlet
  pub turned : Turned proto (refused old outlet new.earliest_start) new Silent answer
