-- The receiver of several stations is free once what it made of all bursts has left.
use Rattle.frame_ending.specs.Walk.{state_after}
use Rattle.line_rules.specs.{Rules.Rules, RulesLaws.IsLawful}
use Rattle.link_box.specs.Verdicts.{CheckState, checked}
use Rattle.link_format.specs.Profile.{Profile, delay}
use Rattle.receiver_laws.proofs.InStep.{HaveLeft, free-step}
use Rattle.receiver_laws.proofs.Recovering.{left-by}
use Rattle.receiver_laws.specs.Recovery.{LackAtMost}
use Rattle.std.proofs.Common.{ℕ, ◌+◌, ◌≤◌, List, [], ◌∷◌, length, refl, arith}
use Rattle.yasir_ticks.specs.{Bursts.Burst, Bursts.bursts, Ticks.AreTicks}
use Rattle.yasir_ticks.specs.declared.tick.Tick.{Tick}
use Rattle.stations.specs.Shared.{SharedState, at_floors, its_state, shared, checking_box}

module _ (station : List ℕ → ℕ) (profile : Profile) (rules : Rules) where
  free-by : (b : ℕ) (s : SharedState) (ds : List Burst) → s.free_from ≤ b
      → HaveLeft profile rules b ds
      → (state_after (shared station rules (checking_box profile rules)) s ds).free_from ≤ b
  free-by b s [] free left = free
  free-by b s (d ∷ ds) free left =
      let w = shared station rules (checking_box profile rules) in
      let its : CheckState = its_state station rules (checking_box profile rules) s d in
      free-by b (w.next s d) ds
      (free-step profile rules b its d (checked profile rules its d) free left.0) left.1

  pub free-after : IsLawful rules → (most : ℕ) → LackAtMost rules most → (floors : ℕ → ℕ)
      (link : List Tick) → AreTicks link
      → (state_after (shared station rules (checking_box profile rules)) (at_floors floors)
      (bursts link)).free_from ≤ length link + delay profile + most
  free-after lawful most lack floors link ticks =
      free-by (length link + delay profile + most) (at_floors floors) (bursts link) (omega arith)
      (left-by profile rules lawful most lack link ticks (length link) refl)
