-- Silent ticks that close no burst, as a run.
use Rattle.frame_ending.proofs.{Cutting.stands-wait, Cutting.cut-wait, Runs.cuts-silence}
use Rattle.frame_ending.specs.Cuts.{cut_of, cuts_after, IsPassing}
use Rattle.frame_ending.specs.{Stands.CutStandsFor, declared.burst_cut.BurstCut.BurstCut}
use Rattle.frame_ending.specs.declared.cut.Cut.{Cut, TheVariants.Pause, TheVariants.Quiet}
use Rattle.line_rules.specs.{Rules.Rules, declared.line_rules.LineRules.Ghosts as LineRules}
use Rattle.std.proofs.Common.{◌≡◌, ℕ, zero, suc, ◌+◌, ◌<◌, ◌≤◌, List, [], ◌∷◌, ◌++◌, sym, subst}
use Rattle.std.proofs.Common.{arith, replicate}
use Rattle.std.proofs.lemmas.List.Elements.{All-nil, All-cons}
use Rattle.{std.specs.List.All, yasir_ticks.specs.Ticks.silent}
use Rattle.yasir_ticks.specs.declared.tick.Tick.{Tick, TheVariants.Silent}

quiet-passing : (n : ℕ) → All IsPassing (replicate n Quiet)
quiet-passing zero = All-nil IsPassing
quiet-passing (suc n) = All-cons IsPassing Quiet (replicate n Quiet) tt (quiet-passing n)

module _ {R : Type 0} (proto : LineRules R) where
  abbrev rules : Rules
  rules = proto.rules

  -- If no burst runs, silence closes none.
  pub rest-open : (n : ℕ) (v : BurstCut R) (line : List Tick) → CutStandsFor proto v line
      → 4 ≤ v.quiet → All IsPassing (cuts_after rules line (silent n))
  rest-open n v line old quiet =
      subst (λ (l : List Cut). All IsPassing l) (sym (cuts-silence proto n v line old quiet))
      (quiet-passing n)

  -- A running burst isn't closed by fewer than four silent ticks in all.
  pub wait-open : (n : ℕ) (v : BurstCut R) (line : List Tick) → CutStandsFor proto v line
      → v.quiet + n < 4 → All IsPassing (cuts_after rules line (silent n))
  wait-open zero v line old few = All-nil IsPassing
  wait-open (suc n) v line old few =
      let next = stands-wait proto v line old (omega arith) in
      let first : Pause (v.quiet + 1) ≡ cut_of rules line Silent =
      cut-wait proto v line old (omega arith) in
      All-cons IsPassing (cut_of rules line Silent)
      (cuts_after rules (line ++ Silent ∷ []) (silent n))
      (subst IsPassing first tt)
      (wait-open n _ (line ++ Silent ∷ []) next (omega arith))
