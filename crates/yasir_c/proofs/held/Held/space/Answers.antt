use Rattle.std.proofs.Common.{◌≡◌, Some, IfOk, IfErr, sym, subst}
use Rattle.yasir_c.{proofs.Causes.spaces, proofs.Causes.spaces-full}
use Rattle.yasir_c.specs.Holding.{SpacesTick, SpacesNoTick}
use Rattle.yasir_c.specs.declared.held.Held.TheVariants.{Spacer}
use Rattle.yasir_c.proofs.held.Held.space.Goals as goal

pub returns-in-Spacer-clause-steps : goal.returns-in-Spacer-clause-steps
returns-in-Spacer-clause-steps c =
    subst (λ r. IfOk r
    (SpacesTick _ (Some c.args.self.now) (Some (Spacer c.step.new.self)) c.args.t))
    (sym c.ok_or.ensures.value)
    (spaces _ c.args.self.now c.in-Spacer.spacer c.step.new.self c.args.t c.step.result
    c.in-Spacer.is c.step.ensures)

pub returns-in-Spacer-clause-kept : goal.returns-in-Spacer-clause-kept
returns-in-Spacer-clause-kept c =
    subst (λ r. IfErr r (λ why. (Spacer c.step.new.self ≡ c.args.self.now)
    × SpacesNoTick (Some c.args.self.now) why))
    (sym c.ok_or.ensures.value)
    (spaces-full _ c.args.self.now c.in-Spacer.spacer c.step.new.self c.args.t c.step.result
    c.in-Spacer.is c.step.ensures)
