use Rattle.check_receiver.specs.Phases.{settled}
use Rattle.check_receiver.specs.declared.{checker.Checker.Checker, phase.Phase.Phase}
use Rattle.std.proofs.Common.{◌≡◌, ◌∙◌, ℕ, ap}
use Rattle.check_receiver.proofs.checker.Checker.turn.Goals as goal

-- The phase can be set after everything else.
set-phase : {R M : Type 0} {B D : ℕ} (old left : Checker R M B D) (p : Phase)
    → left ≡ record old { ring = left.ring; outlet = left.outlet }
    → record left { phase = p } ≡ record old { ring = left.ring; outlet = left.outlet; phase = p }
set-phase {R} {M} {B} {D} old left p rest =
    let F : Checker R M B D → Checker R M B D = λ v. record v { phase = p } in
    ap F rest

pub returns : goal.returns
returns g c =
    let old = c.args.self.now in
    let rest = c.let_out-left.ensures.others in
    record {
      others = set-phase old c.let_out-left.new.self c.settled-self.result rest;
      ring = c.let_out-left.ensures.ring;
      out = c.let_out-left.ensures.out;
      phase = c.settled-self.ensures
          ∙ (ap (λ v. settled v.phase v.until c.owes.result) rest
          ∙ ap (λ owes. settled old.phase old.until owes) c.owes.ensures);
    }
