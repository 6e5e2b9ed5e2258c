use Rattle.link_format.specs.Directions.{opposite_of}
use Rattle.poll_session.proofs.Holding.{quiet-one, held-one}
use Rattle.poll_session.specs.TurnedEnds.{poll_setup}
use Rattle.poll_session.specs.Watches.{held_in, quiet_and, quiet_behind}
use Rattle.std.proofs.Common.{◌∙◌, ◌+◌, ◌∷◌, [], ap, arith, length-append, sym, ◌++◌}
use Rattle.yasir_ticks.specs.declared.TheConstants.{T1_5_TICKS}
use Rattle.yasir_ticks.specs.declared.tick.Tick.TheVariants.{Silent}
use Rattle.poll_session.proofs.watch.Watch.step.Goals as goal

pub returns-clause-watched : goal.returns-clause-watched
returns-clause-watched g c = λ dir devices links drivens watched.
    let old = c.args.self.now in
    let driven = c.args.driven in
    let checks = c.in-Ok-step_into.ensures.ok (poll_setup (opposite_of dir)) links watched.checks in
    let same = watched.same_ticks in
    let n = length-append watched.made (old.made ∷ []) in
    let m = length-append drivens (driven ∷ []) in
    record {
      seals = (c.in-Ok.ensures.ok (poll_setup dir) devices watched.seals).keeps;
      checks = checks.keeps;
      made = watched.made ++ old.made ∷ [];
      made_is = ap (λ l. l ++ c.in-Ok-step_into.made ∷ []) watched.made_is
          ∙ sym (ap (λ l. Silent ∷ l) checks.answers);
      same_ticks = omega (arith, same, n, m);
      quiet_is = c.quiet_and-self.ensures ∙ (ap (λ q. quiet_and q old.made) watched.quiet_is
          ∙ sym (quiet-one _ watched.made old.made));
      held_is = ap (λ h. old.held + h) c.held_in.ensures
          ∙ (ap (λ q. old.held + held_in q old.made driven) watched.quiet_is
          ∙ (ap (λ h. h + held_in (quiet_behind T1_5_TICKS watched.made) old.made driven)
          watched.held_is
          ∙ sym (held-one T1_5_TICKS watched.made drivens old.made driven same)));
    }
