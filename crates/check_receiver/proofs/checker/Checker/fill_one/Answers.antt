use Rattle.check_receiver.proofs.Fills.{fill-leaves, fill-taken, still-closed}
use Rattle.check_receiver.specs.{Phases.is_open, Runs.CheckerHasTakenRun}
use Rattle.line_rules.specs.Outlet.{owed_by}
use Rattle.std.proofs.Common.{◌∙◌, ◌∷◌, [], sym, subst, ap, nat_lt}
use Rattle.yasir_ticks.specs.declared.tick.Tick.{Tick}
use Rattle.check_receiver.proofs.checker.Checker.fill_one.Goals as goal

pub returns-in-Byte-clause-run : goal.returns-in-Byte-clause-run
returns-in-Byte-clause-run g c = λ last setup line stands closed gone some begins.
    let P : Tick → Type 0 = λ a. CheckerHasTakenRun g.R.LineRules g.M.Mac c.turn.new.self last setup line
    (c.args.t ∷ []) (a ∷ []) in
    subst P c.in-Byte.is
    (fill-taken g.R.LineRules g.M.Mac c.args.self.now last setup line stands c.step.new.self
    c.turn.new.self c.turn.result c.turn.ensures gone c.args.t c.step.result
    (sym (c.step.ensures.answer line stands.cuts)) (c.step.ensures.stands line stands.cuts) closed
    begins)

pub returns-in-Silent-clause-run : goal.returns-in-Silent-clause-run
returns-in-Silent-clause-run g c = λ last setup line stands closed gone some begins.
    absurd (fill-leaves g.R.LineRules g.M.Mac c.args.self.now last setup line stands c.step.new.self
    c.turn.new.self c.turn.result c.turn.ensures gone some c.in-Silent.is)

pub returns-in-Byte-clause-phase : goal.returns-in-Byte-clause-phase
returns-in-Byte-clause-phase g c = λ closed.
    let old = c.args.self.now in
    ap is_open c.turn.ensures.phase
    ∙ still-closed old.phase old.until (nat_lt 0 (owed_by c.turn.new.self.outlet)) closed

pub returns-in-Silent-clause-phase : goal.returns-in-Silent-clause-phase
returns-in-Silent-clause-phase g c = λ closed.
    let old = c.args.self.now in
    ap is_open c.turn.ensures.phase
    ∙ still-closed old.phase old.until (nat_lt 0 (owed_by c.turn.new.self.outlet)) closed
