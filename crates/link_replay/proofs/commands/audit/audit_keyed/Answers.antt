use Rattle.link_replay.proofs.Auditing.{audits-so, input-of-verdict}
use Rattle.link_replay.specs.AuditCommand.{PrintsFinding, verdict_text}
use Rattle.session_audit.specs.declared.verdict.Verdict.{Verdict}
use Rattle.std.proofs.Common.{◌∙◌, refl, subst}
use Rattle.link_replay.proofs.commands.audit.audit_keyed.Goals as goal

pub returns-clause-prints : goal.returns-clause-prints
returns-clause-prints g c =
    let finds = c.in-Ok.ensures.audits in
    let takes = finds.takes in
    audits-so c.args.asked c.args.key.now _ _ _ _ takes.told
    (record { text = takes.text; met = takes.met; right = takes.right; few = takes.few })
    c.print_verdict.result
    (subst (λ (v : Verdict). PrintsFinding (verdict_text v) (g.O.Sink.held c.args.ends.out.now)
    (g.O.Sink.held c.print_verdict.new.out) v.finding c.print_verdict.result)
    (finds.found ∙ c.session_of.ensures.verdicts _ _ _)
    c.print_verdict.ensures.prints)

pub returns-clause-input : goal.returns-clause-input
returns-clause-input g c = input-of-verdict _ _ _ _ _ _ c.print_verdict.result
    c.print_verdict.ensures.prints (c.in-Ok.ensures.read.same refl)
