use Rattle.dnp_link_frame.specs.{Rules.dnp_rules, RulesLaws.dnp_lawful}
use Rattle.rtu_frame.specs.Rules.{rtu_rules, rtu_lawful}
use Rattle.link_box.proofs.SealNumbers.{sealed-numbered}
use Rattle.session_audit.proofs.Starts.{passed-starts}
use Rattle.session_audit.proofs.over_input.audit_input.Goals as goal

pub audit_input_by-requires-clause-in_turn : goal.audit_input_by-requires-clause-in_turn
audit_input_by-requires-clause-in_turn g c = λ setup line. sealed-numbered _ rtu_rules rtu_lawful setup.floor line

pub audit_input_by-requires-clause-in_time : goal.audit_input_by-requires-clause-in_time
audit_input_by-requires-clause-in_time g c = λ setup line. passed-starts _ rtu_rules setup.floor line

pub audit_input_by-requires-2-clause-in_turn : goal.audit_input_by-requires-2-clause-in_turn
audit_input_by-requires-2-clause-in_turn g c = λ setup line. sealed-numbered _ rtu_rules rtu_lawful setup.floor line

pub audit_input_by-requires-2-clause-in_time : goal.audit_input_by-requires-2-clause-in_time
audit_input_by-requires-2-clause-in_time g c = λ setup line. passed-starts _ rtu_rules setup.floor line

pub audit_input_by-requires-3-clause-in_turn : goal.audit_input_by-requires-3-clause-in_turn
audit_input_by-requires-3-clause-in_turn g c = λ setup line. sealed-numbered _ dnp_rules dnp_lawful setup.floor line

pub audit_input_by-requires-3-clause-in_time : goal.audit_input_by-requires-3-clause-in_time
audit_input_by-requires-3-clause-in_time g c = λ setup line. passed-starts _ dnp_rules setup.floor line

pub audit_input_by-requires-4-clause-in_turn : goal.audit_input_by-requires-4-clause-in_turn
audit_input_by-requires-4-clause-in_turn g c = λ setup line. sealed-numbered _ dnp_rules dnp_lawful setup.floor line

pub audit_input_by-requires-4-clause-in_time : goal.audit_input_by-requires-4-clause-in_time
audit_input_by-requires-4-clause-in_time g c = λ setup line. passed-starts _ dnp_rules setup.floor line

pub returns-in-Rtu-Y18-with_link-clause-audits : goal.returns-in-Rtu-Y18-with_link-clause-audits
returns-in-Rtu-Y18-with_link-clause-audits g c =
    rw (c.in-Rtu-Y18-with_link.is-0, c.in-Rtu-Y18-with_link.is-1) (rw (c.in-Rtu-Y18-with_link.is-1) at c.audit_input_by.ensures.audits)

pub returns-in-Rtu-Y24-with_link-clause-audits : goal.returns-in-Rtu-Y24-with_link-clause-audits
returns-in-Rtu-Y24-with_link-clause-audits g c =
    rw (c.in-Rtu-Y24-with_link.is-0, c.in-Rtu-Y24-with_link.is-1) (rw (c.in-Rtu-Y24-with_link.is-1) at c.audit_input_by-2.ensures.audits)

pub returns-in-Dnp3-Y18-with_link-clause-audits : goal.returns-in-Dnp3-Y18-with_link-clause-audits
returns-in-Dnp3-Y18-with_link-clause-audits g c =
    rw (c.in-Dnp3-Y18-with_link.is-0, c.in-Dnp3-Y18-with_link.is-1) (rw (c.in-Dnp3-Y18-with_link.is-1) at c.audit_input_by-3.ensures.audits)

pub returns-in-Dnp3-Y24-with_link-clause-audits : goal.returns-in-Dnp3-Y24-with_link-clause-audits
returns-in-Dnp3-Y24-with_link-clause-audits g c =
    rw (c.in-Dnp3-Y24-with_link.is-0, c.in-Dnp3-Y24-with_link.is-1) (rw (c.in-Dnp3-Y24-with_link.is-1) at c.audit_input_by-4.ensures.audits)
