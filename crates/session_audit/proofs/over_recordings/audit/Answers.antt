use Rattle.dnp_link_frame.specs.{Rules.dnp_rules, RulesLaws.dnp_lawful}
use Rattle.rtu_frame.specs.Rules.{rtu_rules, rtu_lawful}
use Rattle.link_box.proofs.SealNumbers.{sealed-numbered}
use Rattle.session_audit.proofs.Starts.{passed-starts}
use Rattle.session_audit.proofs.over_recordings.audit.Goals as goal

pub audit_by-requires-clause-in_turn : goal.audit_by-requires-clause-in_turn
audit_by-requires-clause-in_turn c = λ setup line. sealed-numbered _ rtu_rules rtu_lawful setup.floor line

pub audit_by-requires-clause-in_time : goal.audit_by-requires-clause-in_time
audit_by-requires-clause-in_time c = λ setup line. passed-starts _ rtu_rules setup.floor line

pub audit_by-requires-2-clause-in_turn : goal.audit_by-requires-2-clause-in_turn
audit_by-requires-2-clause-in_turn c = λ setup line. sealed-numbered _ rtu_rules rtu_lawful setup.floor line

pub audit_by-requires-2-clause-in_time : goal.audit_by-requires-2-clause-in_time
audit_by-requires-2-clause-in_time c = λ setup line. passed-starts _ rtu_rules setup.floor line

pub audit_by-requires-3-clause-in_turn : goal.audit_by-requires-3-clause-in_turn
audit_by-requires-3-clause-in_turn c = λ setup line. sealed-numbered _ dnp_rules dnp_lawful setup.floor line

pub audit_by-requires-3-clause-in_time : goal.audit_by-requires-3-clause-in_time
audit_by-requires-3-clause-in_time c = λ setup line. passed-starts _ dnp_rules setup.floor line

pub audit_by-requires-4-clause-in_turn : goal.audit_by-requires-4-clause-in_turn
audit_by-requires-4-clause-in_turn c = λ setup line. sealed-numbered _ dnp_rules dnp_lawful setup.floor line

pub audit_by-requires-4-clause-in_time : goal.audit_by-requires-4-clause-in_time
audit_by-requires-4-clause-in_time c = λ setup line. passed-starts _ dnp_rules setup.floor line

pub returns-in-Rtu-Y18-with_link : goal.returns-in-Rtu-Y18-with_link
returns-in-Rtu-Y18-with_link c =
    rw (c.in-Rtu-Y18-with_link.is-0, c.in-Rtu-Y18-with_link.is-1) (rw (c.in-Rtu-Y18-with_link.is-1) at c.audit_by.ensures)

pub returns-in-Rtu-Y24-with_link : goal.returns-in-Rtu-Y24-with_link
returns-in-Rtu-Y24-with_link c =
    rw (c.in-Rtu-Y24-with_link.is-0, c.in-Rtu-Y24-with_link.is-1) (rw (c.in-Rtu-Y24-with_link.is-1) at c.audit_by-2.ensures)

pub returns-in-Dnp3-Y18-with_link : goal.returns-in-Dnp3-Y18-with_link
returns-in-Dnp3-Y18-with_link c =
    rw (c.in-Dnp3-Y18-with_link.is-0, c.in-Dnp3-Y18-with_link.is-1) (rw (c.in-Dnp3-Y18-with_link.is-1) at c.audit_by-3.ensures)

pub returns-in-Dnp3-Y24-with_link : goal.returns-in-Dnp3-Y24-with_link
returns-in-Dnp3-Y24-with_link c =
    rw (c.in-Dnp3-Y24-with_link.is-0, c.in-Dnp3-Y24-with_link.is-1) (rw (c.in-Dnp3-Y24-with_link.is-1) at c.audit_by-4.ensures)
