use Rattle.session_audit.proofs.Auditing.{is-guarded, never-differs, reads-own-line, rest-long}
use Rattle.session_audit.specs.Sessions.{kind_of, got_setup, rest_behind}
use Rattle.session_audit.proofs.laws.own_line_of_a_receiver_never_differs.Goals as goal

pub returns : goal.returns
returns c = λ session device link ticks none difference.
    never-differs (kind_of session) session device link none difference
    (reads-own-line session.proto session.profile (got_setup session) session.got_floor link ticks
    (rest_behind session.tolerance.spaced) (rest-long session.tolerance.spaced))
    ticks (is-guarded session link)
