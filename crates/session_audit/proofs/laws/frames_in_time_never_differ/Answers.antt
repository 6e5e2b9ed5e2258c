use Rattle.session_audit.proofs.Auditing.{in-time-never}
use Rattle.session_audit.specs.Sessions.{kind_of}
use Rattle.session_audit.proofs.laws.frames_in_time_never_differ.Goals as goal

pub returns : goal.returns
returns c = λ session device link received within difference.
    in-time-never (kind_of session) session device link received within difference
