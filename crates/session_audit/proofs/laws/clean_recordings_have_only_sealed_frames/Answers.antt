use Rattle.session_audit.proofs.Auditing.{clean-says, is-guarded, lawful-rules}
use Rattle.session_audit.specs.Sessions.{kind_of}
use Rattle.session_audit.proofs.laws.clean_recordings_have_only_sealed_frames.Goals as goal

pub returns : goal.returns
returns c = λ session device link received counts is.
    clean-says (kind_of session) session (lawful-rules session.proto) device link received counts
    (is-guarded session link) is
