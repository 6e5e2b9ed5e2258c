use Rattle.poll_laws.proofs.Several.{one-of-several, deaf-among}
use Rattle.poll_laws.proofs.laws.several_devices_read_what_was_sealed.Goals as goal

pub returns-clause-one : goal.returns-clause-one
returns-clause-one c = λ device end within w seal_floor line is gap own others one tells.
    one-of-several device end within w seal_floor line is gap own others one tells

pub returns-clause-deaf : goal.returns-clause-deaf
returns-clause-deaf c = λ device end within w seal_floor line is gap others deaf among tells.
    deaf-among device end within w seal_floor line is gap others deaf among tells
