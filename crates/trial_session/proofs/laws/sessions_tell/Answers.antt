use Rattle.trial_session.proofs.Tellings.{stated-tells}
use Rattle.trial_session.proofs.laws.sessions_tell.Goals as goal

pub returns : goal.returns
returns c = stated-tells
