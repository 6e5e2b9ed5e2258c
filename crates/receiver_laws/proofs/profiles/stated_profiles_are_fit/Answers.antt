use Rattle.receiver_laws.proofs.Stated.{stated_fit}
use Rattle.receiver_laws.proofs.profiles.stated_profiles_are_fit.Goals as goal

pub returns : goal.returns
returns g c = stated_fit g.R.LineRules.rules g.R.LineRules.headed
