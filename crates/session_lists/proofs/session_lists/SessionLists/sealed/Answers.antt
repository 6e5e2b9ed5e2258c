use Rattle.std.proofs.Common.{arith}
use Rattle.session_lists.proofs.session_lists.SessionLists.sealed.Goals as goal

pub returns-clause-few : goal.returns-clause-few
returns-clause-few g c = λ within. omega (arith, within.few_sealed)
