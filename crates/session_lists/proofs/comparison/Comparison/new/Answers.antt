use Rattle.std.proofs.Common.{refl, sym}
use Rattle.session_lists.proofs.Comparing.{unexpected-none}
use Rattle.session_lists.proofs.comparison.Comparison.new.Goals as goal

pub returns-clause-found : goal.returns-clause-found
returns-clause-found c = λ late expected. record {
  count = refl;
  place = sym (unexpected-none late expected);
  frame = tt;
}
