use Rattle.line_stamps.proofs.Clocks.{edges-kept}
use Rattle.line_stamps.proofs.laws.silences_keep_their_edges.Goals as goal

pub returns : goal.returns
returns c = λ t cs by-time. edges-kept t by-time cs
