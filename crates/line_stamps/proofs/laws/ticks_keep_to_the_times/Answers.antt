use Rattle.line_stamps.proofs.Clocks.{times-kept}
use Rattle.line_stamps.proofs.laws.ticks_keep_to_the_times.Goals as goal

pub returns : goal.returns
returns c = λ t cs by-time. times-kept t by-time cs
