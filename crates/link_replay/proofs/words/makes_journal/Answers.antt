use Rattle.{link_replay.specs.declared.words.Command.TheVariants.Init, std.proofs.Common.rules}
use Rattle.link_replay.proofs.words.makes_journal.Goals as goal

pub returns-in-Err : goal.returns-in-Err
returns-in-Err c = (
  search rules,
  λ asks. absurd (c.in-Err.ensures.usage (Init asks.0 asks.1 asks.2) asks.3),
)
