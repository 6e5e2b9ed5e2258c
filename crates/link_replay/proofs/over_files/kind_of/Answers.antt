use Rattle.std.proofs.Common.{rules}
use Rattle.link_replay.proofs.Paths.{kind-made, kind-kept}
use Rattle.link_replay.proofs.over_files.kind_of.Goals as goal

pub returns-then-makes_journal : goal.returns-then-makes_journal
returns-then-makes_journal c = λ asked asks. kind-made _ asked (search rules) asks

pub returns-else-makes_journal : goal.returns-else-makes_journal
returns-else-makes_journal c = λ asked asks. kind-kept _ asked (λ makes. search rules) asks
