use Rattle.std.proofs.Common.{◌∙◌, arith}
use Rattle.yasir_ticks.proofs.{Readers.step_on, Steps.accepts_plus}
use Rattle.yasir_ticks.proofs.reader.TickReader.at_start.Goals as goal

pub returns-in-43 : goal.returns-in-43
returns-in-43 c =
    rw c.in-43.is (step_on _ _ _ _ _ _ _ _ c.requires.place c.go.ensures.place
    (c.go.ensures.bytes ∙ c.clear.ensures) c.go.ensures.left c.go.ensures.line c.go.ensures.ok
    (λ e. omega arith) (accepts_plus _ _))
