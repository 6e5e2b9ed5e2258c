use Rattle.std.proofs.Common.{refl, arith}
use Rattle.yasir_ticks.proofs.Readers.{step_on, step_refused}
use Rattle.yasir_ticks.proofs.Steps.{accepts_return, refuses_open_return}
use Rattle.yasir_ticks.proofs.reader.TickReader.end_content.Goals as goal

pub returns-in-Ok : goal.returns-in-Ok
returns-in-Ok c =
    step_on _ _ _ _ _ _ _ _ refl c.go.ensures.place c.go.ensures.bytes c.go.ensures.left
    c.go.ensures.line c.go.ensures.ok (λ e. omega arith)
    (accepts_return _ _ _ _ c.requires c.in-Ok.ensures.content)

pub returns-in-Err : goal.returns-in-Err
returns-in-Err c =
    step_refused _ _ _ _ _ _ refl c.refuse.ensures.err c.refuse.ensures.place c.refuse.ensures.line
    (refuses_open_return _ _ _ _ c.requires c.in-Err.ensures.content)
