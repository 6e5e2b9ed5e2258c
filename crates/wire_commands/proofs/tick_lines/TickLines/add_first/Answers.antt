use Rattle.std.proofs.Common.{◌≡◌, ◌∙◌, ◌∷◌, ◌++◌, [], Result, Ok, Err, OnOk, length, subst, sym}
use Rattle.std.proofs.Common.{append_assoc}
use Rattle.std.proofs.lemmas.Bool.{eqb-true}
use Rattle.std.proofs.lemmas.List.{nil_from_length}
use Rattle.wire_commands.specs.TickLines.{HasWritten}
use Rattle.yasir_ticks.specs.{TickRun.run_ticks}
use Rattle.wire_commands.proofs.tick_lines.TickLines.add_first.Goals as goal

pub returns-then-is_empty-clause-written : goal.returns-then-is_empty-clause-written
returns-then-is_empty-clause-written c = λ line goes.
    let none : run_ticks c.args.rest ≡ [] = nil_from_length (run_ticks c.args.rest)
    (eqb-true (length (run_ticks c.args.rest)) 0 (sym c.is_empty.ensures ∙ c.if-is_empty.true)) in
    subst (λ l. HasWritten c.add_tick.new.self (line ++ c.args.first ∷ l)) (sym none)
    (c.in-Ok.ensures.written line goes)

after : {T E P Q : Type 0} (result : Result T E) → (P → Q) → OnOk result P → OnOk result Q
after (Ok value) then first = then first
after (Err error) then first = first

pub returns-clause-written : goal.returns-clause-written
returns-clause-written c = after c.add.result (λ more line goes.
    subst (HasWritten c.add.new.self)
    (append_assoc line (c.args.first ∷ []) (run_ticks c.args.rest))
    (more (line ++ c.args.first ∷ []) (c.in-Ok.ensures.written line goes))) c.add.ensures.written
