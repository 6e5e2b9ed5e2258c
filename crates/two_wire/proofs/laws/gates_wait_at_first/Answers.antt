use Rattle.link_box.specs.Checking.{received_line}
use Rattle.rtu_frame.specs.Rules.{rtu_rules}
use Rattle.std.proofs.Common.{◌≡◌, ◌∙◌, ℕ, zero, suc, ap, arith}
use Rattle.two_wire.proofs.{Resting.rtu-rests, Resting.hunter-rests, Starting.waits-first}
use Rattle.two_wire.specs.{Gate.gated, Gate.at_rest, Wires.on_wires}
use Rattle.two_wire.specs.declared.gate.Side.TheVariants.{Asks}
use Rattle.two_wire.proofs.laws.gates_wait_at_first.Goals as goal

pub returns-clause-waits : goal.returns-clause-waits
returns-clause-waits c = λ waits ticks heard. waits-first waits ticks heard

pub returns-clause-rtu : goal.returns-clause-rtu
returns-clause-rtu c = λ cut gap down end l before is side fits long.
    let ticks = on_wires end.late (received_line end.incoming rtu_rules end.got_floor l.from_link) in
    let heard = on_wires end.lag l.from_device in
    rtu-rests cut (suc gap) down end.waits ticks heard l.to_device before fits
    (is.given ∙ ap (λ z. gated z end.waits at_rest ticks heard) side) long

pub returns-clause-hunters : goal.returns-clause-hunters
returns-clause-hunters c first second rules zero = λ down end l before is side some fits long.
    absurd (omega arith)
returns-clause-hunters c first second rules (suc cut) = λ down end l before is side some fits long.
    let ticks = on_wires end.late (received_line end.incoming rules end.got_floor l.from_link) in
    let heard = on_wires end.lag l.from_device in
    hunter-rests first second rules (suc cut) down end.waits ticks heard l.to_device before fits
    (is.given ∙ ap (λ z. gated z end.waits at_rest ticks heard) side) long
