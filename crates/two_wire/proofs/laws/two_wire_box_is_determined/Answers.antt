use Rattle.std.proofs.Common.{◌≡◌, ℕ, ◌-◌, suc, arith}
use Rattle.two_wire.proofs.Determined.{same-device, same-link}
use Rattle.two_wire.proofs.laws.two_wire_box_is_determined.Goals as goal

pub returns-clause-device : goal.returns-clause-device
returns-clause-device g c = λ end v w later timely one two device_same link_same.
    let late : ℕ = end.late - 1 in
    let late_is : end.late ≡ suc late = omega arith in
    same-device g.R.LineRules.rules g.R.LineRules.lawful g.R.LineRules.headed late end late_is
    timely v w one two device_same link_same

pub returns-clause-link : goal.returns-clause-link
returns-clause-link g c = λ end v w later timely one two device_same link_same.
    let late : ℕ = end.late - 1 in
    let late_is : end.late ≡ suc late = omega arith in
    same-link g.R.LineRules.rules g.R.LineRules.lawful g.R.LineRules.headed late end late_is
    timely v w one two device_same link_same
