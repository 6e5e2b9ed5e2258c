use Rattle.link_box.specs.Verdicts.{checked}
use Rattle.receiver_laws.specs.Reflected.{with_tags}
use Rattle.std.proofs.Common.{◌≡◌, ℕ, sym, subst, length}
use Rattle.yasir_ticks.specs.Bursts.{bursts}
use Rattle.stations.proofs.{Numbering.checks-number, Numbering.seals-number}
use Rattle.stations.proofs.Strangers.{floor-none, no-frames, checks-spent, seals-spent, keyless}
use Rattle.stations.specs.Shared.{at_floors, sealing_box, checking_box, station_state}
use Rattle.stations.specs.Table.{table_floor}
use Rattle.stations.proofs.laws.names_without_an_entry_are_refused.Goals as goal

pub returns-clause-seals : goal.returns-clause-seals
returns-clause-seals g c = λ profile station table i line none.
    let rules = g.R.LineRules.rules in
    no-frames station rules (sealing_box profile rules) (seals-number profile rules) profile.limit
    (seals-spent profile rules) i (length line) (at_floors (table_floor profile.limit table))
    (bursts line) (floor-none profile.limit table i none)

pub returns-clause-passes : goal.returns-clause-passes
returns-clause-passes g c = λ profile station table i link none.
    let rules = g.R.LineRules.rules in
    no-frames station rules (checking_box profile rules) (checks-number profile rules) profile.limit
    (checks-spent profile rules) i (length link) (at_floors (table_floor profile.limit table))
    (bursts link) (floor-none profile.limit table i none)

pub returns-clause-keyless : goal.returns-clause-keyless
returns-clause-keyless g c = λ profile other table i from d none.
    let rules = g.R.LineRules.rules in
    let P : ℕ → Type 0 = λ floor. checked (with_tags profile other) rules (station_state floor from) d
    ≡ checked profile rules (station_state floor from) d in
    subst P (sym (floor-none profile.limit table i none)) (keyless profile rules other from d)
