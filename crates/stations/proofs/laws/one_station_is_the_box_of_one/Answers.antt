use Rattle.frame_ending.specs.{Laid.laid, Walk.notes_before}
use Rattle.std.proofs.Common.{length, ap}
use Rattle.yasir_ticks.specs.Bursts.{bursts}
use Rattle.stations.proofs.{Numbering.checks-number, Numbering.seals-number}
use Rattle.stations.proofs.OneStation.{one-walked, one-emitted}
use Rattle.stations.specs.Shared.{at_floors, sealing_box, checking_box}
use Rattle.stations.proofs.laws.one_station_is_the_box_of_one.Goals as goal

pub returns-clause-seals : goal.returns-clause-seals
returns-clause-seals g c = λ profile floors line.
    let rules = g.R.LineRules.rules in
    let box = sealing_box profile rules in (
      ap (λ notes. notes_before (length line) notes)
          (one-walked rules box (seals-number profile rules) (at_floors floors) (bursts line)),
      ap (λ es. laid (length line) es)
          (one-emitted rules box (seals-number profile rules) (at_floors floors) (bursts line)),
    )

pub returns-clause-checks : goal.returns-clause-checks
returns-clause-checks g c = λ profile floors link.
    let rules = g.R.LineRules.rules in
    let box = checking_box profile rules in (
      ap (λ notes. notes_before (length link) notes)
          (one-walked rules box (checks-number profile rules) (at_floors floors) (bursts link)),
      ap (λ es. laid (length link) es)
          (one-emitted rules box (checks-number profile rules) (at_floors floors) (bursts link)),
    )
