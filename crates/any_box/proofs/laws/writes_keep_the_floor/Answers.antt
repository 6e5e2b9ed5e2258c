use Rattle.any_box.proofs.Written.{written-slots, written-floor, torn-floor}
use Rattle.any_box.proofs.laws.writes_keep_the_floor.Goals as goal

pub returns-clause-written : goal.returns-clause-written
returns-clause-written c old new t step commit steps is = (
  written-slots _ old new t step commit steps is,
  written-floor _ old new t step commit steps is,
)

pub returns-clause-torn : goal.returns-clause-torn
returns-clause-torn c old new t step commit bytes steps is =
    torn-floor _ old new t step commit steps is bytes
