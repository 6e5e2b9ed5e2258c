use Rattle.station_boxes.proofs.CheckTurns.{never-fails, uses-of}
use Rattle.station_boxes.proofs.checker.StationChecker.take.Goals as goal

pub unwrap-requires : goal.unwrap-requires
unwrap-requires g c = never-fails c.step.result c.step.ensures.journal.cause

pub returns-clause-used : goal.returns-clause-used
returns-clause-used g c =
    uses-of _ _ _ _ _ c.step.result c.step.ensures.journal c.unwrap.result c.unwrap.ensures
