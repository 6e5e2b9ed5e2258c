use Rattle.line_capture.proofs.Apart.{both_are}
use Rattle.line_capture.proofs.distances.Distances.with.Goals as goal

pub returns : goal.returns
returns c =
    both_are c.args.self.now c.args.other.now _ _ _ _ c.saturating_add.ensures
    c.saturating_add-2.ensures c.saturating_add-3.ensures c.saturating_add-4.ensures
