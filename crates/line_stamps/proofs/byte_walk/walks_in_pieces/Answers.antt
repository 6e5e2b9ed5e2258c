use Rattle.line_stamps.proofs.WalkLaws.{walk-append}
use Rattle.line_stamps.proofs.byte_walk.walks_in_pieces.Goals as goal

pub returns : goal.returns
returns c = λ step from to first second items e. walk-append step from to first second items e
