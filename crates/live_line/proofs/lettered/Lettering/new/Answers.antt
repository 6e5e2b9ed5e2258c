use Rattle.live_line.proofs.LetteredBytes.{none_put}
use Rattle.live_line.proofs.lettered.Lettering.new.Goals as goal

pub returns : goal.returns
returns c = λ stream closed. none_put c.args.way stream closed
