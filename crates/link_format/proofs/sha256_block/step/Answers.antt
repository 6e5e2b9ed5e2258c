use Rattle.link_format.proofs.Sha256Blocks.{rounds_step}
use Rattle.link_format.specs.Sha256Words.{round_constant}
use Rattle.std.proofs.Common.{slice_index, arith}
use Rattle.link_format.proofs.sha256_block.step.Goals as goal

pub returns : goal.returns
returns c = λ words h keyed held.
    rounds_step h words c.args.v c.args.t _ held
    (c.round.ensures (round_constant c.args.t) (slice_index words c.args.t)
    (keyed.is c.args.t (omega arith)))
