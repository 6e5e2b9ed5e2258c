use Rattle.link_format.proofs.Sha1Blocks.{rounds_step}
use Rattle.sha1.{proofs.Schedule.round_fn_choose, specs.Sha1.round_constant}
use Rattle.std.proofs.Common.{◌∙◌, slice_index, sym, arith}
use Rattle.link_format.proofs.sha1_block.choose_step.Goals as goal

pub returns : goal.returns
returns c = λ words h keyed held.
    let v = c.args.v in
    rounds_step h words v c.args.t _ _ held
    (c.choose.ensures ∙ sym (round_fn_choose c.args.t (slice_index v 1) (slice_index v 2)
    (slice_index v 3) (omega arith)))
    (c.round.ensures (round_constant c.args.t) (slice_index words c.args.t)
    (keyed.is c.args.t (omega arith)))
