use Rattle.link_format.proofs.Sha256Blocks.{rounds_at}
use Rattle.sha2.specs.Sha256.{add_state, rounds}
use Rattle.std.proofs.Common.{◌*◌, ap, refl, arith}
use Rattle.link_format.proofs.sha256_block.run_rounds.Goals as goal

pub groups-init : goal.groups-init
unfolding rounds
groups-init c = λ words keyed. refl

pub groups-preserved : goal.groups-preserved
groups-preserved c = λ words keyed.
    rounds_at c.args.state.now words _ _ _ (omega arith)
    (c.eight_steps-v.ensures words c.args.state.now keyed (c.groups.invariant words keyed))

pub returns : goal.returns
returns c = λ words keyed.
    ap (add_state c.args.state.now)
    (rounds_at c.args.state.now words c.groups.v (8 * c.groups.group) 64 (omega arith)
    (c.groups.invariant words keyed))
