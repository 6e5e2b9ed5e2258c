use Rattle.{sha1.specs.Sha1.add_state, std.proofs.Common.ap}
use Rattle.link_format.proofs.sha1_block.run_rounds.Goals as goal

pub returns : goal.returns
returns c = λ words keyed.
    ap (add_state c.args.state.now)
    (c.last_rounds.ensures words c.args.state.now keyed (c.first_rounds.ensures words keyed))
