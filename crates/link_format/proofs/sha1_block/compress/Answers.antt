use Rattle.sha1.specs.Sha1.{compress, schedule}
use Rattle.link_format.proofs.sha1_block.compress.Goals as goal

pub returns : goal.returns
unfolding compress
returns c = c.run_rounds.ensures (schedule c.args.block.now 64) c.keyed_schedule.ensures
