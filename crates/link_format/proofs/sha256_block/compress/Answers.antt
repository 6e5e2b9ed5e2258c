use Rattle.sha2.specs.Sha256.{compress, schedule}
use Rattle.link_format.proofs.sha256_block.compress.Goals as goal

pub returns : goal.returns
unfolding compress
returns c = c.run_rounds.ensures (schedule c.args.block.now 48) c.keyed_schedule.ensures
