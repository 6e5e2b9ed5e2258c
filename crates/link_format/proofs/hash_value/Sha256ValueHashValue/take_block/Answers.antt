use Rattle.{link_format.proofs.HashValues.sha256_more, std.proofs.Common.arith}
use Rattle.link_format.proofs.hash_value.Sha256ValueHashValue.take_block.Goals as goal

pub returns : goal.returns
returns c = λ blocks whole after.
    sha256_more c.args.self.now.words _ blocks c.args.block.now whole after (omega arith)
    c.compress.ensures
