use Rattle.link_format.proofs.KeyedWords.{IsFour_from}
use Rattle.std.proofs.Common.{◌*◌, arith}
use Rattle.sha2.specs.Sha256.{round_constants}
use Rattle.link_format.proofs.sha256_block.constants.Goals as goal

pub returns : goal.returns
returns c = IsFour_from round_constants (4 * c.args.i) (omega arith)
