use Rattle.std.proofs.Common.{◌≡◌, ◌+◌, ◌-◌, ◌*◌, refl, arith}
use Rattle.link_format.proofs.{KeyedWords.keyed_more, Sha1Blocks.same_constants}
use Rattle.sha1.specs.Sha1.{round_constant}
use Rattle.link_format.proofs.sha1_block.write_keyed.Goals as goal

pub returns : goal.returns
returns c = λ words done four.
    let width : 4 * c.args.i + 4 - 4 * c.args.i ≡ 4 = omega arith in
    rw width (keyed_more round_constant words c.args.keyed.now c.args.four _ c.args.i done four
    (omega arith) refl (same_constants c.constant.result c.args.i c.constant.ensures))
