use Rattle.std.proofs.Common.{◌≡◌, ◌+◌, ◌-◌, ◌*◌, refl, arith}
use Rattle.link_format.{proofs.KeyedWords.keyed_more, proofs.KeyedWords.word_of_four}
use Rattle.link_format.specs.Sha256Words.{round_constant}
use Rattle.sha2.specs.Sha256.{round_constants}
use Rattle.link_format.proofs.sha256_block.write_keyed.Goals as goal

pub returns : goal.returns
returns c = λ words done four.
    let i = c.args.i in
    let width : 4 * i + 4 - 4 * i ≡ 4 = omega arith in
    rw width (keyed_more round_constant words c.args.keyed.now c.args.four c.constants.result i done
    four (omega arith) (rw c.constants.ensures.is refl)
    (λ j lt. word_of_four round_constants c.constants.result (4 * i) j c.constants.ensures lt))
