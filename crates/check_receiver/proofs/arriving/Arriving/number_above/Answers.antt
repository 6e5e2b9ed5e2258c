use Rattle.{byteorder.specs.Endian.big_number, check_receiver.proofs.Words.full-mod}
use Rattle.sequence_journal.specs.{Numbers.full_of, declared.numbers.TheConstants.LIMIT}
use Rattle.std.proofs.Common.{◌∙◌, ◌^◌, ap, arith, length}
use Rattle.check_receiver.proofs.arriving.Arriving.number_above.Goals as goal

pub returns-then-bytes : goal.returns-then-bytes
returns-then-bytes g c = λ come.
    let same = ap length c.as_slice-bytes.ensures.value in
    let few = c.if-bytes.true in
    absurd (omega arith)

pub returns : goal.returns
returns g c = λ come.
    c.full_with.ensures.value
    ∙ (full-mod LIMIT c.words-words.result c.args.floor c.read_uint-word.result
    c.words-words.ensures.some
    ∙ (ap (λ m. full_of LIMIT m c.args.floor c.read_uint-word.result) c.words-words.ensures.count
    ∙ ap (λ w. full_of LIMIT (256 ^ g.row.B) c.args.floor w)
    (c.read_uint-word.ensures ∙ ap (λ x. big_number g.row.B x) c.as_slice-bytes.ensures.value)))
