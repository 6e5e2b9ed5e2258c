use Rattle.std.proofs.Common.{◌∙◌, ap, arith, length, drop, bytes_eq}
use Rattle.std.proofs.lemmas.List.{take_rest}
use Rattle.check_receiver.proofs.arriving.Arriving.has_tag.Goals as goal

pub returns-then-bytes : goal.returns-then-bytes
returns-then-bytes g c = λ come.
    let same = ap length c.as_slice-bytes.ensures.value in
    let few = c.if-bytes.true in
    absurd (omega arith)

pub returns : goal.returns
returns g c = λ come.
    c.are_same.ensures
    ∙ (ap (λ x. bytes_eq x c.as_slice.result.now)
    (take_rest c.as_slice-bytes.result.now g.row.B)
    ∙ (ap (λ x. bytes_eq (drop g.row.B x) c.as_slice.result.now)
    c.as_slice-bytes.ensures.value
    ∙ ap (λ x. bytes_eq (drop g.row.B c.args.self.now.bytes.items) x)
    c.as_slice.ensures.value))
