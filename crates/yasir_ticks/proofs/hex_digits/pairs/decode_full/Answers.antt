use Rattle.std.proofs.Common.{◌∙◌, ap, Ok, sym}
use Rattle.yasir_ticks.{proofs.hex_digits.FullLanes.full_decoded, specs.HexDigits.lane_value}
use Rattle.yasir_ticks.proofs.hex_digits.pairs.decode_full.Goals as goal

pub returns : goal.returns
returns c =
    full_decoded c.args.text.now c.values-a.result c.values-b.result c.paired.result
    c.paired-2.result
    (λ k h. c.values-a.ensures.each k h ∙ ap lane_value (c.load.ensures.each k h))
    (λ k h. c.values-b.ensures.each k h ∙ ap lane_value (c.load-2.ensures.each k h))
    (c.all_digits.ensures c.if-not-all_digits.false)
    c.paired.ensures.long c.paired-2.ensures.long c.paired.ensures.each c.paired-2.ensures.each
    c.requires ∙ ap Ok (sym c.together.ensures)
