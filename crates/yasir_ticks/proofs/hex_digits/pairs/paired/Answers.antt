use Rattle.std.proofs.{Common.w8, lemmas.Simd.below_from_Fits}
use Rattle.yasir_ticks.proofs.hex_digits.FullLanes.{words_joined}
use Rattle.yasir_ticks.proofs.hex_digits.pairs.paired.Goals as goal

pub returns-clause-each : goal.returns-clause-each
returns-clause-each c = λ k h.
    words_joined c.args.values k c.fits-values.0 (below_from_Fits w8 c.args.values c.fits-values.1)
    c.requires h
