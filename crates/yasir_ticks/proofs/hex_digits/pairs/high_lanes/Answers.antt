use Rattle.std.proofs.Common.{◌≡◌, ◌↔◌, ◌≤◌, get_or, sym, subst, arith}
use Rattle.std.specs.Int.{bit_at}
use Rattle.memchr.proofs.lemmas.LaneLemmas.{bit_at-mask_l, top_bitmask}
use Rattle.yasir_ticks.proofs.hex_digits.pairs.high_lanes.Goals as goal

pub returns-clause-bits : goal.returns-clause-bits
returns-clause-bits c = λ k.
    subst (λ m. (bit_at m k ≡ 1) ↔ (128 ≤ get_or c.args.v k 0))
    (sym (top_bitmask c.args.v 32 c.fits-v.0 (omega arith))) (bit_at-mask_l c.args.v k)
