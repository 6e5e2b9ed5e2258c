use Rattle.yasir_ticks.proofs.hex_digits.PairLanes.{pairs_of_lanes}
use Rattle.yasir_ticks.proofs.hex_digits.pairs.decode_front.Goals as goal

pub returns-clause-decoded : goal.returns-clause-decoded
returns-clause-decoded c =
    pairs_of_lanes c.args.text.now _ _ _ _ _ _ _ _ c.joined.result c.low_lanes.result
    c.load-a.ensures c.load-b.ensures c.firsts.ensures c.seconds.ensures c.values-high.ensures
    c.values-low.ensures c.greater.ensures c.raised.ensures c.joined.ensures
    c.low_lanes.ensures.within c.low_lanes.ensures.low c.requires
