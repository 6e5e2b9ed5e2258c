use Rattle.std.proofs.Common.{arith, drop}
use Rattle.line_rules.proofs.CrcSlices.{crc-slice, crc-slices-none, crc-slices-all, crc-at_once}
use Rattle.line_rules.proofs.crc_tables.crc_at_once.Goals as goal

pub loop-place-init : goal.loop-place-init
loop-place-init g c = crc-slices-none g.row.POLY (drop 2 c.args.bytes.now)

pub loop-place-preserved : goal.loop-place-preserved
loop-place-preserved g c =
    crc-slice g.row.POLY c.args.bytes.now c.loop-place.place c.loop-place.behind _ _ (omega arith)
    c.shifted-behind.ensures c.loop-place.invariant

pub returns : goal.returns
returns g c =
    crc-at_once g.row.POLY c.args.r c.args.bytes.now c.loop-place.behind _ _ (omega arith)
    (omega arith) (omega arith)
    (crc-slices-all g.row.POLY c.args.bytes.now c.loop-place.place c.loop-place.behind _
    (omega arith) c.loop-place.invariant)
    c.shifted.ensures c.shifted-2.ensures
