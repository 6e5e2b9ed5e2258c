use Rattle.std.proofs.Common.{◌∙◌, sym, arith}
use Rattle.yasir_ticks.proofs.Windows.{one-comes}
use Rattle.yasir_ticks.proofs.delay_ring.DelayRing.put.Goals as goal

pub returns : goal.returns
returns g c =
    let ring = c.args.self.now in
    let room = c.requires in
    let bytes = ring.byte_room in
    let marks = ring.mark_room in
    one-comes g.row.D ring.oldest ring.bytes ring.marks (bytes ∙ sym marks) (omega arith)
    c.args.byte c.args.mark ring.some (omega arith)
