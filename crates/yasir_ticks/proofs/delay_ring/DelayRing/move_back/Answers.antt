use Rattle.yasir_ticks.{proofs.Windows.moved, specs.DelayRing.marked_ticks}
use Rattle.std.proofs.Common.{◌∙◌, ◌++◌, sym, ap, arith, take, drop}
use Rattle.yasir_ticks.proofs.delay_ring.DelayRing.move_back.Goals as goal

pub returns-clause-ticks : goal.returns-clause-ticks
returns-clause-ticks g c =
    let ring = c.args.self.now in
    let bytes = ring.byte_room in
    let marks = ring.mark_room in
    let within = ring.within in
    ap (λ b. take g.row.D (drop 0 (marked_ticks b c.move_to_front-2.new.places)))
    c.move_to_front.ensures
    ∙ (ap (λ m. take g.row.D (drop 0 (marked_ticks
    (take g.row.D (drop ring.oldest ring.bytes) ++ drop g.row.D ring.bytes) m)))
    c.move_to_front-2.ensures
    ∙ moved g.row.D ring.oldest ring.bytes ring.marks (bytes ∙ sym marks) (omega arith)
    (drop g.row.D ring.bytes) (drop g.row.D ring.marks))
