use Rattle.std.proofs.Common.{◌∙◌, sym, arith, slice_index_or}
use Rattle.yasir_ticks.proofs.Marks.{ticks-at, marked-silent, marked-byte}
use Rattle.yasir_ticks.proofs.delay_ring.DelayRing.tick_at.Goals as goal

pub returns-then-self-place-eq0 : goal.returns-then-self-place-eq0
returns-then-self-place-eq0 g c =
    let ring = c.args.self.now in
    let bytes = ring.byte_room in
    let marks = ring.mark_room in
    let within = c.requires in
    sym (ticks-at ring.bytes ring.marks c.args.place (omega arith) (omega arith)
    ∙ marked-silent (slice_index_or ring.bytes c.args.place 0)
    (slice_index_or ring.marks c.args.place 0) c.if-self-place-eq0.true)

pub returns-else-self-place-eq0 : goal.returns-else-self-place-eq0
returns-else-self-place-eq0 g c =
    let ring = c.args.self.now in
    let bytes = ring.byte_room in
    let marks = ring.mark_room in
    let within = c.requires in
    sym (ticks-at ring.bytes ring.marks c.args.place (omega arith) (omega arith)
    ∙ marked-byte (slice_index_or ring.bytes c.args.place 0)
    (slice_index_or ring.marks c.args.place 0) c.if-self-place-eq0.false)
