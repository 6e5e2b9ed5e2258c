use Rattle.std.proofs.Common.{refl, subst, sym}
use Rattle.live_line.proofs.Parts.{adds_free, adds_lf, begins_line, parted_some, parted_none}
use Rattle.live_line.specs.WayText.{AddsByte}
use Rattle.live_line.proofs.ways.Ways.next.Goals as goal

pub returns-then-byte-eq10-clause-parts : goal.returns-then-byte-eq10-clause-parts
returns-then-byte-eq10-clause-parts c = λ stream has.
    let begun = parted_some _ stream c.in-Some.way c.in-Some.is has in
    subst (AddsByte _ c.in-Some.way stream) (sym c.if-byte-eq10.true)
    (adds_lf _ _ c.in-Some.way stream begun.0 has begun.1 refl c.saturating_add-self.ensures)

pub returns-else-byte-eq10-clause-parts : goal.returns-else-byte-eq10-clause-parts
returns-else-byte-eq10-clause-parts c = λ stream has.
    let begun = parted_some _ stream c.in-Some.way c.in-Some.is has in
    adds_free _ _ c.in-Some.way stream begun.0 has begun.1 c.args.byte c.if-byte-eq10.false
    c.in-Some.is refl

pub returns-in-Ok-clause-parts : goal.returns-in-Ok-clause-parts
returns-in-Ok-clause-parts c = λ stream has. begins_line _ _ c.in-Ok.way stream c.args.byte has
    (parted_none _ stream c.in_default.is has) c.in-Ok.ensures.ok refl refl
