use Rattle.yasir_ticks.{proofs.Windows.cleared, specs.DelayRing.marked_ticks}
use Rattle.std.proofs.Common.{◌≡◌, ◌∙◌, ◌+◌, ◌++◌, sym, ap, arith, subst, length, take, drop}
use Rattle.std.proofs.{Common.replicate, Common.List, Common.ℕ, lemmas.List.take-replicate}
use Rattle.{std.proofs.lemmas.List.length-take-le, yasir_ticks.specs.Ticks.silent}
use Rattle.yasir_ticks.proofs.delay_ring.DelayRing.clear.Goals as goal

pub returns : goal.returns
returns g c =
    let ring = c.args.self.now in
    let bytes = ring.byte_room in
    let marks = ring.mark_room in
    let within = ring.within in
    let behind : List ℕ =
    drop (ring.oldest + length (take g.row.D (replicate 64 0))) ring.marks in
    let is : c.overwrite.new.places
    ≡ take ring.oldest ring.marks ++ (replicate g.row.D 0 ++ behind) =
    c.overwrite.ensures ∙ ap (λ z. take ring.oldest ring.marks ++ (z ++ behind))
    (take-replicate g.row.D 64 0 ring.fits) in
    let P : List ℕ → Type 0 = λ m.
    take g.row.D (drop ring.oldest (marked_ticks ring.bytes m)) ≡ silent g.row.D in
    subst P (sym is) (cleared g.row.D ring.oldest ring.bytes ring.marks (bytes ∙ sym marks)
    (omega arith) (take ring.oldest ring.marks) behind
    (length-take-le ring.oldest ring.marks (omega arith)))
