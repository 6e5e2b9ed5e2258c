use Rattle.yasir_ticks.proofs.{Marks.marked-byte, Windows.front-silent, Windows.ring-at}
use Rattle.std.proofs.Common.{◌≡◌, ◌∙◌, ◌+◌, sym, subst, arith, slice_index_or, ℕ}
use Rattle.yasir_ticks.specs.declared.tick.Tick.TheVariants.{Silent, Byte}
use Rattle.yasir_ticks.proofs.delay_ring.DelayRing.front_silence.Goals as goal

pub returns-then-self-n-ne0-clause-silent : goal.returns-then-self-n-ne0-clause-silent
returns-then-self-n-ne0-clause-silent g c =
    let ring = c.args.self.now in
    let bytes = ring.byte_room in
    let marks = ring.mark_room in
    let within = ring.within in
    let most = c.requires in
    let less = c.loop-n-test.true in
    front-silent g.row.D ring.oldest ring.bytes ring.marks (bytes ∙ sym marks) (omega arith)
    c.loop-n.n (omega arith) c.loop-n.invariant

pub returns-then-self-n-ne0-clause-all : goal.returns-then-self-n-ne0-clause-all
returns-then-self-n-ne0-clause-all g c = λ short is.
    let ring = c.args.self.now in
    let bytes = ring.byte_room in
    let marks = ring.mark_room in
    let within = ring.within in
    let most = c.requires in
    let at = ring-at g.row.D ring.oldest ring.bytes ring.marks (bytes ∙ sym marks) (omega arith)
    c.loop-n.n (omega arith) in
    let byte = marked-byte (slice_index_or ring.bytes (ring.oldest + c.loop-n.n) 0)
    (slice_index_or ring.marks (ring.oldest + c.loop-n.n) 0) c.if-self-n-ne0.true in
    let both : Silent ≡ Byte (slice_index_or ring.bytes (ring.oldest + c.loop-n.n) 0) =
    sym is ∙ (at ∙ byte) in
    cc

pub returns-clause-silent : goal.returns-clause-silent
returns-clause-silent g c =
    let ring = c.args.self.now in
    let bytes = ring.byte_room in
    let marks = ring.mark_room in
    let within = ring.within in
    let end = c.loop-n-test.false in
    front-silent g.row.D ring.oldest ring.bytes ring.marks (bytes ∙ sym marks) (omega arith)
    c.args.most c.requires (λ j less. c.loop-n.invariant j (omega arith))

-- ---- by vectors

pub returns-then-this-le-LANES-clause-silent : goal.returns-then-this-le-LANES-clause-silent
returns-then-this-le-LANES-clause-silent g c =
    let ring = c.args.self.now in
    let bytes = ring.byte_room in
    let marks = ring.mark_room in
    let within = ring.within in
    let most = c.requires in
    let few = c.if-this-le-LANES.true in
    let least = c.min.ensures in
    front-silent g.row.D ring.oldest ring.bytes ring.marks (bytes ∙ sym marks) (omega arith)
    c.min.result (omega arith)
    (λ j less. c.silence_from.ensures.silent j (omega arith) (omega arith))

pub returns-then-this-le-LANES-clause-all : goal.returns-then-this-le-LANES-clause-all
returns-then-this-le-LANES-clause-all g c = λ short is.
    let ring = c.args.self.now in
    let bytes = ring.byte_room in
    let marks = ring.mark_room in
    let within = ring.within in
    let most = c.requires in
    let few = c.if-this-le-LANES.true in
    let least = c.min.ensures in
    let k : ℕ = c.min.result in
    let same : c.silence_from.result ≡ k = omega arith in
    let M : ℕ → Type 0 = λ n. slice_index_or ring.marks (ring.oldest + n) 0 ≡ 0 → ⊥ in
    let some : M k = subst M same (c.silence_from.ensures.byte (omega arith)) in
    let at = ring-at g.row.D ring.oldest ring.bytes ring.marks (bytes ∙ sym marks) (omega arith) k
    (omega arith) in
    let byte = marked-byte (slice_index_or ring.bytes (ring.oldest + k) 0)
    (slice_index_or ring.marks (ring.oldest + k) 0) some in
    let both : Silent ≡ Byte (slice_index_or ring.bytes (ring.oldest + k) 0) =
    sym is ∙ (at ∙ byte) in
    cc
