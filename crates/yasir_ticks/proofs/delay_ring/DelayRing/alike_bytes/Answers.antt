use Rattle.yasir_ticks.proofs.{Marks.marked-silent, Windows.alike-bytes, Windows.ring-at}
use Rattle.yasir_ticks.specs.DelayRing.{ring_ticks}
use Rattle.std.proofs.Common.{◌≡◌, ◌∙◌, ◌+◌, ◌-◌, sym, ap, arith, length, take, drop, map, ℕ}
use Rattle.std.proofs.Common.{[], slice_index_or}
use Rattle.std.proofs.lemmas.List.{length-take-le, length-drop}
use Rattle.yasir_ticks.specs.declared.tick.Tick.TheVariants.{Silent, Byte}
use Rattle.yasir_ticks.proofs.delay_ring.DelayRing.alike_bytes.Goals as goal

pub returns-then-self-oldest-eq0-clause-bytes : goal.returns-then-self-oldest-eq0-clause-bytes
returns-then-self-oldest-eq0-clause-bytes g c =
    let ring = c.args.self.now in
    let none : ring.oldest - ring.oldest ≡ 0 = omega arith in
    let empty : take (ring.oldest - ring.oldest) (drop ring.oldest ring.bytes) ≡ [] =
    ap (λ j. take j (drop ring.oldest ring.bytes)) none in
    ap (λ x. map (λ b. Byte b) x) empty ∙ sym (ap (λ x. take (length x) (ring_ticks ring)) empty)

pub returns-then-self-oldest-eq0-clause-all : goal.returns-then-self-oldest-eq0-clause-all
returns-then-self-oldest-eq0-clause-all g c = λ short.
    let ring = c.args.self.now in
    let bytes = ring.byte_room in
    let marks = ring.mark_room in
    let within = ring.within in
    let some = ring.some in
    let none : ring.oldest - ring.oldest ≡ 0 = omega arith in
    let empty : length (take (ring.oldest - ring.oldest) (drop ring.oldest ring.bytes)) ≡ 0 =
    ap (λ j. length (take j (drop ring.oldest ring.bytes))) none in
    let at : ring.oldest + 0 ≡ ring.oldest = omega arith in
    ap (λ j. slice_index_or (ring_ticks ring) j Silent) empty
    ∙ (ring-at g.row.D ring.oldest ring.bytes ring.marks (bytes ∙ sym marks) (omega arith) 0
    (omega arith)
    ∙ marked-silent (slice_index_or ring.bytes (ring.oldest + 0) 0)
    (slice_index_or ring.marks (ring.oldest + 0) 0)
    (ap (λ i. slice_index_or ring.marks i 0) at ∙ c.if-self-oldest-eq0.true))

pub returns-clause-bytes : goal.returns-clause-bytes
returns-clause-bytes g c =
    let ring = c.args.self.now in
    let bytes = ring.byte_room in
    let marks = ring.mark_room in
    let within = ring.within in
    let most = c.requires.within in
    let k : ℕ = c.args.count in
    let is : ring.oldest + k - ring.oldest ≡ k = omega arith in
    let less = length-drop ring.oldest ring.bytes in
    let long : length (take (ring.oldest + k - ring.oldest) (drop ring.oldest ring.bytes)) ≡ k =
    ap (λ j. length (take j (drop ring.oldest ring.bytes))) is
    ∙ length-take-le k (drop ring.oldest ring.bytes) (omega arith) in
    ap (λ j. map (λ b. Byte b) (take j (drop ring.oldest ring.bytes))) is
    ∙ (alike-bytes g.row.D ring.oldest ring.bytes ring.marks (bytes ∙ sym marks) (omega arith) k
    most c.requires.alike c.if-self-oldest-eq0.false
    ∙ ap (λ j. take j (ring_ticks ring)) (sym long))

pub returns-clause-all : goal.returns-clause-all
returns-clause-all g c = λ short.
    let ring = c.args.self.now in
    let bytes = ring.byte_room in
    let within = ring.within in
    let most = c.requires.within in
    let k : ℕ = c.args.count in
    let is : ring.oldest + k - ring.oldest ≡ k = omega arith in
    let less = length-drop ring.oldest ring.bytes in
    let long : length (take (ring.oldest + k - ring.oldest) (drop ring.oldest ring.bytes)) ≡ k =
    ap (λ j. length (take j (drop ring.oldest ring.bytes))) is
    ∙ length-take-le k (drop ring.oldest ring.bytes) (omega arith) in
    absurd (omega arith)
