use Rattle.yasir_ticks.proofs.{Marks.marked-silent, Windows.front-bytes, Windows.ring-at}
use Rattle.yasir_ticks.specs.DelayRing.{ring_ticks}
use Rattle.std.proofs.Common.{◌≡◌, ◌∙◌, ◌+◌, ◌-◌, sym, ap, arith, length, take, drop, map, ℕ}
use Rattle.std.proofs.{Common.slice_index_or, lemmas.List.length-take-le, lemmas.List.length-drop}
use Rattle.yasir_ticks.specs.declared.tick.Tick.TheVariants.{Silent, Byte}
use Rattle.yasir_ticks.proofs.delay_ring.DelayRing.front_bytes.Goals as goal

pub returns-clause-bytes : goal.returns-clause-bytes
returns-clause-bytes g c =
    let ring = c.args.self.now in
    let bytes = ring.byte_room in
    let marks = ring.mark_room in
    let within = ring.within in
    let most = c.requires in
    let k : ℕ = c.bytes_in_front-count.result in
    let few = c.bytes_in_front-count.ensures.within in
    let is : ring.oldest + k - ring.oldest ≡ k = omega arith in
    let less = length-drop ring.oldest ring.bytes in
    let long : length (take (ring.oldest + k - ring.oldest) (drop ring.oldest ring.bytes)) ≡ k =
    ap (λ j. length (take j (drop ring.oldest ring.bytes))) is
    ∙ length-take-le k (drop ring.oldest ring.bytes) (omega arith) in
    ap (λ j. map (λ b. Byte b) (take j (drop ring.oldest ring.bytes))) is
    ∙ (front-bytes g.row.D ring.oldest ring.bytes ring.marks (bytes ∙ sym marks) (omega arith) k
    (omega arith) c.bytes_in_front-count.ensures.marks
    ∙ ap (λ j. take j (ring_ticks ring)) (sym long))

pub returns-clause-all : goal.returns-clause-all
returns-clause-all g c = λ short.
    let ring = c.args.self.now in
    let bytes = ring.byte_room in
    let marks = ring.mark_room in
    let within = ring.within in
    let most = c.requires in
    let k : ℕ = c.bytes_in_front-count.result in
    let few = c.bytes_in_front-count.ensures.within in
    let is : ring.oldest + k - ring.oldest ≡ k = omega arith in
    let less = length-drop ring.oldest ring.bytes in
    let long : length (take (ring.oldest + k - ring.oldest) (drop ring.oldest ring.bytes)) ≡ k =
    ap (λ j. length (take j (drop ring.oldest ring.bytes))) is
    ∙ length-take-le k (drop ring.oldest ring.bytes) (omega arith) in
    ap (λ j. slice_index_or (ring_ticks ring) j Silent) long
    ∙ (ring-at g.row.D ring.oldest ring.bytes ring.marks (bytes ∙ sym marks) (omega arith) k
    (omega arith)
    ∙ marked-silent (slice_index_or ring.bytes (ring.oldest + k) 0)
    (slice_index_or ring.marks (ring.oldest + k) 0)
    (c.bytes_in_front-count.ensures.all (omega arith)))
