use Rattle.yasir_ticks.{proofs.Windows.bytes-come, specs.DelayRing.marked_ticks}
use Rattle.std.proofs.Common.{◌≡◌, ◌∙◌, ◌+◌, ◌-◌, ◌++◌, sym, ap, arith, length, take, drop, map}
use Rattle.std.proofs.Common.{append_assoc, replicate, List, ℕ}
use Rattle.std.proofs.lemmas.List.{replicate-append-replicate}
use Rattle.yasir_ticks.specs.declared.tick.Tick.TheVariants.{Byte}
use Rattle.yasir_ticks.proofs.delay_ring.DelayRing.pass_bytes.Goals as goal

pub returns : goal.returns
returns g c =
    let ring = c.make_room.new.self in
    let bytes = ring.byte_room in
    let marks = ring.mark_room in
    let within = ring.within in
    let few = c.requires in
    let x : List ℕ = c.args.bytes.now in
    let k : ℕ = length x in
    let place : ℕ = ring.oldest + g.row.D in
    let front : List ℕ = take place ring.marks in
    let behind : List ℕ = drop (place + 64) ring.marks in
    let last : List ℕ = replicate (64 - k) 1 ++ behind in
    let sum : 64 ≡ k + (64 - k) = omega arith in
    let is : c.overwrite-2.new.places ≡ front ++ (replicate k 1 ++ last) =
    c.overwrite-2.ensures
    ∙ (ap (λ j. front ++ (replicate j 1 ++ behind)) sum
    ∙ (ap (λ z. front ++ (z ++ behind)) (sym (replicate-append-replicate k (64 - k) 1))
    ∙ ap (λ z. front ++ z) (append_assoc (replicate k 1) (replicate (64 - k) 1) behind))) in
    let rest : List ℕ = drop (place + k) ring.bytes in
    ap (λ b. take g.row.D (drop (ring.oldest + k) (marked_ticks b c.overwrite-2.new.places)))
    c.overwrite.ensures
    ∙ (ap (λ m. take g.row.D (drop (ring.oldest + k) (marked_ticks
    (take place ring.bytes ++ (x ++ rest)) m))) is
    ∙ (bytes-come g.row.D ring.oldest ring.bytes ring.marks (bytes ∙ sym marks) (omega arith) x rest
    last
    ∙ ap (λ l. drop k (l ++ map (λ b. Byte b) x)) c.make_room.ensures.ticks))
