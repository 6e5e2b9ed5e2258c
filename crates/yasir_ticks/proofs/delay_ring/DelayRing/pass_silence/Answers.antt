use Rattle.yasir_ticks.{proofs.Windows.silence-comes, specs.DelayRing.marked_ticks}
use Rattle.std.proofs.Common.{◌≡◌, ◌∙◌, ◌+◌, ◌-◌, ◌++◌, sym, ap, arith, take, drop}
use Rattle.std.proofs.Common.{append_assoc, replicate, List, ℕ}
use Rattle.{std.proofs.lemmas.List.replicate-append-replicate, yasir_ticks.specs.Ticks.silent}
use Rattle.yasir_ticks.proofs.delay_ring.DelayRing.pass_silence.Goals as goal

pub returns : goal.returns
returns g c =
    let ring = c.make_room.new.self in
    let bytes = ring.byte_room in
    let marks = ring.mark_room in
    let within = ring.within in
    let room = c.make_room.ensures.room in
    let few = c.requires in
    let k : ℕ = c.args.ticks in
    let place : ℕ = ring.oldest + g.row.D in
    let front : List ℕ = take place ring.marks in
    let behind : List ℕ = drop (place + 64) ring.marks in
    let last : List ℕ = replicate (64 - k) 0 ++ behind in
    let sum : 64 ≡ k + (64 - k) = omega arith in
    let is : c.overwrite.new.places ≡ front ++ (replicate k 0 ++ last) =
    c.overwrite.ensures
    ∙ (ap (λ j. front ++ (replicate j 0 ++ behind)) sum
    ∙ (ap (λ z. front ++ (z ++ behind)) (sym (replicate-append-replicate k (64 - k) 0))
    ∙ ap (λ z. front ++ z) (append_assoc (replicate k 0) (replicate (64 - k) 0) behind))) in
    ap (λ m. take g.row.D (drop (ring.oldest + k) (marked_ticks ring.bytes m))) is
    ∙ (silence-comes g.row.D ring.oldest ring.bytes ring.marks (bytes ∙ sym marks) (omega arith) k
    last (omega arith)
    ∙ ap (λ l. drop k (l ++ silent k)) c.make_room.ensures.ticks)
