use Rattle.yasir_ticks.{proofs.Marks.ticks-length, proofs.Windows.front-bytes}
use Rattle.yasir_ticks.specs.DelayRing.{marked_ticks}
use Rattle.std.proofs.Common.{◌≡◌, ◌∙◌, ◌-◌, ◌+◌, ap, arith, take, drop, length, sym, map}
use Rattle.std.proofs.lemmas.List.{length-take-le, length-drop}
use Rattle.trial_session.proofs.{Behind.in-front, Marked.from-place, Marked.mark-at}
use Rattle.trial_session.specs.Links.{link_sent}
use Rattle.yasir_ticks.specs.declared.tick.Tick.TheVariants.{Byte}
use Rattle.trial_session.proofs.link.Link.bytes_from.Goals as goal

pub returns-clause-bytes : goal.returns-clause-bytes
returns-clause-bytes c =
    let link = c.args.self.now in
    let at = c.args.at in
    let k = c.bytes_in_front-count.result in
    let n = link.marked - at in
    let marks_behind = length-drop at link.marks in
    let behind = length-drop at link.bytes in
    let room = ticks-length link.bytes link.marks (link.byte_room ∙ sym link.mark_room) in
    let long : length (take n (drop at link.marks)) ≡ n =
    length-take-le n (drop at link.marks)
    (omega (arith, marks_behind, link.mark_room, link.within, link.marked_within)) in
    let few = c.bytes_in_front-count.ensures.within in
    let same : at + k - at ≡ k = omega arith in
    let size : length (take (at + k - at) (drop at link.bytes)) ≡ k =
    ap (λ i. length (take i (drop at link.bytes))) same
    ∙ length-take-le k (drop at link.bytes)
    (omega (arith, behind, few, long, link.byte_room, link.within, link.marked_within)) in
    ap (λ i. take i (drop at (link_sent link))) size
    ∙ in-front link.marked link.len (marked_ticks link.bytes link.marks) link.marked_within
    (omega (arith, room, link.byte_room, link.within)) at k
    (omega (arith, few, long, c.requires))
    ∙ ap (take k) (from-place link.marked link.bytes link.marks link.byte_room link.mark_room at
    (omega (arith, c.requires)))
    ∙ sym (front-bytes n at link.bytes link.marks (link.byte_room ∙ sym link.mark_room)
    (omega (arith, c.requires, link.byte_room, link.within, link.marked_within)) k
    (omega (arith, few, long))
    (λ j less none. c.bytes_in_front-count.ensures.bytes j less
    (mark-at n at j link.marks (omega (arith, few, long, less)) ∙ none)))
    ∙ ap (λ i. map (λ b. Byte b) (take i (drop at link.bytes))) (sym same)
