use Rattle.yasir_ticks.proofs.{Marks.ticks-length, Windows.front-silent}
use Rattle.yasir_ticks.specs.DelayRing.{marked_ticks}
use Rattle.std.proofs.Common.{◌≡◌, ◌∙◌, ◌-◌, ap, arith, take, drop, length, sym}
use Rattle.std.proofs.lemmas.List.{length-take-le, length-drop}
use Rattle.trial_session.proofs.{Behind.in-front, Marked.from-place, Marked.mark-at}
use Rattle.trial_session.proofs.link.Link.silence_from.Goals as goal

pub returns-clause-silent : goal.returns-clause-silent
returns-clause-silent c =
    let link = c.args.self.now in
    let at = c.args.at in
    let r = c.silence_in_front.result in
    let n = link.marked - at in
    let behind = length-drop at link.marks in
    let room = ticks-length link.bytes link.marks (link.byte_room ∙ sym link.mark_room) in
    let long : length (take n (drop at link.marks)) ≡ n =
    length-take-le n (drop at link.marks)
    (omega (arith, behind, link.mark_room, link.within, link.marked_within)) in
    let within = c.silence_in_front.ensures.within in
    in-front link.marked link.len (marked_ticks link.bytes link.marks) link.marked_within
    (omega (arith, room, link.byte_room, link.within)) at r
    (omega (arith, within, long, c.requires))
    ∙ ap (take r) (from-place link.marked link.bytes link.marks link.byte_room link.mark_room at
    (omega (arith, c.requires)))
    ∙ front-silent n at link.bytes link.marks (link.byte_room ∙ sym link.mark_room)
    (omega (arith, c.requires, link.byte_room, link.within, link.marked_within)) r
    (omega (arith, within, long))
    (λ j less. sym (mark-at n at j link.marks (omega (arith, within, long, less)))
    ∙ c.silence_in_front.ensures.silent j less)
