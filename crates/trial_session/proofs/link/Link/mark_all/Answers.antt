use Rattle.yasir_ticks.specs.DelayRing.{marked_ticks}
use Rattle.std.proofs.Common.{◌≡◌, ◌∙◌, ◌+◌, ◌-◌, ap, arith, refl, take, sym}
use Rattle.{std.proofs.lemmas.List.take-replicate, trial_session.proofs.Behind.all-marked}
use Rattle.trial_session.proofs.Marked.{silence-comes}
use Rattle.trial_session.proofs.link.Link.mark_all.Goals as goal

pub returns-clause-sent : goal.returns-clause-sent
returns-clause-sent c =
    let link = c.args.self.now in
    let k = link.len - link.marked in
    let sum : link.len ≡ link.marked + k = omega (arith, link.marked_within) in
    let marks = c.overwrite.new.places in
    all-marked link.len link.len (marked_ticks link.bytes marks) refl
    ∙ ap (λ n. take n (marked_ticks link.bytes marks)) sum
    ∙ ap (λ m. take (link.marked + k) (marked_ticks link.bytes m)) c.overwrite.ensures
    ∙ silence-comes link.marked link.bytes link.marks (link.byte_room ∙ sym link.mark_room)
    (omega (arith, link.byte_room, link.within, link.marked_within)) k _ _
    (take-replicate k 640 0 (omega (arith, link.within)))
    (omega (arith, link.byte_room, link.within, link.marked_within))
