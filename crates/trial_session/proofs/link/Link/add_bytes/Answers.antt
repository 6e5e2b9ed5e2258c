use Rattle.yasir_ticks.specs.DelayRing.{marked_ticks}
use Rattle.std.proofs.Common.{◌∙◌, ◌+◌, ◌++◌, ap, arith, length, map, refl, take, drop, sym}
use Rattle.{std.proofs.lemmas.List.take-replicate, trial_session.proofs.Behind.all-marked}
use Rattle.{trial_session.proofs.Marked.bytes-come}
use Rattle.yasir_ticks.specs.declared.tick.Tick.TheVariants.{Byte}
use Rattle.trial_session.proofs.link.Link.add_bytes.Goals as goal

pub returns-clause-sent : goal.returns-clause-sent
returns-clause-sent c =
    let link = c.mark_all.new.self in
    let x = c.args.bytes.now in
    let all = c.mark_all.ensures.marked in
    all-marked (link.len + length x) (link.len + length x)
    (marked_ticks c.overwrite.new.places c.overwrite-2.new.places) refl
    ∙ ap (λ b. take (link.len + length x) (marked_ticks b c.overwrite-2.new.places))
    c.overwrite.ensures
    ∙ ap (λ m. take (link.len + length x) (marked_ticks (take link.len link.bytes
    ++ (x ++ drop (link.len + length x) link.bytes)) m)) c.overwrite-2.ensures
    ∙ bytes-come link.len link.bytes link.marks (link.byte_room ∙ sym link.mark_room)
    (omega (arith, link.byte_room, link.within)) x _ _ _
    (take-replicate (length x) 640 1 (omega (arith, c.requires)))
    ∙ ap (λ l. l ++ map (λ b. Byte b) x)
    (sym (all-marked link.marked link.len (marked_ticks link.bytes link.marks) all)
    ∙ c.mark_all.ensures.sent)
