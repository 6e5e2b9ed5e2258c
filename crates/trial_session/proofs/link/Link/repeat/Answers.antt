use Rattle.yasir_ticks.specs.DelayRing.{marked_ticks}
use Rattle.std.proofs.Common.{◌∙◌, ◌++◌, ap, sym, take}
use Rattle.trial_session.proofs.{Behind.all-marked, Marked.repeated}
use Rattle.trial_session.proofs.link.Link.repeat.Goals as goal

pub returns-clause-sent : goal.returns-clause-sent
returns-clause-sent c =
    let link = c.mark_all.new.self in
    let all = c.mark_all.ensures.marked in
    all-marked link.marked link.len _ all
    ∙ ap (λ b. take link.len (marked_ticks b c.repeat_half-2.new.places))
    c.repeat_half.ensures.half
    ∙ ap (λ m. take link.len (marked_ticks (take 320 link.bytes ++ take 320 link.bytes) m))
    c.repeat_half-2.ensures.half
    ∙ repeated link.len link.bytes link.marks link.byte_room link.mark_room
    (c.mark_all.ensures.len ∙ c.requires)
    ∙ ap (λ l. take 320 l ++ take 320 l)
    (sym (all-marked link.marked link.len (marked_ticks link.bytes link.marks) all)
    ∙ c.mark_all.ensures.sent)
