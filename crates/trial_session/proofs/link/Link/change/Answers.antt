use Rattle.{yasir_ticks.specs.DelayRing.marked_ticks, std.proofs.Common.◌∙◌, std.proofs.Common.ap}
use Rattle.std.{proofs.Common.slice_set, proofs.Common.sym, specs.Prelude.slice_index_or}
use Rattle.trial_session.proofs.{Behind.all-marked, Marked.byte-changed, Marked.silence-changed}
use Rattle.trial_session.specs.Alterations.{changed}
use Rattle.yasir_ticks.specs.declared.tick.Tick.TheVariants.{Silent}
use Rattle.trial_session.proofs.link.Link.change.Goals as goal

pub returns-then-self-place-eq0-clause-sent : goal.returns-then-self-place-eq0-clause-sent
returns-then-self-place-eq0-clause-sent c =
    let link = c.mark_all.new.self in
    let place = c.args.place in
    let all = c.mark_all.ensures.marked in
    all-marked link.marked link.len _ all
    ∙ silence-changed link.len link.bytes link.marks link.byte_room link.mark_room
    (c.mark_all.ensures.len ∙ c.requires.whole) place c.args.value c.requires.within
    c.if-self-place-eq0.true
    ∙ ap (λ l. slice_set l place (changed c.args.value (slice_index_or l place Silent)))
    (sym (all-marked link.marked link.len (marked_ticks link.bytes link.marks) all)
    ∙ c.mark_all.ensures.sent)

pub returns-else-self-place-eq0-clause-sent : goal.returns-else-self-place-eq0-clause-sent
returns-else-self-place-eq0-clause-sent c =
    let link = c.mark_all.new.self in
    let place = c.args.place in
    let all = c.mark_all.ensures.marked in
    all-marked link.marked link.len _ all
    ∙ byte-changed link.len link.bytes link.marks link.byte_room link.mark_room
    (c.mark_all.ensures.len ∙ c.requires.whole) place c.args.value c.requires.within
    c.if-self-place-eq0.false
    ∙ ap (λ l. slice_set l place (changed c.args.value (slice_index_or l place Silent)))
    (sym (all-marked link.marked link.len (marked_ticks link.bytes link.marks) all)
    ∙ c.mark_all.ensures.sent)
