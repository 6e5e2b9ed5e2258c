use Rattle.yasir_ticks.{proofs.Marks.ticks-length, specs.DelayRing.marked_ticks}
use Rattle.std.proofs.Common.{◌≡◌, ◌∙◌, ◌-◌, ap, arith, drop, length, sym, take}
use Rattle.{std.proofs.lemmas.List.length-replicate, trial_session.proofs.Behind.all-behind}
use Rattle.trial_session.specs.Links.{link_sent}
use Rattle.{yasir_ticks.specs.Ticks.silent, yasir_ticks.specs.declared.tick.Tick.TheVariants.Silent}
use Rattle.trial_session.proofs.link.Link.run_from.Goals as goal

pub returns-then-self-at-clause-ticks : goal.returns-then-self-at-clause-ticks
returns-then-self-at-clause-ticks c =
    let link = c.args.self.now in
    let at = c.args.at in
    let room = ticks-length link.bytes link.marks (link.byte_room ∙ sym link.mark_room) in
    let long : length (silent (link.len - at)) ≡ link.len - at =
    length-replicate (link.len - at) Silent in
    ap (λ n. take n (drop at (link_sent link))) long
    ∙ all-behind link.marked link.len (marked_ticks link.bytes link.marks) link.marked_within
    (omega (arith, room, link.byte_room, link.within)) at c.if-self-at.true
    (omega (arith, c.requires))
