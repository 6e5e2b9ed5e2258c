use Rattle.yasir_ticks.{proofs.Marks.ticks-length, specs.DelayRing.marked_ticks}
use Rattle.{std.proofs.Common.◌∙◌, std.proofs.Common.arith, std.proofs.Common.sym}
use Rattle.trial_session.proofs.Behind.{cut-behind}
use Rattle.trial_session.proofs.link.Link.silence_behind.Goals as goal

pub returns-clause-sent : goal.returns-clause-sent
returns-clause-sent c =
    let link = c.args.self.now in
    let room = ticks-length link.bytes link.marks (link.byte_room ∙ sym link.mark_room) in
    cut-behind link.marked link.len (marked_ticks link.bytes link.marks) link.marked_within
    (omega (arith, room, link.byte_room, link.within)) c.args.place c.min-self.result
    (omega (arith, c.requires.whole, c.requires.within)) c.min-self.ensures
