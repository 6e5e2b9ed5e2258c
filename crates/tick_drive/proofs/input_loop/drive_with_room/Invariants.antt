use Rattle.{std.proofs.Common.◌≡◌, tick_drive.proofs.Driving.Progress}
use Rattle.tick_drive.proofs.input_loop.drive_with_room.Given as goal

abbrev pub invariant-loop-content : goal.invariant-loop-content
invariant-loop-content g l =
    Progress g.C.Consumer.meaning l.marks
    (g.S.Source.left l.fn.input) (g.S.Source.left l.input) l.intake
    l.fn.consumer l.consumer l.ticks
    × (g.S.Source.faults l.input ≡ g.S.Source.faults l.fn.input)

abbrev pub decreases-loop-content : goal.decreases-loop-content
decreases-loop-content g l = l.intake.room
