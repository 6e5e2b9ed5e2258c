use Rattle.line_commands.proofs.OverInput.{no_stop}
use Rattle.line_commands.proofs.SpaceEnds.{room_at_end, drives_stopped, drives_all, drives_failed}
use Rattle.line_commands.specs.DrivenLines.{DrivesLines}
use Rattle.std.proofs.Common.{subst, sym}
use Rattle.line_commands.proofs.space_command.drive_lines.Goals as goal

pub write_rest-requires : goal.write_rest-requires
write_rest-requires g c = room_at_end g.B.LineSpacer g.O.Sink g.L.Sink _ _ c.args.lines.now
    c.drive_to_rest-end.new.consumer c.drive_to_rest-end.result (no_stop c.drive_to_rest-end.result c.in_default.not-Stopped)
    c.drive_to_rest-end.ensures.driven

pub returns-in-Stopped-clause-driven : goal.returns-in-Stopped-clause-driven
returns-in-Stopped-clause-driven g c =
    subst (DrivesLines g.B.LineSpacer g.O.Sink g.L.Sink c.args.lines.now
    c.drive_to_rest-end.new.consumer (g.S.Source.left c.args.input.now)
    (g.S.Source.left c.drive_to_rest-end.new.input)) (sym c.in-Stopped.is)
    (drives_stopped g.B.LineSpacer g.O.Sink g.L.Sink _ _ c.args.lines.now
    c.drive_to_rest-end.new.consumer c.in-Stopped.field-0 c.in-Stopped.ensures.driven)

pub returns-in-Ok-clause-driven : goal.returns-in-Ok-clause-driven
returns-in-Ok-clause-driven g c =
    drives_all g.B.LineSpacer g.O.Sink g.L.Sink _ _ c.args.lines.now
    c.drive_to_rest-end.new.consumer _ c.drive_to_rest-end.result (no_stop c.drive_to_rest-end.result c.in_default.not-Stopped)
    c.drive_to_rest-end.ensures.driven c.in-Ok.ensures

pub returns-in-Err-clause-driven : goal.returns-in-Err-clause-driven
returns-in-Err-clause-driven g c =
    drives_failed g.B.LineSpacer g.O.Sink g.L.Sink _ _ c.args.lines.now
    c.drive_to_rest-end.new.consumer _ c.drive_to_rest-end.result (no_stop c.drive_to_rest-end.result c.in_default.not-Stopped)
    c.drive_to_rest-end.ensures.driven _ c.in-Err.ensures

pub returns-in-Ok-clause-falls : goal.returns-in-Ok-clause-falls
returns-in-Ok-clause-falls g c = c.drive_to_rest-end.ensures.read.never_falls

pub returns-in-Err-clause-falls : goal.returns-in-Err-clause-falls
returns-in-Err-clause-falls g c = c.drive_to_rest-end.ensures.read.never_falls

pub returns-in-Ok-clause-read : goal.returns-in-Ok-clause-read
returns-in-Ok-clause-read g c = λ other. c.drive_to_rest-end.ensures.read

pub returns-in-Err-clause-read : goal.returns-in-Err-clause-read
returns-in-Err-clause-read g c = λ other. cc
