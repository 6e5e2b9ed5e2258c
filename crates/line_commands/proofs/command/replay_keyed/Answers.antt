use Rattle.line_commands.proofs.{Behind.drives_behind, Floors.disk_cause_of_end}
use Rattle.line_commands.proofs.Outcomes.{BoxDrive, HasDriven, IsRun, is_run, not_whole}
use Rattle.line_commands.proofs.Outcomes.{sink_cause_of_stop, went_then, drive_stops, finish_stops}
use Rattle.line_commands.proofs.Outcomes.{input_of_stop, all_runs, begun_state}
use Rattle.line_commands.specs.BoxLines.{State, state_of_lines, KeepsImages}
use Rattle.line_commands.specs.{OverInput.has_stopped, ReplaysBox.around}
use Rattle.command_ends.proofs.EndCauses.{input_cause}
use Rattle.command_ends.proofs.EndCauses.{sink_cause_of_whole}
use Rattle.command_ends.proofs.FlushLaws.{flushes_of_whole, flushes_of_end}
use Rattle.std.proofs.Common.{◌≡◌, ◌∙◌, ap, refl, sym, true, false, Err, Ok}
use Rattle.tick_drive.specs.declared.end.End.TheVariants.{Stopped}
use Rattle.line_commands.proofs.command.replay_keyed.Goals as goal
use Rattle.line_commands.proofs.command.replay_keyed.Goals.{After-is_stopped}

-- the box, the sinks and the disk when the input had ended, or the box was stopped
abbrev driven_state : (g : _) → After-is_stopped g
    → State g.row.B.Denot g.row.O.Denot g.row.L.Denot g.row.D.Denot
driven_state g c =
    state_of_lines c.lines-2-1.given.0 c.out-1.given.0 c.log-1.given.0 c.disk-1.given.0

-- the drive of the box, and how it was left
abbrev drive : (g : _) → After-is_stopped g
    → State g.row.B.Denot g.row.O.Denot g.row.L.Denot g.row.D.Denot
    → BoxDrive g.row.B.Denot g.row.S.Denot g.row.O.Denot g.row.L.Denot g.row.D.Denot
drive g c last = record {
  link = c.args.link.now;
  key = c.args.key.now;
  dir = c.args.dir;
  journal = c.in-Ok.journal;
  rest = c.args.rest;
  before = around c.args.ends.input.now c.args.ends.out.now c.args.ends.log.now
      c.args.ends.disk.now;
  loaded = c.load.new.disk;
  old = c.new-lines.result;
  last = last.lines;
  ended = around c.drive_to_rest-end.new.input last.out last.log last.disk;
}

driven : (g : _) (c : After-is_stopped g)
    (last : State g.row.B.Denot g.row.O.Denot g.row.L.Denot g.row.D.Denot)
    → HasDriven g.B.LinkBox g.B.LineBox.line_of g.S.Source g.O.Sink g.L.Sink g.D.SlotDisk
    (drive g c last) (driven_state g c) c.drive_to_rest-end.result
driven g c last =
    let made = c.new-driven.ensures in
    drives_behind g.B.LinkBox g.B.LineBox.line_of g.O.Sink g.L.Sink g.D.SlotDisk
    c.new-driven.result c.drive_to_rest-end.new.consumer
    (state_of_lines c.new-lines.result c.args.ends.out.now c.args.ends.log.now c.load.new.disk)
    made.state _ _ _ _ (ap (λ m. m.ghost_name) made.lines) (ap (λ m. m.ghost_name) made.out)
    (ap (λ m. m.ghost_name) made.log) (ap (λ m. m.ghost_name) made.disk)
    c.lines-2-1.given c.out-1.given c.log-1.given c.disk-1.given 0 c.args.rest _ _
    c.drive_to_rest-end.result c.drive_to_rest-end.ensures.driven

run : (g : _) (c : After-is_stopped g)
    (last : State g.row.B.Denot g.row.O.Denot g.row.L.Denot g.row.D.Denot)
    → KeepsImages g.O.Sink g.L.Sink g.D.SlotDisk (begun_state (drive g c last)) last
    → IsRun g.B.LinkBox g.B.LineBox.line_of g.S.Source g.O.Sink g.L.Sink g.D.SlotDisk
    (drive g c last)
run g c last images = is_run g.B.LinkBox g.B.LineBox.line_of g.S.Source g.O.Sink g.L.Sink
    g.D.SlotDisk (drive g c last) g.met.B.LineBox.causal g.met.B.LineBox.rising
    c.in-Ok.ensures.loaded c.in-Ok.ensures.crash_safe c.in-Ok.ensures.crash
    c.new-lines.ensures.disk c.new-lines.ensures.drives images

pub returns-then-is_stopped : goal.returns-then-is_stopped
returns-then-is_stopped g c =
    let at = (goal.at.returns-then-is_stopped g c).After-is_stopped in
    let end = c.drive_to_rest-end.result in
    let stopped : has_stopped c.drive_to_rest-end.result ≡ true =
    sym c.is_stopped.ensures ∙ c.if-is_stopped.true in
    let last = driven_state g at in
    let drove = driven g at last in
    let ran = run g at last drove.gives.went.images in
    rw c.status_of.ensures (record {
      runs = drive_stops g.B.LinkBox g.B.LineBox.line_of g.S.Source g.O.Sink g.L.Sink g.D.SlotDisk
          (drive g at last) ran c.drive_to_rest-end.result stopped drove;
      any_moment = ran.throughout;
      key = refl;
      input = input_cause _ _ c.drive_to_rest-end.result c.drive_to_rest-end.ensures.read;
      disk = rw (← c.in-Ok.ensures.same)
          (disk_cause_of_end _ _ c.drive_to_rest-end.result drove.gives.went.disk);
      sinks = sink_cause_of_stop _ _ _ _ c.drive_to_rest-end.result stopped drove.gives.went.sinks;
      flushes = flushes_of_end g.O.Sink g.L.Sink _ _ _ _ c.drive_to_rest-end.result
          (not_whole c.drive_to_rest-end.result stopped) drove.gives.went.flushes;
    })

pub returns : goal.returns
returns g c =
    let at = (goal.at.returns g c).After-is_stopped in
    let other : has_stopped c.drive_to_rest-end.result ≡ false =
    sym c.is_stopped.ensures ∙ c.if-is_stopped.false in
    let fin = c.in-Ok-finish.ensures in
    let last : State g.row.B.Denot g.row.O.Denot g.row.L.Denot g.row.D.Denot =
    state_of_lines fin.last c.finish.new.out c.finish.new.log c.finish.new.disk in
    let drove = driven g at last in
    let all = went_then g.B.LinkBox g.B.LineBox.line_of g.O.Sink g.L.Sink g.D.SlotDisk
    c.args.rest _ _ (begun_state (drive g at last)) (driven_state g at) c.drive_to_rest-end.result
    other drove last (Ok tt) fin.went in
    let ran = run g at last all.images in
    let ended = c.end_run.ensures in
    record {
      runs = all_runs g.B.LinkBox g.B.LineBox.line_of g.S.Source g.O.Sink g.L.Sink g.D.SlotDisk
          (drive g at last) ran c.end_run.new.out c.end_run.new.log ended.out ended.log
          c.drive_to_rest-end.result other (driven_state g at) drove fin.finished
          c.end_run.result ended.status;
      any_moment = ran.throughout;
      key = refl;
      input = ended.input _ _ c.drive_to_rest-end.ensures.read;
      disk = ended.disk _ _ (all.disk.same refl ∙ c.in-Ok.ensures.same);
      sinks = sink_cause_of_whole _ _ _ _ _ _ (all.sinks.out_same refl) (all.sinks.log_same refl)
          c.end_run.result ended.sinks;
      flushes = flushes_of_whole g.O.Sink g.L.Sink _ _ _ _ _ _ all.flushes
          (all.sinks.log_same refl) c.end_run.result ended.flushes;
    }

pub end_run-requires : goal.end_run-requires
end_run-requires g c = sym c.is_stopped.ensures ∙ c.if-is_stopped.false

pub returns-in-Err : goal.returns-in-Err
returns-in-Err g c =
    let at = (goal.at.returns-in-Err g c).After-is_stopped in
    let other : has_stopped c.drive_to_rest-end.result ≡ false =
    sym c.is_stopped.ensures ∙ c.if-is_stopped.false in
    let fin = c.in-Err.ensures in
    let last : State g.row.B.Denot g.row.O.Denot g.row.L.Denot g.row.D.Denot =
    state_of_lines fin.last c.finish.new.out c.finish.new.log c.finish.new.disk in
    let drove = driven g at last in
    let all = went_then g.B.LinkBox g.B.LineBox.line_of g.O.Sink g.L.Sink g.D.SlotDisk
    c.args.rest _ _ (begun_state (drive g at last)) (driven_state g at) c.drive_to_rest-end.result
    other drove last (Err c.in-Err.stop) fin.went in
    let ran = run g at last all.images in
    let runs = finish_stops g.B.LinkBox g.B.LineBox.line_of g.S.Source g.O.Sink g.L.Sink
    g.D.SlotDisk (drive g at last) ran c.drive_to_rest-end.result other (driven_state g at) drove
    c.in-Err.stop fin.stopped in
    rw c.status_of-in-Err.ensures (record {
      runs = runs;
      any_moment = ran.throughout;
      key = refl;
      input = input_of_stop g.B.LinkBox g.B.LineBox.line_of g.S.Source g.O.Sink g.L.Sink
          g.D.SlotDisk (drive g at last) ran _ _ c.drive_to_rest-end.ensures.read.never_falls
          c.in-Err.stop runs;
      disk = rw (← c.in-Ok.ensures.same) (disk_cause_of_end _ _ (Stopped c.in-Err.stop) all.disk);
      sinks = sink_cause_of_stop _ _ _ _ (Stopped c.in-Err.stop) refl all.sinks;
      flushes = flushes_of_end g.O.Sink g.L.Sink _ _ _ _ (Stopped c.in-Err.stop)
          (not_whole (Stopped c.in-Err.stop) refl) all.flushes;
    })
