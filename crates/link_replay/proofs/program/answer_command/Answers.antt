use Rattle.link_replay.proofs.OverTwo.{calm_over_first, causes_over_first, does_over_first}
use Rattle.link_replay.proofs.OverTwo.{keeps_over_first, may_over_first, never_used, over_one}
use Rattle.link_replay.proofs.Outcomes.{asked_done}
use Rattle.link_replay.specs.LiveCommands.{own_line}
use Rattle.link_replay.specs.{OverFiles.outside_of, TwoDisks.over_first}
use Rattle.std.proofs.Common.{Some, refl}
use Rattle.link_replay.proofs.program.answer_command.Goals as goal

pub returns-in-LiveLine-clause-used : goal.returns-in-LiveLine-clause-used
returns-in-LiveLine-clause-used g c = λ is.
    let line = own_line c.in-LiveLine.proto c.in-LiveLine.profile c.in-LiveLine.dir in
    let before = outside_of c.args.key.now c.args.streams.now c.args.disks.now in
    let after = outside_of c.live_line.new.key c.live_line.new.streams c.live_line.new.disks in
    never_used g.K.Source g.S.Source g.O.Sink g.L.Sink g.D.SlotDisk line before after
    c.live_line.result c.live_line.ensures.lives is

pub returns-in-LiveLine-clause-does : goal.returns-in-LiveLine-clause-does
returns-in-LiveLine-clause-does g c = rw c.in-LiveLine.is c.live_line.ensures.lives

pub returns-in-LiveLine-clause-any_moment : goal.returns-in-LiveLine-clause-any_moment
returns-in-LiveLine-clause-any_moment g c = rw c.in-LiveLine.is c.live_line.ensures.any_moment

pub returns-in-LiveLine-clause-causes : goal.returns-in-LiveLine-clause-causes
returns-in-LiveLine-clause-causes g c = rw c.in-LiveLine.is c.live_line.ensures.causes

pub returns-in-LiveLine-clause-done : goal.returns-in-LiveLine-clause-done
returns-in-LiveLine-clause-done g c = rw c.in-LiveLine.is c.live_line.ensures.done

pub returns-in_default-clause-does : goal.returns-in_default-clause-does
returns-in_default-clause-does g c =
    does_over_first g.K.Source g.S.Source g.O.Sink g.L.Sink g.D.SlotDisk (Some c.args.command) _ _ _
    (over_one c.args.command c.in_default.not-LiveLine) (record {
      does = c.answer_over_one-status.ensures.does;
      second = refl;
      way = refl;
    })

pub returns-in_default-clause-any_moment : goal.returns-in_default-clause-any_moment
returns-in_default-clause-any_moment g c =
    keeps_over_first g.K.Source g.S.Source g.O.Sink g.L.Sink g.D.SlotDisk (Some c.args.command) _ _
    (over_one c.args.command c.in_default.not-LiveLine) c.answer_over_one-status.ensures.any_moment
    refl

pub returns-in_default-clause-causes : goal.returns-in_default-clause-causes
returns-in_default-clause-causes g c =
    causes_over_first g.K.Source g.S.Source g.O.Sink g.L.Sink g.D.SlotDisk (Some c.args.command) _ _
    _ (over_one c.args.command c.in_default.not-LiveLine) c.answer_over_one-status.ensures.causes

pub returns-in_default-clause-done : goal.returns-in_default-clause-done
returns-in_default-clause-done g c = λ may calm.
    let before = outside_of c.args.key.now c.args.streams.now c.args.disks.now in
    let ends = c.answer_over_one-status.new in
    let after = outside_of ends.key ends.streams
    (record { first = ends.disk; second = c.args.disks.now.second }) in
    asked_done g.K.Source g.S.Source g.O.Sink g.L.Sink g.D.SlotDisk (Some c.args.command)
    (over_first before) (over_first after) c.answer_over_one-status.result
    (may_over_first g.K.Source g.S.Source g.O.Sink g.L.Sink g.D.SlotDisk (Some c.args.command)
    before (over_one c.args.command c.in_default.not-LiveLine) may)
    (calm_over_first g.K.Source g.S.Source g.O.Sink g.L.Sink g.D.SlotDisk before after calm)
    c.answer_over_one-status.ensures.does c.answer_over_one-status.ensures.causes
