use Rattle.session_lists.proofs.Runs.{seals-on, checks-on, no_mark-front}
use Rattle.std.proofs.Common.{◌≡◌, ◌+◌, arith, length, take}
use Rattle.{std.proofs.lemmas.List.length-take-le, tick_drive.proofs.ItemLaws.ticks_in-front}
use Rattle.yasir_ticks.specs.TickRun.{run_ticks, run_items}
use Rattle.session_lists.proofs.replay_lists.ReplayLists.take_front.Goals as goal

pub returns-then-not-self-clause-goes : goal.returns-then-not-self-clause-goes
returns-then-not-self-clause-goes g c =
    let n = c.seal_run.result in
    let size : length (take n (run_ticks c.args.run)) ≡ n =
    length-take-le n (run_ticks c.args.run) c.seal_run.ensures.within in
    let counts : g.S.FrameBox.taken c.seal_run.new.self.sealer
    ≡ g.S.FrameBox.taken c.args.self.now.sealer + length (take n (run_ticks c.args.run)) =
    omega (arith, size, c.seal_run.ensures.taken) in
    seals-on g.S.FrameBox g.C.FrameBox g.V.Device c.args.self.now c.seal_run.new.self
    (take n (run_items c.args.run)) (no_mark-front c.args.run n) (take n (run_ticks c.args.run))
    (ticks_in-front c.args.run n) c.seal_run.ensures.others c.if-not-self.true counts
    c.seal_run.ensures.able c.requires.ready c.seal_run.ensures.ok

pub returns-in-Ok-clause-goes : goal.returns-in-Ok-clause-goes
returns-in-Ok-clause-goes g c =
    let n = c.in-Ok.count in
    let size : length (take n (run_ticks c.args.run)) ≡ n =
    length-take-le n (run_ticks c.args.run) c.in-Ok.ensures.within in
    let counts : g.C.FrameBox.taken c.check_run.new.self.checker
    ≡ g.C.FrameBox.taken c.args.self.now.checker + length (take n (run_ticks c.args.run)) =
    omega (arith, size, c.in-Ok.ensures.taken) in
    checks-on g.S.FrameBox g.C.FrameBox g.V.Device c.args.self.now c.check_run.new.self
    (take n (run_items c.args.run)) (no_mark-front c.args.run n) (take n (run_ticks c.args.run))
    (ticks_in-front c.args.run n) c.in-Ok.ensures.others c.if-not-self.false counts
    c.in-Ok.ensures.ready c.in-Ok.ensures.ok
