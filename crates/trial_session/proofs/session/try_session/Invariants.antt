use Rattle.std.proofs.Common.{◌*◌}
use Rattle.trial_session.specs.Runs.{HasRun, TrialMayGoOn}
use Rattle.trial_session.proofs.session.try_session.Given as goal

abbrev pub invariant-loop : goal.invariant-loop
invariant-loop g l =
    TrialMayGoOn g.S.LinkBox g.C.LinkBox g.V.Device l.session (640 * l.counter)
    × HasRun g.S.LinkBox g.S.CountingBox.counting g.C.LinkBox g.C.CountingBox.counting g.V.Device
    g.R.DrawnFrames.drawing l.behind l.session
    l.seed l.counter
