use Rattle.live_line.proofs.Running.{way-none, way-then, one_given, one_stopped, counts_one}
use Rattle.live_line.specs.WayRuns.{way_filtering}
use Rattle.std.proofs.{Common.◌∙◌, Common.arith, lemmas.List.nil_from_length}
use Rattle.tick_drive.proofs.ItemLaws.{run_items-behind}
use Rattle.tick_drive.proofs.Moving.{given_none, given_some, given_stop, given_may, given_all}
use Rattle.yasir_ticks.{proofs.TickRuns.length-run_items, specs.TickRun.run_items}
use Rattle.live_line.proofs.way_lines.WayLines.take_run.Goals as goal

pub loop-following-init : goal.loop-following-init
loop-following-init g c =
    given_none (way_filtering g.X.WayBox g.P.Port g.D.SlotDisk c.args.way)
    (way-then g.X.WayBox g.P.Port g.D.SlotDisk c.args.way) _ _
    (way-none g.X.WayBox g.P.Port g.D.SlotDisk c.args.way g.met.D.SlotDisk.only_now)
    c.requires.able

pub take_tick-requires-clause-count : goal.take_tick-requires-clause-count
take_tick-requires-clause-count g c =
    let may = given_may (way_filtering g.X.WayBox g.P.Port g.D.SlotDisk c.args.way)
    (way-then g.X.WayBox g.P.Port g.D.SlotDisk c.args.way) _ _ _ _ c.requires
    c.loop-following.invariant in
    counts_one c.loop-following.following c.first.result c.first.ensures _ may.room

pub take_tick-requires-clause-able : goal.take_tick-requires-clause-able
take_tick-requires-clause-able g c = c.loop-following.invariant.gives.is_able

pub loop-following-preserved : goal.loop-following-preserved
loop-following-preserved g c =
    given_some (way_filtering g.X.WayBox g.P.Port g.D.SlotDisk c.args.way)
    (way-then g.X.WayBox g.P.Port g.D.SlotDisk c.args.way) _ _ _ _ _ _ 1
    (run_items-behind c.loop-following.following c.behind-following.result 1
    c.behind-following.ensures) c.loop-following.invariant
    (one_given g.X.WayBox g.P.Port g.D.SlotDisk c.args.way _ _ c.loop-following.following
    c.first.result c.first.ensures c.in-Ok.ensures)

pub returns-in-Err : goal.returns-in-Err
returns-in-Err g c =
    given_stop (way_filtering g.X.WayBox g.P.Port g.D.SlotDisk c.args.way)
    (way-then g.X.WayBox g.P.Port g.D.SlotDisk c.args.way) _ _ _ _ _ _
    c.loop-following.invariant (one_stopped g.X.WayBox g.P.Port g.D.SlotDisk c.args.way _ _
    c.loop-following.following c.first.result c.first.ensures _ c.in-Err.ensures)

pub returns : goal.returns
returns g c =
    given_all (way_filtering g.X.WayBox g.P.Port g.D.SlotDisk c.args.way)
    (way-then g.X.WayBox g.P.Port g.D.SlotDisk c.args.way) _ _ _
    (run_items c.loop-following.following)
    (nil_from_length (run_items c.loop-following.following)
    (length-run_items c.loop-following.following ∙ grind arith)) c.loop-following.invariant
