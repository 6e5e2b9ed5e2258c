use Rattle.live_commands.specs.Filtering.{filtering}
use Rattle.live_commands.specs.FilteringLaws.{filters-none, filters-then}
use Rattle.std.proofs.{Common.◌∙◌, Common.arith, lemmas.List.nil_from_length}
use Rattle.tick_drive.proofs.ItemLaws.{run_items-behind}
use Rattle.tick_drive.proofs.Moving.{given_none, given_some, given_stop, given_may, given_all}
use Rattle.yasir_ticks.{proofs.TickRuns.length-run_items, specs.TickRun.run_items}
use Rattle.live_commands.proofs.filter.take_run.Goals as goal

pub loop-following-init : goal.loop-following-init
loop-following-init g c =
    given_none (filtering g.B.LinkBox g.B.LineBox.line_of g.P.Port g.D.SlotDisk)
    (filters-then g.B.LinkBox g.B.LineBox.line_of g.P.Port g.D.SlotDisk) _ _
    (filters-none g.B.LinkBox g.B.LineBox.line_of g.P.Port g.D.SlotDisk g.met.D.SlotDisk.only_now)
    c.requires.able

pub take_some-requires-clause-may : goal.take_some-requires-clause-may
take_some-requires-clause-may g c =
    given_may (filtering g.B.LinkBox g.B.LineBox.line_of g.P.Port g.D.SlotDisk)
    (filters-then g.B.LinkBox g.B.LineBox.line_of g.P.Port g.D.SlotDisk) _ _ _ _ c.requires
    c.loop-following.invariant

pub loop-following-preserved : goal.loop-following-preserved
loop-following-preserved g c =
    given_some (filtering g.B.LinkBox g.B.LineBox.line_of g.P.Port g.D.SlotDisk)
    (filters-then g.B.LinkBox g.B.LineBox.line_of g.P.Port g.D.SlotDisk) _ _ _ _ _ _ c.in-Ok.count
    (run_items-behind c.loop-following.following c.behind-following.result c.in-Ok.count c.behind-following.ensures)
    c.loop-following.invariant c.in-Ok.ensures

pub returns-in-Err : goal.returns-in-Err
returns-in-Err g c =
    given_stop (filtering g.B.LinkBox g.B.LineBox.line_of g.P.Port g.D.SlotDisk)
    (filters-then g.B.LinkBox g.B.LineBox.line_of g.P.Port g.D.SlotDisk) _ _ _ _ _ _
    c.loop-following.invariant c.in-Err.ensures

pub returns : goal.returns
returns g c =
    given_all (filtering g.B.LinkBox g.B.LineBox.line_of g.P.Port g.D.SlotDisk)
    (filters-then g.B.LinkBox g.B.LineBox.line_of g.P.Port g.D.SlotDisk) _ _ _
    (run_items c.loop-following.following)
    (nil_from_length (run_items c.loop-following.following)
    (length-run_items c.loop-following.following ∙ grind arith)) c.loop-following.invariant
