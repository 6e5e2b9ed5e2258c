use Rattle.tick_drive.proofs.Moving.{given_none, given_some, given_stop, given_may}
use Rattle.tick_drive.proofs.ItemLaws.{run_items-behind}
use Rattle.tick_drive.proofs.input_loop.give_run.Goals as goal

pub loop-left-init : goal.loop-left-init
loop-left-init g c = given_none g.C.Consumer.meaning g.met.C.Consumer.went_then _ _
    g.met.C.Consumer.went_none c.requires.able

pub take_some-requires-clause-may : goal.take_some-requires-clause-may
take_some-requires-clause-may g c =
    given_may g.C.Consumer.meaning g.met.C.Consumer.went_then _ _ _ _ c.requires
    c.loop-left.invariant

pub loop-left-preserved : goal.loop-left-preserved
loop-left-preserved g c = given_some g.C.Consumer.meaning g.met.C.Consumer.went_then
    _ _ _ _ _ _ c.in-Ok.count
    (run_items-behind c.loop-left.left c.behind-left.result c.in-Ok.count c.behind-left.ensures)
    c.loop-left.invariant c.in-Ok.ensures

pub returns-in-Err : goal.returns-in-Err
returns-in-Err g c = given_stop g.C.Consumer.meaning g.met.C.Consumer.went_then
    _ _ _ _ _ _ c.loop-left.invariant c.in-Err.ensures
