use Rattle.std.proofs.Common.{◌≡◌, arith, take, subst}
use Rattle.std.proofs.lemmas.List.{take_all, length-take-le}
use Rattle.yasir_ticks.specs.declared.tick.Tick.TheVariants.{Silent}
use Rattle.session_lists.specs.Lines.{HearsOn}
use Rattle.session_lists.proofs.TakenLines.{goes-nowhere, goes-tick}
use Rattle.session_lists.proofs.lines.hear_line.Goals as goal

pub loop-index-init : goal.loop-index-init
loop-index-init g c = goes-nowhere _ _ _ c.args.device.now c.args.read.now

pub hear_tick-requires-clause-room : goal.hear_tick-requires-clause-room
hear_tick-requires-clause-room g c =
    let within = length-take-le c.loop-index.index c.args.line.now (omega arith) in
    omega (arith, c.requires.room, c.loop-index.invariant.counted, within)

pub hear_tick-requires-clause-few : goal.hear_tick-requires-clause-few
hear_tick-requires-clause-few g c =
    omega (arith, c.requires.few, c.loop-index.invariant.counted, c.loop-index.invariant.few)

pub loop-index-preserved : goal.loop-index-preserved
loop-index-preserved g c =
    goes-tick _ _ _ c.args.device.now c.loop-index.device c.hear_tick.new.device c.args.read.now
    c.loop-index.read c.hear_tick.new.read c.args.line.now c.loop-index.index Silent
    c.loop-index-test.true c.loop-index.invariant c.hear_tick.ensures

pub returns : goal.returns
returns g c =
    let all : take c.loop-index.index c.args.line.now ≡ c.args.line.now =
    take_all c.loop-index.index c.args.line.now (omega arith) in
    subst (HearsOn g.V.Device c.args.expected c.args.device.now
    c.loop-index.device c.args.read.now c.loop-index.read) all c.loop-index.invariant
