use Rattle.session_lists.proofs.TakenLines.{goes-nowhere, goes-tick}
use Rattle.session_lists.specs.{Lines.TakesOn}
use Rattle.std.proofs.Common.{◌≡◌, arith, take, subst}
use Rattle.std.proofs.lemmas.List.{take_all, length-take-le}
use Rattle.yasir_ticks.specs.declared.tick.Tick.TheVariants.{Silent}
use Rattle.session_lists.proofs.lines.take_line.Goals as goal

pub loop-index-init : goal.loop-index-init
loop-index-init g c = record {
  able = c.requires.able;
  takes = goes-nowhere _ _ _ c.args.line_box.now c.args.kept.now;
}

pub take_tick-requires-clause-room : goal.take_tick-requires-clause-room
take_tick-requires-clause-room g c =
    let within = length-take-le c.loop-index.index c.args.line.now (omega arith) in
    omega (arith, c.requires.room, c.loop-index.invariant.takes.counted, within)

pub loop-index-preserved : goal.loop-index-preserved
loop-index-preserved g c = record {
  able = c.in_default.ensures.able;
  takes = goes-tick _ _ _ c.args.line_box.now c.loop-index.line_box c.take_tick.new.line_box
      c.args.kept.now c.loop-index.kept c.take_tick.new.kept c.args.line.now
      c.loop-index.index Silent c.loop-index-test.true c.loop-index.invariant.takes
      c.in_default.ensures.takes;
}

pub returns-clause-takes : goal.returns-clause-takes
returns-clause-takes g c =
    let all : take c.loop-index.index c.args.line.now ≡ c.args.line.now =
    take_all c.loop-index.index c.args.line.now (omega arith) in
    subst (TakesOn g.B.FrameBox g.G.Guard c.args.line_box.now c.loop-index.line_box c.args.kept.now
    c.loop-index.kept) all c.loop-index.invariant.takes
