use Rattle.session_lists.proofs.TakenLines.{goes-nowhere, goes-silent}
use Rattle.{session_lists.specs.Lines.TakesOn, std.proofs.Common.◌≡◌}
use Rattle.std.proofs.{Common.arith, Common.subst, lemmas.List.length-replicate}
use Rattle.yasir_ticks.specs.{Ticks.silent, declared.tick.Tick.TheVariants.Silent}
use Rattle.session_lists.proofs.lines.take_silence.Goals as goal

pub loop-init : goal.loop-init
loop-init g c = record {
  able = c.requires.able;
  takes = goes-nowhere _ _ _ c.args.line_box.now c.args.kept.now;
}

pub take_tick-requires-clause-room : goal.take_tick-requires-clause-room
take_tick-requires-clause-room g c = omega (
  arith,
  c.requires.room,
  c.loop.invariant.takes.counted,
  length-replicate c.loop.counter Silent,
)

pub loop-preserved : goal.loop-preserved
loop-preserved g c = record {
  able = c.in_default.ensures.able;
  takes = goes-silent _ _ _ c.args.line_box.now c.loop.line_box c.take_tick.new.line_box
      c.args.kept.now c.loop.kept c.take_tick.new.kept c.loop.counter
      c.loop.invariant.takes
      c.in_default.ensures.takes;
}

pub returns-clause-takes : goal.returns-clause-takes
returns-clause-takes g c =
    let all : c.loop.counter ≡ c.args.ticks = omega arith in
    subst (λ n. TakesOn g.B.FrameBox g.G.Guard c.args.line_box.now c.loop.line_box c.args.kept.now
    c.loop.kept (silent n)) all c.loop.invariant.takes
