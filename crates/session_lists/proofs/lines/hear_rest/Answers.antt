use Rattle.session_lists.proofs.TakenLines.{goes-nowhere, goes-silent}
use Rattle.{session_lists.specs.Lines.HearsOn, std.proofs.Common.◌≡◌}
use Rattle.std.proofs.{Common.arith, Common.subst, lemmas.List.length-replicate}
use Rattle.yasir_ticks.specs.{Ticks.silent, declared.tick.Tick.TheVariants.Silent}
use Rattle.session_lists.proofs.lines.hear_rest.Goals as goal

pub loop-init : goal.loop-init
loop-init g c = goes-nowhere _ _ _ c.args.device.now c.args.read.now

pub hear_tick-requires-clause-room : goal.hear_tick-requires-clause-room
hear_tick-requires-clause-room g c = omega (
  arith,
  c.requires.room,
  c.loop.invariant.counted,
  length-replicate c.loop.counter Silent,
)

pub hear_tick-requires-clause-few : goal.hear_tick-requires-clause-few
hear_tick-requires-clause-few g c =
    omega (arith, c.requires.few, c.loop.invariant.counted, c.loop.invariant.few)

pub loop-preserved : goal.loop-preserved
loop-preserved g c = goes-silent _ _ _ c.args.device.now c.loop.device c.hear_tick.new.device
    c.args.read.now c.loop.read c.hear_tick.new.read c.loop.counter c.loop.invariant
    c.hear_tick.ensures

pub returns : goal.returns
returns g c =
    let all : c.loop.counter ≡ c.args.ticks = omega arith in
    subst (λ n. HearsOn g.V.Device c.args.expected c.args.device.now
    c.loop.device c.args.read.now c.loop.read (silent n)) all c.loop.invariant
