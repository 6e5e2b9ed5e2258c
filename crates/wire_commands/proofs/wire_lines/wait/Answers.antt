use Rattle.std.proofs.Common.{◌∙◌, arith}
use Rattle.two_wire.specs.Gate.{gate_state, gate_side, gate_waits}
use Rattle.wire_commands.proofs.Taking.{waits-on}
use Rattle.wire_commands.proofs.wire_lines.wait.Goals as goal

pub loop-done-preserved : goal.loop-done-preserved
loop-done-preserved c =
    let gate = c.args.gate.now in
    record {
      within = omega (arith, c.loop-done-test.true);
      side = c.follow.ensures.side ∙ c.loop-done.invariant.side;
      waits = c.follow.ensures.waits ∙ c.loop-done.invariant.waits;
      ticks = omega (arith, c.follow.ensures.ticks, c.loop-done.invariant.ticks);
      state = λ left within. waits-on (gate_side gate) (gate_side c.loop-done.gate) (gate_waits gate)
          (gate_waits c.loop-done.gate) (gate_state gate) (gate_state c.loop-done.gate)
          (gate_state c.follow.new.self) c.tick_at.result c.args.device.now left c.loop-done.done
          c.loop-done.invariant.side c.loop-done.invariant.waits c.tick_at.ensures
          c.follow.ensures.state (c.loop-done.invariant.state left within)
          (omega (arith, within, c.loop-done-test.true));
    }
