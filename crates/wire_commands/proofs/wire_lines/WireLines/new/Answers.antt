use Rattle.link_format.specs.{Directions.opposite_of, Setup.Setup, Setup.setup_of}
use Rattle.std.proofs.Common.{ap, arith, length, refl}
use Rattle.wire_commands.proofs.Made.{begins-made}
use Rattle.wire_commands.proofs.wire_lines.WireLines.new.Goals as goal

pub returns-clause-able : goal.returns-clause-able
returns-clause-able g c = λ left. record {
  sender = c.new.ensures.served;
  receiver = c.new-2.ensures.served;
  sent_counted = c.new.ensures.gone;
  got_counted = c.new-2.ensures.gone;
  gate_counted = c.new-3.ensures.ticks;
  sent_within = omega (arith, ap length c.new.ensures.none);
  got_within = omega (arith, ap length c.new-2.ensures.none);
  link_room = c.new-4.ensures.room;
  device_room = c.new-5.ensures.room;
}

pub returns-clause-made : goal.returns-clause-made
returns-clause-made g c =
    let sent : Setup = setup_of c.args.key.now c.args.at.outgoing 0 in
    let got : Setup = setup_of c.args.key.now (opposite_of c.args.at.outgoing) 0 in
    λ device_rest link_rest. begins-made g.S.LinkBox g.S.LineBox.line_of g.C.LinkBox
    g.C.LineBox.line_of c.args.at.side c.args.at.waits sent got _ device_rest link_rest
    c.new.ensures.left (rw c.opposite.ensures at c.new-2.ensures.left) refl c.new-3.ensures.side
    c.new-3.ensures.waits c.new-3.ensures.state c.new-4.ensures.none c.new-5.ensures.none
    c.new-6.ensures.items
