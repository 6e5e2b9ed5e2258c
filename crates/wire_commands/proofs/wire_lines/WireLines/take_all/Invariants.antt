use Rattle.line_commands.specs.Recording.{filled_recording}
use Rattle.link_format.specs.Setup.{Setup}
use Rattle.std.proofs.Common.{◌-◌, ◌≡◌, ◌≤◌, [], take, drop}
use Rattle.two_wire.specs.declared.{gate.Side.Side, gate.Waits.Waits}
use Rattle.wire_commands.specs.Making.{HasMade, IsAble, ticks_made}
use Rattle.wire_commands.proofs.wire_lines.WireLines.take_all.Given as goal

abbrev pub invariant-loop-count : goal.invariant-loop-count
invariant-loop-count g l = record {
  within : l.count ≤ l.steps;
  counted : ticks_made l.self ≡ l.count;
  able : IsAble g.S.LinkBox g.C.LinkBox l.self (l.steps - l.count);
  made : (side : Side) (waits : Waits) (sent_setup got_setup : Setup)
      → HasMade g.S.LinkBox g.S.LineBox.line_of g.C.LinkBox g.C.LineBox.line_of side waits sent_setup
      got_setup l.fn.self [] [] (filled_recording l.steps l.device) (filled_recording l.steps l.link)
      → HasMade g.S.LinkBox g.S.LineBox.line_of g.C.LinkBox g.C.LineBox.line_of side waits sent_setup
      got_setup l.self (take l.count (filled_recording l.steps l.device))
      (take l.count (filled_recording l.steps l.link))
      (drop l.count (filled_recording l.steps l.device))
      (drop l.count (filled_recording l.steps l.link));
}

abbrev pub decreases-loop-count : goal.decreases-loop-count
decreases-loop-count g l = l.steps - l.count
