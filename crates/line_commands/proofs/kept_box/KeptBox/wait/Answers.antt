use Rattle.line_commands.proofs.Kept.{waits-none, waits-some}
use Rattle.line_commands.proofs.kept_box.KeptBox.wait.Goals as goal

pub loop-left-init : goal.loop-left-init
loop-left-init g c = record {
  waits = waits-none g.B.LinkBox g.B.LineBox.line_of c.args.self.now c.args.ticks
      c.requires.steady;
}

pub loop-left-preserved : goal.loop-left-preserved
loop-left-preserved g c = record {
  waits = waits-some g.B.LinkBox g.B.LineBox.line_of c.args.self.now c.loop-left.self
      c.take_some.new.self c.args.ticks c.loop-left.left c.in-Ok.count
      c.loop-left.invariant.waits c.in-Ok.ensures;
}
