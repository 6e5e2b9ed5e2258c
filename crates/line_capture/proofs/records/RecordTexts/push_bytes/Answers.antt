use Rattle.std.proofs.Common.{sym}
use Rattle.line_capture.proofs.RecordBytes.{no_data, byte_added, silence_passed}
use Rattle.line_capture.proofs.records.RecordTexts.push_bytes.Goals as goal
use Rattle.line_capture.proofs.records.RecordTexts.push_bytes.Goals.{in-Byte+in-Ok, in-Silent}

pub loop-tick-init : goal.loop-tick-init
loop-tick-init c = no_data c.args.self.now c.args.self.now.form

pub loop-tick-preserved : goal.loop-tick-preserved
loop-tick-preserved c = elim c.match-tick.branch [
  | in-Byte+in-Ok w ↦
      byte_added c.args.self.now c.loop-tick.self c.match-tick.self c.args.ticks.now
      c.loop-tick.tick-index _ c.loop-tick-test.true c.loop-tick.invariant _ _ w.self-is
      (sym w.in-Byte.is)
      w.in-Ok.ensures
  | in-Silent w ↦
      silence_passed c.args.self.now c.loop-tick.self c.match-tick.self c.args.ticks.now
      c.loop-tick.tick-index _ c.loop-tick-test.true c.loop-tick.invariant (sym w.in-Silent.is)
      w.self-is
]
