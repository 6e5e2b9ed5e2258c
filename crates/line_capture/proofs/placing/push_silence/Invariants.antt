use Rattle.line_capture.proofs.PlacedBytes.{HasPushed}
use Rattle.line_texts.specs.Texts.{writing}
use Rattle.line_capture.proofs.placing.push_silence.Given as goal

abbrev pub invariant-loop-left : goal.invariant-loop-left
invariant-loop-left g l = HasPushed g.O.Sink g.L.Sink (writing l.fn.texts l.fn.out l.fn.log)
    (writing l.texts l.out l.log) l.silence l.left

abbrev pub decreases-loop-left : goal.decreases-loop-left
decreases-loop-left g l = l.left
