use Rattle.line_capture.proofs.PlacedBytes.{none_pushed, part_pushed, part_fails, all_pushed}
use Rattle.line_texts.proofs.Added.{short_silence_of}
use Rattle.std.proofs.Common.{arith}
use Rattle.line_capture.proofs.placing.push_silence.Goals as goal

pub loop-left-init : goal.loop-left-init
loop-left-init g c = none_pushed g.O.Sink g.L.Sink _ _ c.requires

pub push_short-requires-clause-room : goal.push_short-requires-clause-room
push_short-requires-clause-room g c = c.loop-left.invariant.pushes.room

pub push_short-requires-clause-short : goal.push_short-requires-clause-short
push_short-requires-clause-short g c = short_silence_of c.min-part.result (omega (arith, c.min-part.ensures))

pub loop-left-preserved : goal.loop-left-preserved
loop-left-preserved g c = part_pushed g.O.Sink g.L.Sink _ _ _ _ _ c.min-part.result
    c.loop-left.invariant (omega (arith, c.min-part.ensures)) c.in-Ok.ensures

pub returns-in-Err : goal.returns-in-Err
returns-in-Err g c = part_fails g.O.Sink g.L.Sink _ _ _ _ _ c.min-part.result
    c.loop-left.invariant (omega (arith, c.min-part.ensures)) c.in-Err.field-0 c.in-Err.ensures

pub returns : goal.returns
returns g c = all_pushed g.O.Sink g.L.Sink _ _ _ _ c.loop-left-test.false c.loop-left.invariant
