use Rattle.line_capture.specs.RecordWalk.{text_of_record, WalkAdds}
use Rattle.{std.proofs.Common.take, yasir_ticks.specs.Ticks.bytes_in}
use Rattle.line_capture.proofs.records.RecordTexts.push_bytes.Given as goal

-- the bytes so far were added
abbrev pub invariant-loop-tick : goal.invariant-loop-tick
invariant-loop-tick l =
    WalkAdds l.fn.self l.self (text_of_record l.fn.self.form (bytes_in (take l.tick-index l.ticks)))
