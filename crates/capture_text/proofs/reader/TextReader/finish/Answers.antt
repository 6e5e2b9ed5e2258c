use Rattle.std.proofs.Common.{ap, ◌+◌}
use Rattle.capture_text.proofs.Reading.{text_right, text_wrong}
use Rattle.capture_text.proofs.reader.TextReader.finish.Goals as goal

pub returns-in-None-clause-right : goal.returns-in-None-clause-right
returns-in-None-clause-right c = λ text items s.
    text_right c.args.self.place text items s.walks c.in-None.ensures

pub returns-in-Some-end_fault-clause-refused : goal.returns-in-Some-end_fault-clause-refused
returns-in-Some-end_fault-clause-refused c = λ text items s.
    let both = text_wrong c.args.self.place text items s.walks c.in-Some-end_fault.why
    c.in-Some-end_fault.ensures in (
      both.0,
      record { offset = s.counted; line = ap (λ n. n + 1) s.lines },
      both.1,
    )
