use Rattle.std.proofs.Common.{take, arith}
use Rattle.device_model.proofs.RtuRuns.{bytes-unread, bytes-kept}
use Rattle.device_model.proofs.rtu_family.RtuFamily.hear.Goals as goal

pub returns-then-ticks-eq0-clause-stands : goal.returns-then-ticks-eq0-clause-stands
returns-then-ticks-eq0-clause-stands c = λ cut gap line heard.
    bytes-kept cut gap c.args.self.now c.go_on_some.new.self line c.args.bytes.now heard
    c.go_on_some.ensures.silence c.go_on_some.ensures.gap c.go_on_some.ensures.ticks
    (omega arith) c.go_on_some.ensures.start c.go_on_some.ensures.broken
    c.go_on_some.ensures.bytes

pub returns-then-ticks-eq0-clause-answer : goal.returns-then-ticks-eq0-clause-answer
returns-then-ticks-eq0-clause-answer c = λ cut gap n line heard.
    bytes-unread cut gap c.args.self.now line (take n c.args.bytes.now) heard
