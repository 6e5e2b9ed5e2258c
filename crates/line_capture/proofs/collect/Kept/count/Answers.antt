use Rattle.std.proofs.Common.{rules}
use Rattle.line_capture.specs.Captures.{is_break, is_control_line}
use Rattle.line_capture.proofs.Keeping.{takes_event, event_counted, event_passed}
use Rattle.line_capture.proofs.collect.Kept.count.Goals as goal

pub returns-then-event-eq-BREAK : goal.returns-then-event-eq-BREAK
returns-then-event-eq-BREAK c = λ ways. takes_event ways c.args.self.now c.args.event _ _
    (event_counted is_break c.args.event _ _ (search rules) (search rules))
    (event_passed is_control_line c.args.event _ (search rules))

pub returns-then-event-eq-CONTROL_LINE : goal.returns-then-event-eq-CONTROL_LINE
returns-then-event-eq-CONTROL_LINE c = λ ways. takes_event ways c.args.self.now c.args.event _ _
    (event_passed is_break c.args.event _ (search rules))
    (event_counted is_control_line c.args.event _ _ (search rules) (search rules))

pub returns-else-event-eq-CONTROL_LINE : goal.returns-else-event-eq-CONTROL_LINE
returns-else-event-eq-CONTROL_LINE c = λ ways. takes_event ways c.args.self.now c.args.event _ _
    (event_passed is_break c.args.event _ (search rules))
    (event_passed is_control_line c.args.event _ (search rules))
