use Rattle.std.proofs.Common.{sym, ◌∙◌}
use Rattle.device_model.proofs.RtuFamilyLaws.{begins, goes_on}
use Rattle.device_model.proofs.rtu_family.RtuFamily.hear_byte.Goals as goal

pub returns-then-has_parted-clause-stands : goal.returns-then-has_parted-clause-stands
returns-then-has_parted-clause-stands c = λ cut gap line heard.
    (begins cut gap c.args.self.now c.begin.new.self line heard c.begin.ensures.cut
    c.begin.ensures.gap c.begin.ensures.ticks c.args.byte
    (sym c.has_parted.ensures ∙ c.if-has_parted.true) c.begin.ensures.quiet c.begin.ensures.start
    c.begin.ensures.broken c.begin.ensures.bytes).stands

pub returns-then-has_parted-clause-answer : goal.returns-then-has_parted-clause-answer
returns-then-has_parted-clause-answer c = λ cut gap line heard.
    (begins cut gap c.args.self.now c.begin.new.self line heard c.begin.ensures.cut
    c.begin.ensures.gap c.begin.ensures.ticks c.args.byte
    (sym c.has_parted.ensures ∙ c.if-has_parted.true) c.begin.ensures.quiet c.begin.ensures.start
    c.begin.ensures.broken c.begin.ensures.bytes).is

pub returns-clause-stands : goal.returns-clause-stands
returns-clause-stands c = λ cut gap line heard.
    (goes_on cut gap c.args.self.now c.go_on.new.self line heard c.go_on.ensures.cut
    c.go_on.ensures.gap c.go_on.ensures.ticks c.args.byte
    (sym c.has_parted.ensures ∙ c.if-has_parted.false) c.go_on.ensures.quiet c.go_on.ensures.start
    c.go_on.ensures.broken c.go_on.ensures.bytes).stands

pub returns-clause-answer : goal.returns-clause-answer
returns-clause-answer c = λ cut gap line heard.
    (goes_on cut gap c.args.self.now c.go_on.new.self line heard c.go_on.ensures.cut
    c.go_on.ensures.gap c.go_on.ensures.ticks c.args.byte
    (sym c.has_parted.ensures ∙ c.if-has_parted.false) c.go_on.ensures.quiet c.go_on.ensures.start
    c.go_on.ensures.broken c.go_on.ensures.bytes).is
