use Rattle.line_commands.proofs.Kept.{up-to-front, up-again, some-one}
use Rattle.std.proofs.Common.{arith}
use Rattle.yasir_ticks.specs.TickRun.{run_ticks}
use Rattle.line_commands.proofs.kept_box.KeptBox.take_short.Goals as goal

pub returns-then-forwarded-gt0 : goal.returns-then-forwarded-gt0
returns-then-forwarded-gt0 g c = record {
  some = c.if-forwarded-gt0.true;
  front = up-to-front g.B.LinkBox g.B.LineBox.line_of c.args.self.now
      c.forward-forwarded.new.self (run_ticks c.args.run) (run_ticks c.short_front-short.result)
      c.forward-forwarded.result c.short_front-short.ensures.front_is
      c.forward-forwarded.ensures.takes;
}

pub returns-then-passed-gt0 : goal.returns-then-passed-gt0
returns-then-passed-gt0 g c =
    let front = run_ticks c.short_front-short.result in record {
      some = c.if-passed-gt0.true;
      front = up-to-front g.B.LinkBox g.B.LineBox.line_of c.args.self.now c.pass-passed.new.self
          (run_ticks c.args.run) front c.pass-passed.result c.short_front-short.ensures.front_is
          (up-again g.B.LinkBox g.B.LineBox.line_of c.args.self.now c.forward-forwarded.new.self
          c.pass-passed.new.self front c.forward-forwarded.result c.pass-passed.result
          (omega (arith, c.if-forwarded-gt0.false)) c.forward-forwarded.ensures.takes
          c.pass-passed.ensures.takes);
    }

pub returns-in-Ok : goal.returns-in-Ok
returns-in-Ok g c =
    let front = run_ticks c.short_front-short.result in
    some-one g.B.LinkBox g.B.LineBox.line_of c.args.self.now c.pass-passed.new.self c.step.new.self
    (run_ticks c.args.run) c.pass-passed.result (omega (arith, c.if-passed-gt0.false))
    (up-to-front g.B.LinkBox g.B.LineBox.line_of c.args.self.now c.pass-passed.new.self
    (run_ticks c.args.run) front c.pass-passed.result c.short_front-short.ensures.front_is
    (up-again g.B.LinkBox g.B.LineBox.line_of c.args.self.now c.forward-forwarded.new.self
    c.pass-passed.new.self front c.forward-forwarded.result c.pass-passed.result
    (omega (arith, c.if-forwarded-gt0.false)) c.forward-forwarded.ensures.takes
    c.pass-passed.ensures.takes))
    c.first.result _ c.first.ensures c.in-Ok.ensures
