use Rattle.line_texts.{proofs.Sending.sends_handed, proofs.Sending.sent_handed, specs.Texts.writing}
use Rattle.line_commands.proofs.Spacing.{some_written, some_stopped}
use Rattle.line_commands.specs.{SpacedLinesLaws.keeps-none, SpacedTexts.spaced_texts}
use Rattle.std.proofs.Common.{refl}
use Rattle.line_commands.proofs.spaced_lines.SpacedLines.write_some.Goals as goal

pub returns-then-has_room : goal.returns-then-has_room
returns-then-has_room g c =
    let gave = c.give_front-answer.ensures in
    let none = keeps-none g.B.LineSpacer g.O.Sink g.L.Sink c.args.self.now in
    some_written g.B.LineSpacer g.O.Sink g.L.Sink c.args.self.now _ c.add_answer.new.texts
    c.args.owed c.args.read c.give_front-answer.result.taken _ _ gave.owes gave.answer
    c.add_answer.ensures gave.some gave.within gave.taken gave.lent
    (c.has_room.ensures.room c.if-has_room.true) (λ start line sends. sends)
    (record {
      spacer = refl;
      texts = refl;
      out = refl;
      log = refl;
      sinks = none.sinks;
      flushes = none.flushes;
    })

pub returns-in-Ok : goal.returns-in-Ok
returns-in-Ok g c =
    let gave = c.give_front-answer.ensures in
    let hands = c.in-Ok.ensures in
    some_written g.B.LineSpacer g.O.Sink g.L.Sink c.args.self.now _ c.add_answer.new.texts
    c.args.owed c.args.read c.give_front-answer.result.taken _ _ gave.owes gave.answer
    c.add_answer.ensures gave.some gave.within gave.taken gave.lent
    hands.room (λ start line sends. sends_handed g.O.Sink g.L.Sink (spaced_texts g.B.LineSpacer.reads
    g.B.LineSpacer.gap) line
    (writing c.add_answer.new.texts c.args.self.now.out.now c.args.self.now.log.now) _ start sends
    hands)
    (record {
      spacer = refl;
      texts = refl;
      out = refl;
      log = refl;
      sinks = record {
        out_never_falls = hands.writes.cause.out_never_falls;
        log_never_falls = hands.writes.cause.log_never_falls;
        failed = λ e. cc;
        out_same = λ _. hands.writes.cause.out_same;
        log_same = λ _. hands.writes.cause.log_same;
      };
      flushes = hands.writes.flushes;
    })

pub returns-in-Err : goal.returns-in-Err
returns-in-Err g c =
    let gave = c.give_front-answer.ensures in
    let hands = c.in-Err.ensures in
    some_stopped g.B.LineSpacer g.O.Sink g.L.Sink c.args.self.now _ c.add_answer.new.texts
    c.args.owed c.args.read c.give_front-answer.result.taken _ _ gave.owes gave.answer
    c.add_answer.ensures
    (λ start line sends. sent_handed g.O.Sink g.L.Sink (spaced_texts g.B.LineSpacer.reads
    g.B.LineSpacer.gap) line
    (writing c.add_answer.new.texts c.args.self.now.out.now c.args.self.now.log.now) _ start sends
    c.in-Err.field-0 hands)
    (record {
      spacer = refl;
      texts = refl;
      out = refl;
      log = refl;
      sinks = record {
        out_never_falls = hands.writes.cause.out_never_falls;
        log_never_falls = hands.writes.cause.log_never_falls;
        failed = λ _. hands.writes.cause.failed;
        out_same = λ e. cc;
        log_same = λ e. cc;
      };
      flushes = hands.writes.flushes;
    })
