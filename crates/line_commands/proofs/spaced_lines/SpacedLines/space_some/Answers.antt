use Rattle.device_model.specs.Frames.{frames_lent}
use Rattle.line_commands.proofs.Spacing.{none_read, read_written, read_stopped}
use Rattle.line_commands.specs.SpacedLinesLaws.{keeps-none}
use Rattle.std.proofs.Common.{◌≡◌, ◌∙◌, ◌+◌, ◌++◌, None, length, take, ap, subst, sym, arith}
use Rattle.std.proofs.{Common.length-append, Common.refl, lemmas.List.length-take-le}
use Rattle.yasir_ticks.{proofs.TickRuns.ticks_in-run, specs.TickRun.run_ticks}
use Rattle.line_commands.proofs.spaced_lines.SpacedLines.space_some.Goals as goal

pub hear_front-taken-requires-clause-room : goal.hear_front-taken-requires-clause-room
hear_front-taken-requires-clause-room g c = omega (
  arith,
  c.requires.may.room,
  ap length (ticks_in-run c.args.run),
)

pub write_owed-requires-clause-room : goal.write_owed-requires-clause-room
write_owed-requires-clause-room g c = c.requires.may.able.room

pub returns-in_default : goal.returns-in_default
returns-in_default g c =
    let heard = c.hear_front-taken in
    none_read g.B.LineSpacer g.O.Sink g.L.Sink c.args.self.now _ c.args.run heard.result.taken
    heard.result.start heard.ensures.some heard.ensures.within heard.ensures.taken refl
    (λ line owed many owes. heard.ensures.owes line owed owes) (λ start line sends. sends)
    (record {
      spacer = refl;
      texts = refl;
      out = refl;
      log = refl;
      sinks = (keeps-none g.B.LineSpacer g.O.Sink g.L.Sink c.args.self.now).sinks;
      flushes = (keeps-none g.B.LineSpacer g.O.Sink g.L.Sink c.args.self.now).flushes;
    }) c.in_default.is c.requires.may.able c.requires.may.able.room

pub returns-then-queue_read : goal.returns-then-queue_read
returns-then-queue_read g c =
    let heard = c.hear_front-taken in
    let spacer = g.B.LineSpacer in
    let n = heard.result.taken in
    let given = take n (run_ticks c.args.run) in
    let few : length given ≡ n = length-take-le n (run_ticks c.args.run) heard.ensures.within in
    none_read spacer g.O.Sink g.L.Sink c.args.self.now _ c.args.run n
    None heard.ensures.some heard.ensures.within
    (c.queue_read.ensures.taken ∙ heard.ensures.taken) refl
    (λ line owed many owes.
    let long : length (owed ++ given) ≡ c.args.self.now.owed + n =
    omega (arith, length-append owed given, few, many) in
    c.queue_read.ensures.owes c.if-queue_read.true c.in-Some.field-0 line (owed ++ given) long
    (subst (λ r. spacer.owes heard.new.self line (owed ++ given)
    (frames_lent r (spacer.lent heard.new.self))) c.in-Some.is (heard.ensures.owes line owed owes)))
    (λ start line sends. sends) (record {
      spacer = refl;
      texts = refl;
      out = refl;
      log = refl;
      sinks = (keeps-none g.B.LineSpacer g.O.Sink g.L.Sink c.args.self.now).sinks;
      flushes = (keeps-none g.B.LineSpacer g.O.Sink g.L.Sink c.args.self.now).flushes;
    }) refl c.requires.may.able c.requires.may.able.room

pub returns-in-Ok : goal.returns-in-Ok
returns-in-Ok g c =
    let heard = c.hear_front-taken in
    let spacer = g.B.LineSpacer in
    let n = heard.result.taken in
    read_written spacer g.O.Sink g.L.Sink c.args.self.now _ c.args.run n
    heard.result.start heard.ensures.some heard.ensures.within
    (c.queue_read.ensures.taken ∙ heard.ensures.taken) refl
    (λ line owed many owes.
    subst (λ s. spacer.owes s line (owed ++ take n (run_ticks c.args.run))
    (frames_lent heard.result.start (spacer.lent s))) (sym (c.queue_read.ensures.stays
    c.if-queue_read.false)) (heard.ensures.owes line owed owes))
    (λ start line sends. sends) (record {
      spacer = refl;
      texts = refl;
      out = refl;
      log = refl;
      sinks = (keeps-none g.B.LineSpacer g.O.Sink g.L.Sink c.args.self.now).sinks;
      flushes = (keeps-none g.B.LineSpacer g.O.Sink g.L.Sink c.args.self.now).flushes;
    }) _ c.in-Ok.ensures

pub returns-in-Err : goal.returns-in-Err
returns-in-Err g c =
    let heard = c.hear_front-taken in
    let spacer = g.B.LineSpacer in
    let n = heard.result.taken in
    read_stopped spacer g.O.Sink g.L.Sink c.args.self.now _ c.args.run n
    heard.result.start heard.ensures.some heard.ensures.within
    (c.queue_read.ensures.taken ∙ heard.ensures.taken) refl
    (λ line owed many owes.
    subst (λ s. spacer.owes s line (owed ++ take n (run_ticks c.args.run))
    (frames_lent heard.result.start (spacer.lent s))) (sym (c.queue_read.ensures.stays
    c.if-queue_read.false)) (heard.ensures.owes line owed owes))
    (λ start line sends. sends) (record {
      spacer = refl;
      texts = refl;
      out = refl;
      log = refl;
      sinks = (keeps-none g.B.LineSpacer g.O.Sink g.L.Sink c.args.self.now).sinks;
      flushes = (keeps-none g.B.LineSpacer g.O.Sink g.L.Sink c.args.self.now).flushes;
    }) _ _ c.in-Err.ensures
