use Rattle.line_texts.specs.{Adding.TextHasRoom, Sending.sink_texts, Texts.waiting_in}
use Rattle.line_commands.specs.{SpacedTexts.spaced_texts, SpacesLine.DrivesSpacer}
use Rattle.std.proofs.Common.{◌≡◌, ◌∙◌, [], ap, refl, subst, sym, arith}
use Rattle.tick_drive.specs.{Consumers.IsSinkCause, Consumers.is_write_fault, Drive.drive_answer_of}
use Rattle.yasir_io.specs.Flushed.{NoneFlushed}
use Rattle.line_commands.proofs.space_command.drive_spacer.Goals as goal

pub drive_lines-requires : goal.drive_lines-requires
drive_lines-requires g c =
    let begun = c.new-lines.ensures in
    record {
      none = ap (λ m. g.B.LineSpacer.taken m.now) begun.spacer ∙ c.requires.fresh;
      able = record {
        few = omega (arith, begun.owed);
        room = subst (λ m. TextHasRoom m.now) (sym begun.texts) c.requires.room;
      };
    }

pub returns-clause-driven : goal.returns-clause-driven
returns-clause-driven g c =
    let begun = c.new-lines.ensures in
    let ended = c.drive_lines.new.lines in
    let went = c.drive_lines.ensures.driven.keeps in
    let texts : c.texts-1.given.0 ≡ ended.texts.now =
    c.texts-1.given.1 (sym (went.texts ∙ ap (λ m. m.ghost_name) begun.texts)) in
    let out : c.out-1.given.0 ≡ ended.out.now =
    c.out-1.given.1 (sym (went.out ∙ ap (λ m. m.ghost_name) begun.out)) in
    let log : c.log-1.given.0 ≡ ended.log.now =
    c.log-1.given.1 (sym (went.log ∙ ap (λ m. m.ghost_name) begun.log)) in
    rw (texts, out, log) (subst (λ o. DrivesSpacer (spaced_texts g.B.LineSpacer.reads
    g.B.LineSpacer.gap) (g.S.Source.left c.args.input.now)
    (g.S.Source.left c.drive_lines.new.input)
    (sink_texts (g.O.Sink.held o.now) (g.L.Sink.held c.args.log.now))
    (sink_texts (g.O.Sink.held ended.out.now) (g.L.Sink.held ended.log.now))
    (waiting_in ended.texts.now) c.drive_lines.result) begun.out
    (subst (λ l. DrivesSpacer (spaced_texts g.B.LineSpacer.reads
    g.B.LineSpacer.gap) (g.S.Source.left c.args.input.now)
    (g.S.Source.left c.drive_lines.new.input)
    (sink_texts (g.O.Sink.held c.new-lines.result.out.now) (g.L.Sink.held l.now))
    (sink_texts (g.O.Sink.held ended.out.now) (g.L.Sink.held ended.log.now))
    (waiting_in ended.texts.now) c.drive_lines.result) begun.log
    (c.drive_lines.ensures.driven.driven _ (record {
      line = [];
      behind = [];
      are = refl;
      many = sym begun.owed;
      texts = record {
        owes = rw begun.spacer c.requires.owes;
        sends = rw begun.texts (c.requires.nothing _);
      };
    }))))

pub returns-clause-sinks : goal.returns-clause-sinks
returns-clause-sinks g c =
    let begun = c.new-lines.ensures in
    let ended = c.drive_lines.new.lines in
    let went = c.drive_lines.ensures.driven.keeps in
    let out : c.out-1.given.0 ≡ ended.out.now =
    c.out-1.given.1 (sym (went.out ∙ ap (λ m. m.ghost_name) begun.out)) in
    let log : c.log-1.given.0 ≡ ended.log.now =
    c.log-1.given.1 (sym (went.log ∙ ap (λ m. m.ghost_name) begun.log)) in
    rw (out, log) (subst (λ o. IsSinkCause (g.O.Sink.faults o.now) (g.O.Sink.faults ended.out.now)
    (g.L.Sink.faults c.args.log.now) (g.L.Sink.faults ended.log.now)
    (is_write_fault (drive_answer_of c.drive_lines.result))) begun.out
    (subst (λ l. IsSinkCause (g.O.Sink.faults c.new-lines.result.out.now)
    (g.O.Sink.faults ended.out.now) (g.L.Sink.faults l.now) (g.L.Sink.faults ended.log.now)
    (is_write_fault (drive_answer_of c.drive_lines.result))) begun.log went.sinks))

pub returns-clause-flushes : goal.returns-clause-flushes
returns-clause-flushes g c =
    let begun = c.new-lines.ensures in
    let ended = c.drive_lines.new.lines in
    let went = c.drive_lines.ensures.driven.keeps in
    let out : c.out-1.given.0 ≡ ended.out.now =
    c.out-1.given.1 (sym (went.out ∙ ap (λ m. m.ghost_name) begun.out)) in
    let log : c.log-1.given.0 ≡ ended.log.now =
    c.log-1.given.1 (sym (went.log ∙ ap (λ m. m.ghost_name) begun.log)) in
    rw (out, log) (subst (λ o. NoneFlushed g.O.Sink g.L.Sink o.now ended.out.now
    c.args.log.now ended.log.now) begun.out
    (subst (λ l. NoneFlushed g.O.Sink g.L.Sink c.new-lines.result.out.now ended.out.now
    l.now ended.log.now) begun.log went.flushes))
