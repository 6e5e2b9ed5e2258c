use Rattle.std.proofs.Common.{◌∙◌, ◌++◌, ◌∷◌, [], ◌+◌, Some, Err, ap, sym, arith}
use Rattle.std.proofs.lemmas.List.{length-append}
use Rattle.capture_text.specs.RowReader.{place_of, state_of}
use Rattle.capture_text.proofs.RowLaws.{rows_more, rows_each, rows_so_far, rows_none}
use Rattle.capture_text.proofs.Refusals.{refuses_line, cause_in, lines_more}
use Rattle.capture_text.proofs.row_reader.RowReaderCaptureReader.feed.Goals as goal

pub returns-in-Ok-clause-stands : goal.returns-in-Ok-clause-stands
returns-in-Ok-clause-stands g c = λ text items s. record {
  walks = rows_more g.F.RowForm.row_at g.F.RowForm.name_of (place_of c.args.self.now) text items
      s.walks c.args.b (place_of c.step.new.self) c.in-Ok.seen c.in-Ok.ensures.0;
  open_yet = c.in-Ok.ensures.2 ∙ s.open_yet;
  counted = omega (arith, c.in-Ok.ensures.1, s.counted, length-append text (c.args.b ∷ []));
  begun = c.in-Ok.ensures.3 s.begun;
  lines = lines_more text c.args.b _ _ s.lines c.in-Ok.ensures.4;
}

pub returns-in-Ok-clause-begins : goal.returns-in-Ok-clause-begins
returns-in-Ok-clause-begins g c = λ text items s.
    rows_so_far g.F.RowForm.row_at g.F.RowForm.name_of (place_of c.step.new.self)
    (text ++ c.args.b ∷ []) _
    (rows_more g.F.RowForm.row_at g.F.RowForm.name_of (place_of c.args.self.now) text items s.walks
    c.args.b (place_of c.step.new.self) c.in-Ok.seen c.in-Ok.ensures.0)

pub returns-in-Ok-clause-each : goal.returns-in-Ok-clause-each
returns-in-Ok-clause-each g c = λ text items s.
    rows_each g.F.RowForm.row_at g.F.RowForm.name_of (place_of c.step.new.self)
    (text ++ c.args.b ∷ []) _
    (rows_more g.F.RowForm.row_at g.F.RowForm.name_of (place_of c.args.self.now) text items s.walks
    c.args.b (place_of c.step.new.self) c.in-Ok.seen c.in-Ok.ensures.0)

pub returns-in-Err-clause-refused : goal.returns-in-Err-clause-refused
returns-in-Err-clause-refused g c = λ text items s. (
  rows_none g.F.RowForm.row_at g.F.RowForm.name_of (place_of c.args.self.now) text items s.walks
      c.args.b c.in-Err.why c.in-Err.ensures.0,
  refuses_line g.F.RowForm.row_at g.F.RowForm.name_of c.args.self.now text items (Some c.args.b)
      c.refusal-bad.result s (c.refusal-bad.ensures.offset ∙ c.in-Err.ensures.1)
      (c.refusal-bad.ensures.line ∙ ap (λ n. n + 1) c.in-Err.ensures.2)
      (cause_in g.F.RowForm.row_at g.F.RowForm.name_of (state_of c.args.self.now)
      c.args.self.now.line.items c.args.b c.refusal-bad.result.why
      (c.in-Err.ensures.0 ∙ ap Err (sym c.refusal-bad.ensures.why))),
)
