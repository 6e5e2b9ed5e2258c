use Rattle.capture_text.proofs.{Refusals.refuses_line, RowLaws.rows_right, RowLaws.rows_open}
use Rattle.capture_text.specs.RowReader.{place_of}
use Rattle.std.proofs.Common.{◌∙◌, None, sym}
use Rattle.capture_text.proofs.row_reader.RowReaderCaptureReader.finish.Goals as goal

pub returns-then-may_end-clause-right : goal.returns-then-may_end-clause-right
returns-then-may_end-clause-right g c = λ text items s.
    rows_right g.F.RowForm.row_at g.F.RowForm.name_of (place_of c.args.self) text items s.walks
    (sym c.may_end.ensures ∙ c.if-may_end.true)

pub returns-clause-refused : goal.returns-clause-refused
returns-clause-refused g c = λ text items s. (
  rows_open g.F.RowForm.row_at g.F.RowForm.name_of (place_of c.args.self) text items s.walks
      (sym c.may_end.ensures ∙ c.if-may_end.false),
  refuses_line g.F.RowForm.row_at g.F.RowForm.name_of c.args.self text items None c.refusal.result s
      c.refusal.ensures.offset c.refusal.ensures.line c.refusal.ensures.why,
)
