use Rattle.capture_text.proofs.RowLaws.{nothing_walks, nothing_so_far}
use Rattle.capture_text.specs.{Rows.first_state, declared.row.Stage.TheVariants.Start}
use Rattle.std.proofs.Common.{◌∙◌, length, refl, ap, arith}
use Rattle.capture_text.proofs.row_reader.RowReaderCaptureReader.start.Goals as goal

pub returns-clause-stands : goal.returns-clause-stands
returns-clause-stands g c = record {
  walks = nothing_walks g.F.RowForm.row_at g.F.RowForm.name_of _
      (ap (λ n. (record { stage = Start; names = n }, c.new-2.result.items)) c.new.ensures
      ∙ ap (λ x. (first_state, x)) c.new-2.ensures);
  open_yet = refl;
  counted = refl;
  begun = omega (arith, ap length c.new-2.ensures);
  lines = refl;
}

pub returns-clause-begins : goal.returns-clause-begins
returns-clause-begins g c = nothing_so_far g.F.RowForm.row_at g.F.RowForm.name_of
