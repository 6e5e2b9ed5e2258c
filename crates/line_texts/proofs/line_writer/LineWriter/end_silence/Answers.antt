use Rattle.line_texts.proofs.{LineRooms.silence_line_short, LineWriters.silence_ended}
use Rattle.std.proofs.Common.{◌∙◌, length, take, refl, ap, arith}
use Rattle.std.proofs.lemmas.List.{take_at, length-take-le}
use Rattle.yasir_ticks.{proofs.RightTicks.are_bytes, specs.CanonicalText.silence_line}
use Rattle.line_texts.proofs.line_writer.LineWriter.end_silence.Goals as goal

pub returns-clause-taken : goal.returns-clause-taken
returns-clause-taken c =
    let count = c.min-count.result in
    let copied = c.copy_from_slice.ensures.after in
    let size = length-take-le count c.args.bytes.now (omega arith) in
    record {
      line = silence_line c.args.self.now.silence;
      added = c.push_silence_line.ensures;
      taken = silence_ended c.args.self.now _ (take count c.args.bytes.now)
          (are_bytes _ c.args.bytes.now (λ i. let fit = c.type_inv.bytes i in omega arith))
          c.requires.begun refl
          (take_at c.copy_from_slice.new.self _ count (omega (arith, ap length copied, size))
          ∙ copied)
          (omega arith);
      short = silence_line_short c.args.self.now.silence (omega (arith, c.args.self.now.short));
    }
