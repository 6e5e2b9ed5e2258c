use Rattle.line_texts.proofs.{LineRooms.byte_line_short, LineWriters.bytes_filled}
use Rattle.std.proofs.Common.{◌∙◌, ◌-◌, ◌++◌, length, take, refl, ap, arith}
use Rattle.std.proofs.lemmas.{List.length-append, List.length-take-le, Slice.take-put_mid}
use Rattle.yasir_ticks.{proofs.RightTicks.are_bytes, specs.CanonicalText.byte_line}
use Rattle.line_texts.proofs.line_writer.LineWriter.fill.Goals as goal

pub returns-clause-taken : goal.returns-clause-taken
returns-clause-taken c =
    let before = c.args.self.now in
    let copied = c.copy_from_slice.ensures.after in
    let size = length-take-le (32 - before.count) c.args.bytes.now (omega arith) in
    let is = take-put_mid before.count (32 - before.count) before.bytes c.copy_from_slice.new.self
    32 (omega (arith, ap length copied, size)) (omega arith)
    ∙ ap (λ l. take before.count before.bytes ++ l) copied in
    let front = length-take-le before.count before.bytes (omega arith) in
    let long = ap length is ∙ length-append (take before.count before.bytes)
    (take (32 - before.count) c.args.bytes.now) in
    record {
      line = byte_line (take 32 _);
      added = c.push_byte_line.ensures;
      taken = bytes_filled before _ _ (take (32 - before.count) c.args.bytes.now)
          (are_bytes _ c.args.bytes.now (λ i. let fit = c.type_inv.bytes i in omega arith))
          c.requires.no_silence refl c.requires.no_silence is
          (omega (arith, long, front, size));
      short = byte_line_short 32 _ (omega arith);
    }
