use Rattle.line_texts.proofs.{LineRooms.byte_line_short, LineWriters.bytes_filled}
use Rattle.std.proofs.Common.{◌≡◌, ◌∙◌, ◌++◌, length, take, sym, ap, arith}
use Rattle.std.proofs.lemmas.List.{take_all, length-take-le}
use Rattle.yasir_ticks.{proofs.RightTicks.are_bytes, specs.CanonicalText.byte_line}
use Rattle.line_texts.proofs.line_writer.LineWriter.write_whole.Goals as goal

pub returns-clause-taken : goal.returns-clause-taken
returns-clause-taken c =
    let before = c.args.self.now in
    let whole = c.in-Some.whole.now in
    let first = c.in-Some.ensures.cases.0 in
    let size = length-take-le 32 c.args.bytes.now c.requires.fills in
    let is : take 32 whole ≡ take 32 c.args.bytes.now =
    take_all 32 whole (omega (arith, ap length first, size)) ∙ first in
    record {
      line = byte_line (take 32 whole);
      added = c.push_byte_line.ensures;
      taken = bytes_filled before before (take 32 whole) (take 32 c.args.bytes.now)
          (are_bytes 32 c.args.bytes.now (λ i. let fit = c.type_inv.bytes i in omega arith))
          c.requires.no_silence c.requires.none c.requires.no_silence
          (is ∙ sym (ap (λ n. take n before.bytes ++ take 32 c.args.bytes.now) c.requires.none))
          (ap length is ∙ size);
      short = byte_line_short 32 whole (omega arith);
    }
