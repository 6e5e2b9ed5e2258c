use Rattle.std.proofs.Common.{take, refl, arith}
use Rattle.yasir_ticks.specs.CanonicalText.{byte_line}
use Rattle.line_texts.proofs.{LineRooms.byte_line_short, LineWriters.bytes_ended}
use Rattle.line_texts.proofs.line_writer.LineWriter.end_bytes.Goals as goal

pub returns-clause-taken : goal.returns-clause-taken
returns-clause-taken c = record {
  line = byte_line (take c.args.self.now.count c.args.self.now.bytes);
  added = c.push_byte_line.ensures;
  taken = bytes_ended c.args.self.now _ c.min-taken.result c.requires.begun (omega arith)
      refl refl (omega arith);
  short = byte_line_short c.args.self.now.count c.args.self.now.bytes (omega (
    arith,
    c.args.self.now.few,
  ));
}
