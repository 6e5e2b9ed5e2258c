use Rattle.std.proofs.Common.{[], take, sym, arith, append-nil}
use Rattle.yasir_ticks.specs.CanonicalText.{byte_line, silence_line}
use Rattle.line_texts.proofs.LineWriters.{bytes_last, silence_last, nothing_last}
use Rattle.line_texts.proofs.line_writer.LineWriter.finish.Goals as goal

pub returns-then-self-gt0 : goal.returns-then-self-gt0
returns-then-self-gt0 c = record {
  line = byte_line (take c.args.self.now.count c.args.self.now.bytes);
  added = c.push_byte_line.ensures;
  whole = bytes_last c.args.self.now c.if-self-gt0.true (omega arith);
}

pub returns-then-self-gt0-2 : goal.returns-then-self-gt0-2
returns-then-self-gt0-2 c = record {
  line = silence_line c.args.self.now.silence;
  added = c.push_silence_line.ensures;
  whole = silence_last c.args.self.now (omega arith) c.if-self-gt0-2.true;
}

pub returns-else-self-gt0-2 : goal.returns-else-self-gt0-2
returns-else-self-gt0-2 c = record {
  line = [];
  added = sym (append-nil c.args.room.now.items);
  whole = nothing_last c.args.self.now (omega arith) (omega arith);
}
