use Rattle.line_texts.proofs.{LineRooms.silence_line_short, LineWriters.silence_filled}
use Rattle.std.proofs.Common.{refl}
use Rattle.{std.proofs.Common.arith, yasir_ticks.specs.CanonicalText.silence_line}
use Rattle.line_texts.proofs.line_writer.LineWriter.complete_by_silence.Goals as goal

pub returns-clause-taken : goal.returns-clause-taken
returns-clause-taken c = record {
  line = silence_line 1000000;
  added = c.push_silence_line.ensures;
  taken = silence_filled c.args.self.now _ _ 1000000 (omega arith) (omega arith) refl
      (omega (arith, c.args.self.now.short)) refl;
  short = silence_line_short 1000000 (omega arith);
}
