use Rattle.line_texts.specs.Writer.{WriterHasWritten}
use Rattle.std.proofs.Common.{[], refl, sym, ap, subst, arith, length}
use Rattle.line_commands.proofs.box_lines.BoxLines.empty.Goals as goal

pub returns : goal.returns
returns g c = let did = c.empty.ensures in record {
  taken = refl;
  stands = λ setup line stood. record { steps = stood.steps; number_is = stood.number_is };
  number = refl;
  late = refl;
  waits = record {
    written = subst (WriterHasWritten c.empty.new.self.writer []) (sym did.ticks) did.written;
    notes_are = did.notes;
  };
  may = λ told ready fits. record {
    ready = record {
      serves = ready.serves;
      link_is = ready.link_is;
      level = ready.level;
      rising = ready.rising;
    };
    room = record {
      ticks = omega (arith, ap length did.ticks);
      notes = omega (arith, ap length did.notes);
    };
    fits = fits;
  };
}
