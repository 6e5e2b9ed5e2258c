use Rattle.std.proofs.Common.{◌∙◌, Ok, refl, ap, sym, arith}
use Rattle.std.proofs.lemmas.List.{length-take, take_all}
use Rattle.yasir_ticks.proofs.WholeLines.{takes_pairs}
use Rattle.yasir_ticks.proofs.reader.TickReader.take_full_line.Goals as goal

pub returns-clause-whole : goal.returns-clause-whole
returns-clause-whole c =
    let bytes = c.in_ok-decoded.decoded in
    let cut = length-take 32 bytes in
    record {
      within = omega (arith, c.requires.long);
      ends = c.requires.ends;
      takes = takes_pairs _ _ _ _ c.requires.place c.requires.place refl refl c.put.ensures
          (c.in_ok-decoded.ensures ∙ ap Ok (sym (take_all 32 bytes (omega arith))))
          (omega (arith, cut)) (omega (arith, cut));
    }
