use Rattle.std.proofs.{Common.refl, Common.arith, lemmas.List.length-take}
use Rattle.yasir_ticks.proofs.WholeLines.{takes_pairs}
use Rattle.yasir_ticks.proofs.reader.TickReader.take_long_line.Goals as goal

pub returns-clause-whole : goal.returns-clause-whole
returns-clause-whole c =
    let pairs = c.decode_front-pairs.result.pairs in
    let cut = length-take pairs c.decode_front-pairs.result.bytes in
    record {
      within = omega (arith, c.decode_front-pairs.ensures.within, c.if-bytes-lt65.false);
      ends = c.if-bytes-len-ne10.false;
      takes = takes_pairs _ _ _ _ c.requires.place c.requires.place refl refl c.put.ensures
          c.decode_front-pairs.ensures.decoded
          (omega (arith, cut, c.if-pairs-eq0.false, c.decode_front-pairs.ensures.within))
          (omega (arith, cut, c.decode_front-pairs.ensures.within));
    }
