use Rattle.std.proofs.{Common.Some, Common.refl, Common.arith, lemmas.List.length-take}
use Rattle.yasir_ticks.proofs.{ManyBytes.free_front, ManyBytes.feed_found, WholeLines.takes_comment}
use Rattle.yasir_ticks.proofs.reader.TickReader.take_comment_line.Goals as goal

pub returns-clause-whole : goal.returns-clause-whole
returns-clause-whole c =
    let found = feed_found c.args.bytes.now c.min-room.result c.in_ok-len.len (omega arith)
    c.in_ok-len.ensures in
    let front = free_front c.args.bytes.now c.min-room.result (Some c.in_ok-len.len)
    (omega arith)
    c.in_ok-len.ensures in
    record {
      within = omega (arith, found.0);
      ends = found.1;
      takes = takes_comment _ _ _ c.requires.place c.requires.place refl refl front.1
          (omega (arith, found.0, length-take c.in_ok-len.len c.args.bytes.now));
    }
