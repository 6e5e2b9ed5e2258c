use Rattle.std.proofs.Common.{◌≡◌, ◌∷◌, ◌++◌, [], length, length-append, take, get_or, ap, sym}
use Rattle.std.proofs.{Common.subst, Common.arith, lemmas.List.length-take}
use Rattle.std.specs.Io.KnownBytes.{prepend_known}
use Rattle.tick_drive.proofs.{Known.met_slice_more, Known.met_first, Meeting.meets_line}
use Rattle.yasir_io.specs.Pieces.{kept_bytes}
use Rattle.tick_drive.proofs.intake.Intake.feed_kept.Goals as goal

pub returns-then-self-eq0-clause-answer : goal.returns-then-self-eq0-clause-answer
returns-then-self-eq0-clause-answer c = λ marks before now text met. record {
  byte = get_or (kept_bytes c.args.self.now.pieces) 0 0;
  came = met_first _ now text _ c.requires met.source;
  full = omega (arith, met.count, c.if-self-eq0.true);
  sum = omega (
    arith,
    met.count,
    c.if-self-eq0.true,
    length-append text (get_or (kept_bytes c.args.self.now.pieces) 0 0 ∷ []),
  );
}

pub returns-in-Ok-clause-answer : goal.returns-in-Ok-clause-answer
returns-in-Ok-clause-answer c = λ marks before now text met.
    let fed = c.feed_line-taken.ensures in
    let line = rw c.in-Ok.is at fed.fed in
    meets_line _ _ marks before now text c.kept-kept.result.now c.min-within.result
    c.feed_line-taken.result.taken _ met line c.kept-kept.ensures c.skip.ensures.kept
    c.skip.ensures.ended (omega (arith, c.requires, ap length c.kept-kept.ensures))
    (omega (
      arith,
      c.requires,
      c.min-within.ensures,
      c.if-self-eq0.false,
      ap length c.kept-kept.ensures,
    ))
    (omega (arith, c.min-within.ensures))
    (omega (
      arith,
      fed.within,
      c.min-within.ensures,
      length-take c.min-within.result c.kept-kept.result.now,
    ))

pub returns-in-Err-clause-answer : goal.returns-in-Err-clause-answer
returns-in-Err-clause-answer c = λ marks before now text met.
    let kept = c.kept-kept.result.now in
    let slice = take c.min-within.result kept in
    let n = c.feed_line-taken.result.taken in
    let stop = rw c.in-Err.is at c.feed_line-taken.ensures.fed in
    let refused = stop.refused marks text met.stands in
    let source = subst (λ l. before ≡ prepend_known text (prepend_known l now))
    (sym c.kept-kept.ensures) met.source in
    record {
      front = take n slice;
      refused = record {
        byte = get_or slice n 0;
        met = record {
          came = met_slice_more before now text kept c.min-within.result n stop.within source;
          within = omega (
            arith,
            met.count,
            met.within,
            stop.within,
            length-append text (take n slice),
            length-take n slice,
            length-append (text ++ take n slice) (get_or slice n 0 ∷ []),
            length-take c.min-within.result kept,
            c.min-within.ensures,
          );
        };
        refused = refused.0;
        line = refused.1;
        why = refused.2;
      };
      quiet = refused.3;
    }
