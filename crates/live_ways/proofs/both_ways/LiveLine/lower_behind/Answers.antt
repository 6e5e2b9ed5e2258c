use Rattle.live_line.specs.declared.ways.Way.TheVariants.{Outgoing, Incoming}
use Rattle.live_ways.proofs.Lowering.{of_both, of_incoming, of_outgoing}
use Rattle.std.proofs.Common.{◌∙◌, refl, sym, inl, inr}
use Rattle.live_ways.proofs.both_ways.LiveLine.lower_behind.Goals as goal

pub returns-then-not-is_lowered : goal.returns-then-not-is_lowered
returns-then-not-is_lowered g c =
    inl (sym c.is_lowered.ensures ∙ c.if-not-is_lowered.true, refl, refl, refl)

pub lower-requires-clause-ahead : goal.lower-requires-clause-ahead
lower-requires-clause-ahead g c =
    (c.requires (sym c.is_lowered.ensures ∙ c.if-not-is_lowered.false) Outgoing).ahead

pub lower-requires-clause-stands : goal.lower-requires-clause-stands
lower-requires-clause-stands g c =
    (c.requires (sym c.is_lowered.ensures ∙ c.if-not-is_lowered.false) Outgoing).stands

pub returns-in-Err : goal.returns-in-Err
returns-in-Err g c = inr (record {
  goes_on = sym c.is_lowered.ensures ∙ c.if-not-is_lowered.false;
  answer = inr (
    Outgoing,
    (
      refl,
      record {
        fault = _;
        lowers = c.in-Err.ensures;
        others = of_incoming _ (inr (record { lines = refl; disk = refl }));
      },
    ),
  );
})

pub lower-requires-2-clause-ahead : goal.lower-requires-2-clause-ahead
lower-requires-2-clause-ahead g c =
    (c.requires (sym c.is_lowered.ensures ∙ c.if-not-is_lowered.false) Incoming).ahead

pub lower-requires-2-clause-stands : goal.lower-requires-2-clause-stands
lower-requires-2-clause-stands g c =
    (c.requires (sym c.is_lowered.ensures ∙ c.if-not-is_lowered.false) Incoming).stands

pub returns-in-Ok-lower : goal.returns-in-Ok-lower
returns-in-Ok-lower g c = inr (record {
  goes_on = sym c.is_lowered.ensures ∙ c.if-not-is_lowered.false;
  answer = inl (refl, of_both _ c.in-Ok.ensures c.in-Ok-lower.ensures);
})

pub returns-in-Err-lower : goal.returns-in-Err-lower
returns-in-Err-lower g c = inr (record {
  goes_on = sym c.is_lowered.ensures ∙ c.if-not-is_lowered.false;
  answer = inr (
    Incoming,
    (
      refl,
      record {
        fault = _;
        lowers = c.in-Err-lower.ensures;
        others = of_outgoing _ (inl c.in-Ok.ensures);
      },
    ),
  );
})
