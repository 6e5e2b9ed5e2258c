use Rattle.live_commands.proofs.Lowering.{goes_on_at}
use Rattle.std.proofs.Common.{◌∙◌, refl, sym, inl, inr, Ok, Err}
use Rattle.live_commands.proofs.live_box.LiveBox.lower_behind.Goals as goal

pub returns : goal.returns
returns g c = inl (sym c.is_lowered.ensures ∙ c.if-is_lowered.false, refl, refl, refl)

pub lower-requires-clause-ahead : goal.lower-requires-clause-ahead
lower-requires-clause-ahead g c =
    (c.requires (goes_on_at c.args.end (sym c.is_lowered.ensures ∙ c.if-is_lowered.true))).ahead

pub lower-requires-clause-stands : goal.lower-requires-clause-stands
lower-requires-clause-stands g c =
    (c.requires (goes_on_at c.args.end (sym c.is_lowered.ensures ∙ c.if-is_lowered.true))).stands

pub returns-in-Ok : goal.returns-in-Ok
returns-in-Ok g c = inr (record {
  goes_on = sym c.is_lowered.ensures ∙ c.if-is_lowered.true;
  ticks = refl;
  answer = Ok tt;
  lowers = c.in-Ok.ensures;
  is = refl;
})

pub returns-in-Err : goal.returns-in-Err
returns-in-Err g c = inr (record {
  goes_on = sym c.is_lowered.ensures ∙ c.if-is_lowered.true;
  ticks = refl;
  answer = Err c.in-Err.field-0;
  lowers = c.in-Err.ensures;
  is = refl;
})
