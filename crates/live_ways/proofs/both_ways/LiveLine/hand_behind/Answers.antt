use Rattle.std.proofs.Common.{◌∙◌, refl, sym, inl, inr, Ok, Err}
use Rattle.live_ways.proofs.both_ways.LiveLine.hand_behind.Goals as goal

pub returns-then-is_stopped : goal.returns-then-is_stopped
returns-then-is_stopped g c = inl (sym c.is_stopped.ensures ∙ c.if-is_stopped.true, refl, refl)

pub hand_both-requires : goal.hand_both-requires
hand_both-requires g c = c.requires (sym c.is_stopped.ensures ∙ c.if-is_stopped.false)

pub returns-in-Ok : goal.returns-in-Ok
returns-in-Ok g c = inr (record {
  goes_on = sym c.is_stopped.ensures ∙ c.if-is_stopped.false;
  answer = Ok tt;
  hands = c.in-Ok.ensures;
  is = refl;
})

pub returns-in-Err : goal.returns-in-Err
returns-in-Err g c = inr (record {
  goes_on = sym c.is_stopped.ensures ∙ c.if-is_stopped.false;
  answer = Err c.in-Err.end;
  hands = c.in-Err.ensures;
  is = refl;
})
