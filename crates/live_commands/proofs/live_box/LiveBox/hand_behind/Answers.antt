use Rattle.std.proofs.Common.{◌∙◌, refl, sym, inl, inr, Ok, Err, arith}
use Rattle.live_commands.proofs.live_box.LiveBox.hand_behind.Goals as goal

pub returns-then-is_stopped : goal.returns-then-is_stopped
returns-then-is_stopped g c =
    inl (sym c.is_stopped.ensures ∙ c.if-is_stopped.true, refl, refl)

pub returns-in-Ok : goal.returns-in-Ok
returns-in-Ok g c = inr (record {
  goes_on = sym c.is_stopped.ensures ∙ c.if-is_stopped.false;
  ticks = refl;
  answer = Ok tt;
  hands = c.in-Ok.ensures;
  is = refl;
})

pub returns-in-Err : goal.returns-in-Err
returns-in-Err g c = inr (record {
  goes_on = sym c.is_stopped.ensures ∙ c.if-is_stopped.false;
  ticks = refl;
  answer = Err c.in-Err.stop;
  hands = c.in-Err.ensures;
  is = refl;
})

pub hand_on_all-requires : goal.hand_on_all-requires
hand_on_all-requires g c =
    let may = c.requires (sym c.is_stopped.ensures ∙ c.if-is_stopped.false) in
    let room = may.room.ticks in record {
      ready = may.ready;
      line_room = omega (arith, room);
      fits = may.fits;
      ahead = may.ahead;
      stands = may.stands;
    }
