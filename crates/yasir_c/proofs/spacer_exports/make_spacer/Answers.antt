use Rattle.std.proofs.Common.{◌∙◌, refl, ap, arith, inr}
use Rattle.{std.specs.Prelude.Some, yasir_c.proofs.Holding.holds-one}
use Rattle.yasir_c.{proofs.Holding.holds-none}
use Rattle.yasir_c.proofs.spacer_exports.make_spacer.Goals as goal

pub returns-then-holds_one : goal.returns-then-holds_one
returns-then-holds_one c = (refl, inr (inr (holds-one _ c.if-holds_one.ensures)))

pub returns : goal.returns
returns c = record {
  held = c.in-Ok.spacer;
  kind = c.in-Some.kind;
  old_is = holds-none _ c.if-holds_one.ensures;
  new_is = c.put_in.ensures ∙ ap Some c.in-Ok-new.ensures.ok;
  kind_is = c.in-Some.ensures;
  some_room = omega (arith, c.if-room-eq0.false);
  begins = c.in-Ok.ensures;
}
