use Rattle.std.proofs.Common.{rules, ◌∙◌, refl, ap, inr}
use Rattle.{std.specs.Prelude.Some, yasir_c.proofs.Holding.holds-one}
use Rattle.yasir_c.{proofs.Holding.holds-none, specs.declared.held.Held.TheVariants.LineBox}
use Rattle.yasir_c.proofs.exports.make.Goals as goal

pub returns-then-holds_one : goal.returns-then-holds_one
returns-then-holds_one c = (refl, inr (inr (holds-one _ c.if-holds_one.ensures)))

pub returns : goal.returns
returns c = record {
  held = c.in-Ok.held;
  kind = c.in-Some.kind;
  dir = c.in-Some.dir;
  new_is = c.put_in.ensures
      ∙ ap Some (c.in-Ok-new.ensures.ok ∙ ap (λ b. LineBox b) c.new-2.ensures);
  asks = record {
    kind_is = search rules;
    length_is = c.if-slots.false;
    holds_none = holds-none _ c.if-holds_one.ensures;
  };
  begins = rw (c.slot_in-a.ensures, c.slot_in-b.ensures) at c.in-Ok.ensures.begins;
}
