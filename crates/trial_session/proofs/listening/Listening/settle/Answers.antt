use Rattle.std.proofs.Common.{◌∙◌, ◌++◌, [], ap, subst, sym, arith, length, map}
use Rattle.std.proofs.lemmas.Bool.{eqb-true}
use Rattle.yasir_ticks.specs.declared.tick.Tick.TheVariants.{Byte}
use Rattle.trial_session.specs.Sides.{SideHasHeard}
use Rattle.trial_session.proofs.HeardRuns.{none-waits, hearing-as, hears-all}
use Rattle.trial_session.proofs.listening.Listening.settle.Goals as goal

pub returns-then-is_empty-clause-taken : goal.returns-then-is_empty-clause-taken
returns-then-is_empty-clause-taken g c =
    let none = eqb-true (length c.args.waiting.now.items) 0 (sym c.if-is_empty.ensures) in
    omega (arith, none)

pub returns-then-is_empty-clause-none : goal.returns-then-is_empty-clause-none
returns-then-is_empty-clause-none g c =
    none-waits c.args.waiting.now.items
    (eqb-true (length c.args.waiting.now.items) 0 (sym c.if-is_empty.ensures))

pub returns-then-is_empty-clause-heard : goal.returns-then-is_empty-clause-heard
returns-then-is_empty-clause-heard g c = λ line so.
    hears-all g.V.Device c.args.self.now line
    (hearing-as g.V.Device c.args.self.now c.args.waiting.now.items [] line
    (none-waits c.args.waiting.now.items
    (eqb-true (length c.args.waiting.now.items) 0 (sym c.if-is_empty.ensures))) so)

pub hear_bytes-requires-clause-room : goal.hear_bytes-requires-clause-room
hear_bytes-requires-clause-room g c =
    omega (arith, c.requires.room, ap length c.as_slice.ensures.value)

pub returns-clause-taken : goal.returns-clause-taken
returns-clause-taken g c =
    omega (arith, c.hear_bytes.ensures.taken, ap length c.as_slice.ensures.value)

pub returns-clause-heard : goal.returns-clause-heard
returns-clause-heard g c = λ line so.
    subst (SideHasHeard g.V.Device c.hear_bytes.new.self)
    (ap (λ x. so.front ++ map (λ b. Byte b) x) c.as_slice.ensures.value ∙ sym so.is)
    (c.hear_bytes.ensures.heard so.front so.hears)
