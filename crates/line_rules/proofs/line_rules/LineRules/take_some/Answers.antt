use Rattle.std.proofs.Common.{◌+◌, get_or, refl, sym, ◌∙◌, ap, arith}
use Rattle.line_rules.proofs.Taking.{taken-none, taken-next}
use Rattle.line_rules.proofs.line_rules.LineRules.take_some.Goals as goal

pub loop-byte-init : goal.loop-byte-init
loop-byte-init g c = (
  refl,
  taken-none g.Self.LineRules.rules g.Self.LineRules.stands c.args.self.now
      c.args.part.now,
)

pub returns-then-full-clause-within : goal.returns-then-full-clause-within
returns-then-full-clause-within g c = omega (arith, c.loop-byte.invariant.0)

pub returns-then-full-clause-stands : goal.returns-then-full-clause-stands
returns-then-full-clause-stands g c = c.loop-byte.invariant.1.stands_for

pub returns-then-full-clause-room : goal.returns-then-full-clause-room
returns-then-full-clause-room g c = c.loop-byte.invariant.1.had_room

pub overflow_add-taken : goal.overflow_add-taken
overflow_add-taken g c = omega (arith, c.loop-byte.invariant.0)

pub loop-byte-preserved : goal.loop-byte-preserved
loop-byte-preserved g c =
    let at = c.loop-byte.invariant.0 in (
      ap (λ n. n + 1) at,
      taken-next g.Self.LineRules.rules g.Self.LineRules.stands c.args.self.now c.args.part.now
          c.loop-byte.self c.take.new.self c.loop-byte.taken _ c.loop-byte.invariant.1 (omega arith)
          (ap (λ n. get_or c.args.part.now n 0) (sym at))
          (λ x stands. sym c.if-full.false ∙ c.full.ensures.stands x stands) c.take.ensures,
    )

pub returns-clause-within : goal.returns-clause-within
returns-clause-within g c = omega (arith, c.loop-byte.invariant.0)

pub returns-clause-stands : goal.returns-clause-stands
returns-clause-stands g c = c.loop-byte.invariant.1.stands_for

pub returns-clause-all : goal.returns-clause-all
returns-clause-all g c = λ fewer. absurd (omega (arith, c.loop-byte.invariant.0))

pub returns-clause-room : goal.returns-clause-room
returns-clause-room g c = c.loop-byte.invariant.1.had_room
