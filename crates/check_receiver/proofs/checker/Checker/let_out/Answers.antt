use Rattle.{check_receiver.specs.Phases.passes_in, yasir_ticks.specs.DelayRing.ring_ticks}
use Rattle.link_box.specs.Turns.{HasTurned, tick_or_silence}
use Rattle.line_rules.specs.Outlet.{OutletStandsForTicks, refused_by, filled_bytes}
use Rattle.std.proofs.Common.{◌∙◌, ℕ, ◌++◌, get_or, sym, ap, subst, ◌==◌, Bool, Option}
use Rattle.yasir_ticks.specs.declared.tick.Tick.{Tick, TheVariants.Silent, TheVariants.Byte}
use Rattle.check_receiver.proofs.checker.Checker.let_out.Goals as goal

pub returns-in-Byte-clause-out : goal.returns-in-Byte-clause-out
returns-in-Byte-clause-out g c = λ x stands.
    let old = c.args.self.now in
    let P : Bool → Tick → Type 0 = λ p u. HasTurned g.R.LineRules old.outlet c.emit.new.self
    (old.until == 0) p x (Byte c.emit.result) u in
    subst (λ p. P p (get_or (ring_ticks old.ring) 0 Silent)) c.passes-passed.ensures
    (subst (λ u. P c.passes-passed.result u) (sym c.in-Byte.is ∙ c.turn.ensures.answer)
    (λ knows. (
      ap (λ b. Byte b) (c.emit.ensures.answer x knows),
      c.emit.ensures.stands x knows,
      c.emit.ensures.owed x knows,
      c.emit.ensures.refused,
    )))

pub returns-in-Some-clause-out : goal.returns-in-Some-clause-out
returns-in-Some-clause-out g c = λ x stands.
    let old = c.args.self.now in
    let P : Tick → Type 0 = λ u. HasTurned g.R.LineRules old.outlet c.fill.new.self
    (old.until == 0) (passes_in old.phase) x (Byte c.in-Some.byte) u in
    let Q : Option ℕ → Type 0 = λ o. OutletStandsForTicks g.R.LineRules c.fill.new.self
    (x ++ filled_bytes o) in
    subst P (sym c.in-Silent.is ∙ c.turn.ensures.answer) (
      ap tick_or_silence (sym c.in-Some.is ∙ c.fill.ensures.answer x stands),
      subst Q (c.fill.ensures.answer x stands) (c.fill.ensures.stands x stands),
      c.fill.ensures.owed x stands,
      λ none. ap refused_by (c.fill.ensures.unowed none),
    )

pub returns-in-None-clause-out : goal.returns-in-None-clause-out
returns-in-None-clause-out g c = λ x stands.
    let old = c.args.self.now in
    let P : Tick → Type 0 = λ u. HasTurned g.R.LineRules old.outlet c.fill.new.self
    (old.until == 0) (passes_in old.phase) x Silent u in
    let Q : Option ℕ → Type 0 = λ o. OutletStandsForTicks g.R.LineRules c.fill.new.self
    (x ++ filled_bytes o) in
    subst P (sym c.in-Silent.is ∙ c.turn.ensures.answer) (
      ap tick_or_silence (sym c.in-None.is ∙ c.fill.ensures.answer x stands),
      subst Q (c.fill.ensures.answer x stands) (c.fill.ensures.stands x stands),
      c.fill.ensures.owed x stands,
      λ none. ap refused_by (c.fill.ensures.unowed none),
    )
