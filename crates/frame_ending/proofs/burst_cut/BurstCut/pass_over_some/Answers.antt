use Rattle.frame_ending.proofs.Passing.{passes-over, passed_over, quiet-not_extra, open-not_extra}
use Rattle.frame_ending.specs.{Cuts.cuts_after, Stands.CutStandsFor}
use Rattle.{frame_ending.specs.declared.cut.Cut.TheVariants.Extra, std.proofs.Common.◌≡◌}
use Rattle.std.proofs.Common.{◌∙◌, ◌+◌, ◌<◌, ◌++◌, sym, subst, arith, length, map, List, ℕ, refl}
use Rattle.std.proofs.{Common.false, Common.◌||◌, lemmas.Bool.or_parts, lemmas.List.take_all}
use Rattle.yasir_ticks.specs.declared.tick.Tick.TheVariants.{Byte}
use Rattle.frame_ending.proofs.burst_cut.BurstCut.pass_over_some.Goals as goal

pub returns-then-self-ge-T3_5_TICKS-clause-all : goal.returns-then-self-ge-T3_5_TICKS-clause-all
returns-then-self-ge-T3_5_TICKS-clause-all g c = λ fewer line b stands is.
    quiet-not_extra g.R.LineRules c.args.self.now line stands b is c.if-self-ge-T3_5_TICKS.true

pub returns-then-not-over-clause-all : goal.returns-then-not-over-clause-all
returns-then-not-over-clause-all g c = λ fewer line b stands is.
    let none : (c.args.self.now.paused || g.R.LineRules.is_full c.args.self.now.rules) ≡ false =
    sym c.is_over-over.ensures ∙ c.if-not-over.true in
    let parts = or_parts c.args.self.now.paused (g.R.LineRules.is_full c.args.self.now.rules)
    none in
    open-not_extra g.R.LineRules c.args.self.now line stands b is _ c.if-self-ge-T3_5_TICKS.false
    (g.R.LineRules.fullness c.args.self.now.rules _ stands.bytes) parts.0 parts.1

pub returns-clause-stands : goal.returns-clause-stands
returns-clause-stands g c = λ line old.
    let x : List ℕ = c.args.bytes.now in
    let over = sym c.is_over-over.ensures ∙ c.if-not-over.false in
    let all = passes-over g.R.LineRules x c.args.self.now line _ old c.if-self-ge-T3_5_TICKS.false
    over refl in
    let any = c.if-count-eq0.false in
    let some : 0 < length x = omega arith in
    let P : List ℕ → Type 0 = λ y. CutStandsFor g.R.LineRules
    (passed_over g.R.LineRules c.args.self.now (c.args.self.now.taken + length x))
    (line ++ map Byte y) in
    subst P (sym (take_all (length x) x (omega arith)))
    (all.stands (c.args.self.now.taken + length x) refl some)

pub returns-clause-extra : goal.returns-clause-extra
returns-clause-extra g c = λ line old.
    let x : List ℕ = c.args.bytes.now in
    let over = sym c.is_over-over.ensures ∙ c.if-not-over.false in
    let all = passes-over g.R.LineRules x c.args.self.now line _ old c.if-self-ge-T3_5_TICKS.false
    over refl in
    let P : List ℕ → Type 0 = λ y. cuts_after g.R.LineRules.rules line (map Byte y)
    ≡ map Extra y in
    subst P (sym (take_all (length x) x (omega arith))) all.extra
