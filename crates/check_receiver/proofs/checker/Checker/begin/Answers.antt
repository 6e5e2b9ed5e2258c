use Rattle.check_receiver.proofs.Starting.{start-is, start-busy, start-bad, start-open}
use Rattle.check_receiver.proofs.Starting.{start-mac_holds, start-live, start-quiet, start-still}
use Rattle.check_receiver.specs.Between.{IsNoPass, CheckerIsBetween}
use Rattle.check_receiver.specs.Stands.{CheckerHasTaken, checker_direction}
use Rattle.frame_ending.{proofs.Running.start-tick, specs.declared.cut.Cut.TheVariants.Start}
use Rattle.line_rules.specs.Rules.{head_of}
use Rattle.link_box.specs.declared.check_note.CheckNote.{CheckNote}
use Rattle.std.proofs.Common.{◌≡◌, ◌∙◌, ℕ, ⊎_elim, sym, ap, subst, arith, Option, [], ◌∷◌, ◌++◌}
use Rattle.yasir_ticks.specs.declared.tick.Tick.{Tick, TheVariants.Byte}
use Rattle.check_receiver.proofs.checker.Checker.begin.Goals as goal

pub returns-then-start-self-clause-step : goal.returns-then-start-self-clause-step
returns-then-start-self-clause-step g c = λ last setup line t between.
    let is = start-tick g.R.LineRules.rules line t c.args.byte between.is_cut in
    let P : Tick → Type 0 = λ u. CheckerIsBetween g.R.LineRules g.M.Mac c.args.self.now last setup line u
    (Start c.args.byte)
    → CheckerHasTaken g.R.LineRules g.M.Mac c.drop_busy.new.self last setup line u c.drop_busy.result in
    let taken : P (Byte c.args.byte) = λ at.
    let start = c.start.ensures (line ++ Byte c.args.byte ∷ []) at.cuts in
    let here = start-is g.R.LineRules g.M.Mac c.args.self.now last setup line c.args.byte at in
    let early = c.if-start-self.true in
    start-busy g.R.LineRules g.M.Mac c.args.self.now last setup line c.args.byte at
    c.drop_busy.new.self c.drop_busy.result c.drop_busy.ensures.turned
    (c.drop_busy.ensures.told (line ++ Byte c.args.byte ∷ []) at.cuts) (omega arith) in
    subst P (sym is) taken between

pub returns-in-Bad-clause-step : goal.returns-in-Bad-clause-step
returns-in-Bad-clause-step g c = λ last setup line t between.
    let is = start-tick g.R.LineRules.rules line t c.args.byte between.is_cut in
    let P : Tick → Type 0 = λ u. CheckerIsBetween g.R.LineRules g.M.Mac c.args.self.now last setup line u
    (Start c.args.byte)
    → CheckerHasTaken g.R.LineRules g.M.Mac c.drop_headless.new.self last setup line u
    c.drop_headless.result in
    let taken : P (Byte c.args.byte) = λ at.
    let start = c.start.ensures (line ++ Byte c.args.byte ∷ []) at.cuts in
    let here = start-is g.R.LineRules g.M.Mac c.args.self.now last setup line c.args.byte at in
    let free = c.if-start-self.false in
    let text = at.walks.mac_stands in
    start-bad g.R.LineRules g.M.Mac c.args.self.now last setup line c.args.byte at
    c.update.new.self c.begin.new.self c.begin-2.new.self c.begin-2.ensures.owed (omega arith)
    c.drop_headless.new.self c.drop_headless.result c.drop_headless.ensures.turned
    (c.drop_headless.ensures.told (line ++ Byte c.args.byte ∷ []) at.cuts)
    (sym (c.head.ensures (line ++ Byte c.args.byte ∷ []) at.cuts) ∙ c.in-Bad.is) (
      c.LABEL.result ∷ c.number.result ∷ c.args.byte ∷ [],
      c.update.ensures setup.key []
          (c.begin-3.ensures setup.key text.0 text.1),
    ) in
    subst P (sym is) taken between

pub returns-in-Short : goal.returns-in-Short
returns-in-Short g c = record {
  cut = ap (λ v. v.cut) c.enter.ensures.turned.others;
  direction = ap checker_direction c.enter.ensures.turned.others;
  note =
      let P : Option CheckNote → Type 0 = λ n. IsNoPass n in
      subst P (sym c.enter.ensures.note) tt;
  step = λ last setup line t between.
      let is = start-tick g.R.LineRules.rules line t c.args.byte between.is_cut in
      let P : Tick → Type 0 = λ u. CheckerIsBetween g.R.LineRules g.M.Mac c.args.self.now last setup line u
      (Start c.args.byte)
      → CheckerHasTaken g.R.LineRules g.M.Mac c.enter.new.self last setup line u c.enter.result in
      let taken : P (Byte c.args.byte) = λ at.
      let start = c.start.ensures (line ++ Byte c.args.byte ∷ []) at.cuts in
      let here = start-is g.R.LineRules g.M.Mac c.args.self.now last setup line c.args.byte at in
      let free = c.if-start-self.false in
      let text = at.walks.mac_stands in
      let begun = c.update.ensures setup.key [] (c.begin-3.ensures setup.key text.0 text.1) in
      let label : c.LABEL.result ≡ g.R.LineRules.rules.label =
      c.LABEL.ensures ∙ sym g.R.LineRules.numbers.label_is in
      let to : c.number.result ≡ setup.direction = c.number.ensures ∙ at.direction_is in
      let L : ℕ → Type 0 = λ n. g.M.Mac.stands c.update.new.self setup.key
      (n ∷ c.number.result ∷ c.args.byte ∷ []) in
      let D : ℕ → Type 0 = λ n. g.M.Mac.stands c.update.new.self setup.key
      (g.R.LineRules.rules.label ∷ n ∷ c.args.byte ∷ []) in
      start-open g.R.LineRules g.M.Mac c.args.self.now last setup line c.args.byte at
      c.update.new.self c.begin.new.self c.begin-2.new.self c.begin-2.ensures.owed (omega arith)
      c.enter.new.self c.enter.result c.enter.new.self.until c.enter.ensures.turned
      c.enter.ensures.until c.enter.ensures.note
      (λ bad. let head = c.head.ensures (line ++ Byte c.args.byte ∷ []) at.cuts in
      ⊎_elim (λ short. absurd cc) (λ good. absurd cc) c.in-Short.is)
      (start-mac_holds g.R.LineRules g.M.Mac c.args.self.now last setup line c.args.byte at
      c.update.new.self c.begin.new.self c.begin.ensures
      (subst D to (subst L label begun))) in
      subst P (sym is) taken between;
  opens = λ last setup line at early good.
      let start = c.start.ensures (line ++ Byte c.args.byte ∷ []) at.cuts in
      let here = start-is g.R.LineRules g.M.Mac c.args.self.now last setup line c.args.byte at in
      let free = c.if-start-self.false in (
        c.enter.ensures.note,
        start-quiet g.R.LineRules g.M.Mac c.args.self.now last setup line c.args.byte at
            c.update.new.self c.begin.new.self c.begin-2.new.self c.begin-2.ensures.owed
            (omega arith) c.enter.new.self c.enter.result c.enter.new.self.until
            c.enter.ensures.turned,
        c.enter.ensures.turned.phase,
        start-still g.R.LineRules g.M.Mac c.args.self.now last setup line c.args.byte at
            c.update.new.self c.begin.new.self c.begin-2.new.self c.begin-2.ensures.owed
            (omega arith) c.enter.new.self c.enter.result c.enter.new.self.until
            c.enter.ensures.turned,
      );
}

pub returns-then-start-self-clause-opens : goal.returns-then-start-self-clause-opens
returns-then-start-self-clause-opens g c = λ last setup line at early good.
    let start = c.start.ensures (line ++ Byte c.args.byte ∷ []) at.cuts in
    let here = start-is g.R.LineRules g.M.Mac c.args.self.now last setup line c.args.byte at in
    let busy = c.if-start-self.true in
    absurd (omega arith)

pub returns-in-Bad-clause-opens : goal.returns-in-Bad-clause-opens
returns-in-Bad-clause-opens g c = λ last setup line at early good.
    let live = start-live g.R.LineRules g.M.Mac c.args.self.now last setup line c.args.byte at in
    absurd (good (ap (λ x. head_of g.R.LineRules.rules x) (sym live)
    ∙ (sym (c.head.ensures (line ++ Byte c.args.byte ∷ []) at.cuts) ∙ c.in-Bad.is)))
