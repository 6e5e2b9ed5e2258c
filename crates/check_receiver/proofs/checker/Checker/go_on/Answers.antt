use Rattle.frame_ending.specs.Causal.{going_on}
use Rattle.check_receiver.proofs.{Dropping.drop-live, Entering.live-taken, Entering.live-mac_holds}
use Rattle.check_receiver.proofs.{Machine.waiting-some, Resting.begins-none, Resting.rest-taken}
use Rattle.check_receiver.specs.{Between.IsNoPass, Between.CheckerIsBetween, Stands.CheckerHasTaken}
use Rattle.{check_receiver.specs.Stands.checker_direction, frame_ending.proofs.Running.live-tick}
use Rattle.frame_ending.specs.{LiveBytes.live_bytes, declared.cut.Cut.TheVariants.Live}
use Rattle.link_box.specs.declared.check_note.CheckNote.{CheckNote}
use Rattle.std.proofs.Common.{◌∙◌}
use Rattle.std.proofs.Common.{⊎_elim, ap, sym, subst, inl, Option, [], ◌∷◌, ◌++◌, ℕ, List, length}
use Rattle.yasir_ticks.specs.declared.tick.Tick.{Tick, TheVariants.Byte}
use Rattle.check_receiver.proofs.checker.Checker.go_on.Goals as goal

pub returns-then-not-is_open-clause-step : goal.returns-then-not-is_open-clause-step
returns-then-not-is_open-clause-step g c = λ last setup line t between.
    let closed = sym c.is_open.ensures ∙ c.if-not-is_open.true in
    let is = live-tick g.R.LineRules.rules line t c.args.byte between.is_cut in
    rest-taken g.R.LineRules g.M.Mac c.args.self.now last setup line t (Live c.args.byte) between
    c.pass_by.new.self c.pass_by.result c.pass_by.ensures.turned c.pass_by.ensures.note
    (begins-none g.R.LineRules.rules line t c.args.byte is (inl between.is_cut))
    closed

pub returns-in-Short : goal.returns-in-Short
returns-in-Short g c = record {
  cut = ap (λ v. v.cut) c.enter.ensures.turned.others;
  direction = ap checker_direction c.enter.ensures.turned.others;
  note =
      let P : Option CheckNote → Type 0 = λ n. IsNoPass n in
      subst P (sym c.enter.ensures.note) tt;
  step = λ last setup line t between.
      let is = live-tick g.R.LineRules.rules line t c.args.byte between.is_cut in
      let P : Tick → Type 0 = λ u. CheckerIsBetween g.R.LineRules g.M.Mac c.args.self.now last setup line u
      (Live c.args.byte)
      → CheckerHasTaken g.R.LineRules g.M.Mac c.enter.new.self last setup line u c.enter.result in
      let taken : P (Byte c.args.byte) = λ at.
      let opens = sym c.is_open.ensures ∙ c.if-not-is_open.false in
      let d = waiting-some at.walks.waiting (sym at.walks.waits_is ∙ opens) in
      let text : List ℕ = g.R.LineRules.rules.label ∷ setup.direction
      ∷ live_bytes g.R.LineRules.rules (going_on d.0 (length line) c.args.byte) in
      let mac_holds = live-mac_holds g.R.LineRules g.M.Mac c.args.self.now last setup line c.args.byte at
      c.update.new.self d.0 d.1 (λ key text mac_is. c.update.ensures key text mac_is) in
      live-taken g.R.LineRules g.M.Mac c.args.self.now last setup line c.args.byte at
      c.update.new.self c.enter.new.self.until c.enter.new.self c.enter.result
      c.enter.ensures.turned c.enter.ensures.until c.enter.ensures.note
      (λ bad. let head = c.head.ensures (line ++ Byte c.args.byte ∷ []) at.cuts in
      ⊎_elim (λ short. absurd cc) (λ good. absurd cc) c.in-Short.is)
      d.0 d.1 (text, mac_holds.mac_is) mac_holds opens in
      subst P (sym is) taken between;
}

pub returns-in-Bad-clause-step : goal.returns-in-Bad-clause-step
returns-in-Bad-clause-step g c = λ last setup line t between.
    let is = live-tick g.R.LineRules.rules line t c.args.byte between.is_cut in
    let P : Tick → Type 0 = λ u. CheckerIsBetween g.R.LineRules g.M.Mac c.args.self.now last setup line u
    (Live c.args.byte)
    → CheckerHasTaken g.R.LineRules g.M.Mac c.drop_headless.new.self last setup line u
    c.drop_headless.result in
    let taken : P (Byte c.args.byte) = λ at.
    let opens = sym c.is_open.ensures ∙ c.if-not-is_open.false in
    let d = waiting-some at.walks.waiting (sym at.walks.waits_is ∙ opens) in
    let text = at.walks.mac_stands in
    drop-live g.R.LineRules g.M.Mac c.args.self.now last setup line c.args.byte at c.update.new.self
    c.drop_headless.new.self c.drop_headless.result c.drop_headless.ensures.turned
    (c.drop_headless.ensures.told (line ++ Byte c.args.byte ∷ []) at.cuts)
    (sym (c.head.ensures (line ++ Byte c.args.byte ∷ []) at.cuts) ∙ c.in-Bad.is)
    (text.0 ++ c.args.byte ∷ [], c.update.ensures setup.key text.0 text.1) d.0 d.1 in
    subst P (sym is) taken between
