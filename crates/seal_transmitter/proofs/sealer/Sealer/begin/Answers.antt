use Rattle.std.proofs.Common.{ℕ, [], ◌∷◌, ◌++◌, ◌≡◌, sym, ◌∙◌, subst}
use Rattle.std.proofs.lemmas.Bool.{ltb-true, ltb-false}
use Rattle.frame_ending.specs.SoFar.{start_so_far}
use Rattle.seal_transmitter.proofs.Stepping.{begin-early, begin-late}
use Rattle.seal_transmitter.proofs.sealer.Sealer.begin.Goals as goal

pub returns-then-is_early-clause-step : goal.returns-then-is_early-clause-step
returns-then-is_early-clause-step g c = λ last setup line t between.
    begin-early g.R.LineRules g.M.Mac c.args.self.now last setup line c.send.new.self c.send.result
    (record {
      rest = c.send.ensures.rest;
      unsent = c.send.ensures.unsent;
      answer = c.send.ensures.answer;
    })
    t c.args.byte between
    (ltb-true (start_so_far (line ++ t ∷ [])) c.args.self.now.earliest_start
    (sym (c.is_early.ensures (line ++ t ∷ []) between.cuts) ∙ c.if-is_early.true))

pub returns-clause-step : goal.returns-clause-step
returns-clause-step g c = λ last setup line t between.
    let begun = c.update.ensures setup.key []
    (c.begin.ensures setup.key between.walks.text between.walks.mac_is) in
    let label : c.LABEL.result ≡ g.R.LineRules.rules.label =
    c.LABEL.ensures ∙ sym g.R.LineRules.numbers.label_is in
    let to : c.number.result ≡ setup.direction = c.number.ensures ∙ between.direction_is in
    let L : ℕ → Type 0 = λ n. g.M.Mac.stands c.update.new.self setup.key
    (n ∷ c.number.result ∷ c.args.byte ∷ []) in
    let D : ℕ → Type 0 = λ n. g.M.Mac.stands c.update.new.self setup.key
    (g.R.LineRules.rules.label ∷ n ∷ c.args.byte ∷ []) in
    begin-late g.R.LineRules g.M.Mac c.args.self.now last setup line c.update.new.self t c.args.byte
    between
    (ltb-false (start_so_far (line ++ t ∷ [])) c.args.self.now.earliest_start
    (sym (c.is_early.ensures (line ++ t ∷ []) between.cuts) ∙ c.if-is_early.false))
    (subst D to (subst L label begun))
