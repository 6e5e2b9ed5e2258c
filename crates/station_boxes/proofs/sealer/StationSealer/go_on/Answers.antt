use Rattle.std.proofs.Common.{[], ◌∷◌, ◌++◌, sym, ◌∙◌}
use Rattle.std.proofs.lemmas.Bool.{ltb-true, ltb-false}
use Rattle.frame_ending.specs.SoFar.{start_so_far}
use Rattle.station_boxes.proofs.Stepping.{go_on-early, go_on-late}
use Rattle.station_boxes.proofs.sealer.StationSealer.go_on.Goals as goal

pub returns-then-is_early-clause-step : goal.returns-then-is_early-clause-step
returns-then-is_early-clause-step g c = λ setup s line t between.
    go_on-early g.R.LineRules g.M.Mac c.args.self.now _ setup s line c.send.new.self c.send.result
    (record {
      rest = c.send.ensures.rest;
      unsent = c.send.ensures.unsent;
      answer = c.send.ensures.answer;
    })
    t c.args.byte between
    (ltb-true (start_so_far (line ++ t ∷ [])) c.args.self.now.earliest_start
    (sym (c.is_early.ensures (line ++ t ∷ []) between.cuts) ∙ c.if-is_early.true))

pub returns-clause-step : goal.returns-clause-step
returns-clause-step g c = λ setup s line t between.
    go_on-late g.R.LineRules g.M.Mac c.args.self.now _ setup s line c.hear.new.self
    c.hear.ensures.others t c.args.byte between
    (ltb-false (start_so_far (line ++ t ∷ [])) c.args.self.now.earliest_start
    (sym (c.is_early.ensures (line ++ t ∷ []) between.cuts) ∙ c.if-is_early.false))
    (λ live heard. c.hear.ensures.heard setup live between.naming_is between.direction_is
    between.agrees.keys heard)
