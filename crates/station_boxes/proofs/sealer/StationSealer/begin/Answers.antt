use Rattle.std.proofs.Common.{[], ◌∷◌, ◌++◌, List, ℕ, sym, ◌∙◌, subst}
use Rattle.std.proofs.lemmas.Bool.{ltb-true, ltb-false}
use Rattle.frame_ending.specs.SoFar.{start_so_far}
use Rattle.station_boxes.proofs.{Hearing.hears-none, Stepping.begin-early, Stepping.begin-late}
use Rattle.station_boxes.specs.Walks.{HasHeard}
use Rattle.station_boxes.proofs.sealer.StationSealer.begin.Goals as goal

pub returns-then-is_early-clause-step : goal.returns-then-is_early-clause-step
returns-then-is_early-clause-step g c = λ setup s line t between.
    begin-early g.R.LineRules g.M.Mac c.args.self.now _ setup s line c.send.new.self c.send.result
    (record {
      rest = c.send.ensures.rest;
      unsent = c.send.ensures.unsent;
      answer = c.send.ensures.answer;
    })
    t c.args.byte between
    (ltb-true (start_so_far (line ++ t ∷ [])) c.args.self.now.earliest_start
    (sym (c.is_early.ensures (line ++ t ∷ []) between.cuts) ∙ c.if-is_early.true))

pub returns-clause-step : goal.returns-clause-step
returns-clause-step g c = λ setup s line t between.
    let H : List ℕ → Type 0 = λ x. HasHeard g.R.LineRules g.M.Mac c.args.self.now.mac x setup [] in
    begin-late g.R.LineRules g.M.Mac c.args.self.now _ setup s line c.hear.new.self
    c.hear.ensures.others t c.args.byte between
    (ltb-false (start_so_far (line ++ t ∷ [])) c.args.self.now.earliest_start
    (sym (c.is_early.ensures (line ++ t ∷ []) between.cuts) ∙ c.if-is_early.false))
    (c.hear.ensures.heard setup [] between.naming_is between.direction_is between.agrees.keys
    (subst H (sym c.clear.ensures)
    (hears-none g.R.LineRules g.M.Mac setup c.args.self.now.mac)))
