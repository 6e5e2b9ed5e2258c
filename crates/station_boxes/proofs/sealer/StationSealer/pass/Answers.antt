use Rattle.station_boxes.proofs.Stepping.{pass-taken}
use Rattle.station_boxes.proofs.sealer.StationSealer.pass.Goals as goal

pub returns-clause-step : goal.returns-clause-step
returns-clause-step g c = λ table setup s line t cut passing between.
    pass-taken g.R.LineRules g.M.Mac c.args.self.now table setup s line c.send.new.self c.send.result
    (record {
      rest = c.send.ensures.rest;
      unsent = c.send.ensures.unsent;
      answer = c.send.ensures.answer;
    })
    t cut passing between
