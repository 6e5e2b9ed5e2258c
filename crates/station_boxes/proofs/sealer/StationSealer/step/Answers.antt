use Rattle.frame_ending.proofs.Running.{passing-is}
use Rattle.station_boxes.proofs.WholeSteps.{taken-then, taken-closed, fails-closed}
use Rattle.station_boxes.specs.{Between.FailsNext, Served.table_of}
use Rattle.station_boxes.proofs.Keeping.{keeps-noteless}
use Rattle.std.proofs.Common.{refl}
use Rattle.station_boxes.proofs.sealer.StationSealer.step.Goals as goal

pub returns-in-Start-clause-step : goal.returns-in-Start-clause-step
returns-in-Start-clause-step g c =
    taken-then g.R.LineRules g.M.Mac c.args.self.now (table_of c.args.stations.now)
    c.step.new.self c.args.t c.step.result
    c.step.ensures.answer c.step.ensures.stands _ c.in-Start.is c.begin.new.self
    (table_of c.args.stations.now) c.begin.result
    (λ setup s line between. c.begin.ensures.step setup s line c.args.t between)

pub returns-in-Live-clause-step : goal.returns-in-Live-clause-step
returns-in-Live-clause-step g c =
    taken-then g.R.LineRules g.M.Mac c.args.self.now (table_of c.args.stations.now)
    c.step.new.self c.args.t c.step.result
    c.step.ensures.answer c.step.ensures.stands _ c.in-Live.is c.go_on.new.self
    (table_of c.args.stations.now) c.go_on.result
    (λ setup s line between. c.go_on.ensures.step setup s line c.args.t between)

pub returns-in-Extra-clause-step : goal.returns-in-Extra-clause-step
returns-in-Extra-clause-step g c =
    taken-then g.R.LineRules g.M.Mac c.args.self.now (table_of c.args.stations.now)
    c.step.new.self c.args.t c.step.result
    c.step.ensures.answer c.step.ensures.stands c.step.result refl c.pass.new.self
    (table_of c.args.stations.now) c.pass.result
    (λ setup s line between. c.pass.ensures.step (table_of c.args.stations.now) setup s line
    c.args.t c.step.result (passing-is c.step.result c.in-Extra.is) between)

pub returns-in-Closed-clause-step : goal.returns-in-Closed-clause-step
returns-in-Closed-clause-step g c =
    taken-closed g.R.LineRules g.M.Mac c.args.self.now (table_of c.args.stations.now)
    c.step.new.self c.args.t c.step.result
    c.step.ensures.answer c.step.ensures.stands c.in-Closed.is c.close.new.self
    (table_of c.close.new.stations) c.close.result c.close.ensures.step

pub returns-in-Closed-clause-err_seals : goal.returns-in-Closed-clause-err_seals
returns-in-Closed-clause-err_seals g c =
    fails-closed g.R.LineRules g.M.Mac c.args.self.now (table_of c.args.stations.now)
    c.step.new.self c.args.t c.step.result
    c.step.ensures.answer c.step.ensures.stands c.in-Closed.is
    (λ setup line u. FailsNext g.R.LineRules g.M.Mac g.row.B g.D.SlotDisk c.args.stations.now
    c.close.new.stations setup line u) c.close.result c.close.ensures.err_seals

pub returns-in-Start-clause-stations : goal.returns-in-Start-clause-stations
returns-in-Start-clause-stations g c =
    keeps-noteless g.D.SlotDisk _ c.args.stations.now c.args.stations.now c.requires.fits
    c.requires.of_link refl c.begin.result c.begin.ensures.note

pub returns-in-Live-clause-stations : goal.returns-in-Live-clause-stations
returns-in-Live-clause-stations g c =
    keeps-noteless g.D.SlotDisk _ c.args.stations.now c.args.stations.now c.requires.fits
    c.requires.of_link refl c.go_on.result c.go_on.ensures.note

pub returns-in-Extra-clause-stations : goal.returns-in-Extra-clause-stations
returns-in-Extra-clause-stations g c =
    keeps-noteless g.D.SlotDisk _ c.args.stations.now c.args.stations.now c.requires.fits
    c.requires.of_link refl c.pass.result c.pass.ensures.note

pub returns-in-Closed-clause-stations : goal.returns-in-Closed-clause-stations
returns-in-Closed-clause-stations g c = c.close.ensures.stations _ c.requires.of_link
