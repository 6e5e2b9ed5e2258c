use Rattle.station_boxes.proofs.Tables.{first-listed, none-found, place-found}
use Rattle.station_boxes.specs.Served.{table_of}
use Rattle.stations.specs.Table.{has_station}
use Rattle.std.proofs.Common.{◌∙◌, sym, ap}
use Rattle.station_boxes.proofs.names.has_name.Goals as goal

pub returns-in-Some : goal.returns-in-Some
returns-in-Some g c =
    let p = place-found c.args.name c.args.stations.now _
    (sym c.place_of.ensures.value ∙ c.in-Some.is) in
    sym (ap (λ l. has_station (table_of l) c.args.name) p.is
    ∙ first-listed c.args.name p.one p.back p.named p.front)

pub returns-in-None : goal.returns-in-None
returns-in-None g c =
    sym (none-found c.args.name c.args.stations.now
    (sym c.place_of.ensures.value ∙ c.in-None.is))
