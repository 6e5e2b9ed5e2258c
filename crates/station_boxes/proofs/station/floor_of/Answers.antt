use Rattle.sequence_journal.specs.Journal.{journal_floor}
use Rattle.sequence_journal.specs.declared.numbers.TheConstants.{LIMIT}
use Rattle.station_boxes.proofs.Tables.{first-floor, no-floor, none-found, place-found}
use Rattle.station_boxes.specs.Served.{table_of}
use Rattle.station_boxes.specs.declared.station.Station.{Station}
use Rattle.stations.specs.Table.{table_floor}
use Rattle.std.proofs.Common.{◌≡◌, ◌∙◌, sym, ap, get_or}
use Rattle.std.proofs.lemmas.List.{get_or_at}
use Rattle.station_boxes.proofs.station.floor_of.Goals as goal

pub returns-in-Some-clause-value : goal.returns-in-Some-clause-value
returns-in-Some-clause-value g c =
    let name = c.args.name in
    let place = c.in-Some.place in
    let p = place-found name c.args.stations.now place (sym c.place_of.ensures.value ∙ c.in-Some.is) in
    let d = c.index-stations-place.result in
    let element : get_or c.args.stations.now place d ≡ p.one =
    ap (λ l. get_or l place d) p.is ∙ get_or_at p.front p.one p.back d place p.at in
    c.floor.ensures.value
    ∙ (ap (λ (e : Station g.row.D.Denot). journal_floor e.journal) element
    ∙ (sym (first-floor name p.one p.back p.named p.front p.first)
    ∙ ap (λ l. table_floor LIMIT (table_of l) name) (sym p.is)))

pub returns-in-None-clause-value : goal.returns-in-None-clause-value
returns-in-None-clause-value g c =
    sym (no-floor c.args.name c.args.stations.now (none-found c.args.name c.args.stations.now
    (sym c.place_of.ensures.value ∙ c.in-None.is)))
