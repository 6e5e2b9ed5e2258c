use Rattle.station_boxes.proofs.Tables.{first-key, no-key, none-found, place-found}
use Rattle.station_boxes.specs.Served.{table_of}
use Rattle.stations.specs.Table.{table_key}
use Rattle.std.proofs.Common.{◌≡◌, ◌∙◌, sym, ap, get_or}
use Rattle.std.proofs.lemmas.List.{get_or_at}
use Rattle.station_boxes.proofs.station.key_of.Goals as goal

pub returns-in-Some : goal.returns-in-Some
returns-in-Some g c =
    let name = c.args.name in
    let place = c.in-Some.place in
    let p = place-found name c.args.stations.now place (sym c.place_of.ensures.value ∙ c.in-Some.is) in
    let d = c.index-stations-place.result in
    let element : get_or c.args.stations.now place d ≡ p.one =
    ap (λ l. get_or l place d) p.is ∙ get_or_at p.front p.one p.back d place p.at in
    c.as_slice.ensures.value
    ∙ (ap (λ e. e.key.items) element
    ∙ (sym (first-key name p.one p.back p.named p.front p.first)
    ∙ ap (λ l. table_key (table_of l) name) (sym p.is)))

pub returns-in-None : goal.returns-in-None
returns-in-None g c =
    sym (no-key c.args.name c.args.stations.now (none-found c.args.name c.args.stations.now
    (sym c.place_of.ensures.value ∙ c.in-None.is)))
