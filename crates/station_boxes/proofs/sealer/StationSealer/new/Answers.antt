use Rattle.station_boxes.{proofs.Advancing.walks-begun, specs.Walks.StationSetup}
use Rattle.station_boxes.specs.Walks.{StationsWalk, begun_at}
use Rattle.link_format.specs.Tag.{direction_number}
use Rattle.std.proofs.Common.{refl, sym, subst, List, [], ℕ}
use Rattle.station_boxes.proofs.sealer.StationSealer.new.Goals as goal

pub returns-clause-stands : goal.returns-clause-stands
returns-clause-stands g c = λ table.
    let setup : StationSetup = record {
      naming = c.args.naming;
      direction = direction_number c.args.dir;
      table = table;
    } in
    let P : List ℕ → Type 0 = λ unsent. StationsWalk g.R.LineRules g.M.Mac g.row.B
    (begun_at setup) unsent c.with_key.result c.new-2.result.items setup [] in
    record {
      naming_is = refl;
      direction_is = refl;
      cuts = c.new.ensures.stands;
      state = begun_at setup;
      free_is = refl;
      agrees = record { listed = λ i. refl; keys = λ i. refl; floors = λ i. refl };
      walks = subst P (sym c.none.ensures)
          (walks-begun g.R.LineRules g.M.Mac g.row.B setup c.with_key.result c.new-2.result.items);
    }
