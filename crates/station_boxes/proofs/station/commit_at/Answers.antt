use Rattle.sequence_journal.specs.Journal.{Fits, journal_floor}
use Rattle.station_boxes.specs.Committing.{CommitsOne, FailsOne}
use Rattle.station_boxes.specs.declared.station.Station.{Station}
use Rattle.std.proofs.Common.{◌≡◌, ◌∙◌, ◌<◌, sym, ap, subst, get_or, set, refl}
use Rattle.std.proofs.lemmas.List.{get_or_at, set_at}
use Rattle.std.specs.Prelude.{OnOk, OnErr}
use Rattle.station_boxes.proofs.Tables.{err-one, ok-one}
use Rattle.station_boxes.proofs.station.commit_at.Goals as goal

pub commit-requires-clause-fits : goal.commit-requires-clause-fits
commit-requires-clause-fits g c =
    let may = c.requires.may in
    let d = c.index-stations-place.result in
    let element : get_or c.args.stations.now c.args.place d ≡ may.one =
    ap (λ l. get_or l c.args.place d) may.is
    ∙ get_or_at may.front may.one may.back d c.args.place may.at in
    let P : Station g.row.D.Denot → Type 0 = λ e. Fits e.journal (g.D.SlotDisk.told e.disk) in
    subst P (sym element) may.fits

pub commit-requires-clause-rises : goal.commit-requires-clause-rises
commit-requires-clause-rises g c =
    let may = c.requires.may in
    let d = c.index-stations-place.result in
    let element : get_or c.args.stations.now c.args.place d ≡ may.one =
    ap (λ l. get_or l c.args.place d) may.is
    ∙ get_or_at may.front may.one may.back d c.args.place may.at in
    let P : Station g.row.D.Denot → Type 0 = λ e. journal_floor e.journal < c.args.number in
    subst P (sym element) may.rises

pub commit-requires-clause-within : goal.commit-requires-clause-within
commit-requires-clause-within g c = c.requires.may.within

pub returns : goal.returns
returns g c = λ front before back is at.
    let d = c.index-stations-place.result in
    let element : get_or c.args.stations.now c.args.place d ≡ before =
    ap (λ l. get_or l c.args.place d) is ∙ get_or_at front before back d c.args.place at in
    let after : Station g.row.D.Denot = record {
      name = (get_or c.args.stations.now c.args.place d).name;
      key = (get_or c.args.stations.now c.args.place d).key;
      journal = c.commit.new.self;
      disk = c.commit.new.disk;
    } in
    let D : Station g.row.D.Denot → Type 0 = λ e. OnOk c.commit.result
    (CommitsOne g.D.SlotDisk e after c.args.number) in
    let F : Station g.row.D.Denot → Type 0 = λ e. OnErr c.commit.result
    (FailsOne g.D.SlotDisk e after c.args.number) in
    record {
      after = after;
      new_is = ap (λ l. set l c.args.place after) is
          ∙ set_at front before back after c.args.place at;
      done = subst D element (ok-one g.D.SlotDisk (get_or c.args.stations.now c.args.place d) after
          c.args.number c.commit.result
          (record {
            name = refl;
            key = refl;
            link = c.commit.ensures.link;
            crash_safe = c.commit.ensures.crash_safe;
            any_moment = λ safe. c.commit.ensures.any_moment safe.kept;
          }) c.commit.ensures.committed c.commit.ensures.fits c.commit.ensures.cause);
      failed = subst F element (err-one g.D.SlotDisk (get_or c.args.stations.now c.args.place d) after
          c.args.number c.commit.result
          (record {
            name = refl;
            key = refl;
            link = c.commit.ensures.link;
            crash_safe = c.commit.ensures.crash_safe;
            any_moment = λ safe. c.commit.ensures.any_moment safe.kept;
          }) c.commit.ensures.failed c.commit.ensures.cause);
    }
