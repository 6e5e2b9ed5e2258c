use Rattle.link_format.specs.Setup.{Setup, setup_of}
use Rattle.seal_transmitter.{proofs.Advancing.walks-begun, specs.Stands.SealerWalks}
use Rattle.std.proofs.Common.{refl, sym, subst, List, [], ℕ}
use Rattle.seal_transmitter.proofs.sealer.Sealer.new.Goals as goal

pub returns-clause-stands : goal.returns-clause-stands
returns-clause-stands g c = λ floor.
    let setup : Setup = setup_of c.args.key.now c.args.dir floor in
    let P : List ℕ → Type 0 = λ unsent.
    SealerWalks g.R.LineRules g.M.Mac g.row.B setup.floor 0 unsent c.with_key.result setup [] in
    record {
      direction_is = refl;
      cuts = c.new.ensures.stands;
      walks = subst P (sym c.none.ensures)
          (walks-begun g.R.LineRules g.M.Mac g.row.B setup c.with_key.result c.with_key.ensures);
    }
