use Rattle.dnp_link_frame.proofs.DnpRuns.{dnp_take_header}
use Rattle.std.proofs.{Common.◌<◌, Common.refl, Common.arith, lemmas.List.Elements.All-from_get_or}
use Rattle.dnp_link_frame.proofs.dnp.Dnp.take_header.Goals as goal

pub returns-clause-stands : goal.returns-clause-stands
returns-clause-stands c = dnp_take_header c.args.self.now _ c.args.header.now c.requires (omega arith)
    (All-from_get_or (λ b. b < 256) c.args.header.now 0
    (λ i within. c.fits-header i))
    refl refl c.after_at_once-self.ensures c.is_header-self.ensures refl c.room_by-self.ensures refl
