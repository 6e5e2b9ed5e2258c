use Rattle.dnp_link_frame.proofs.DnpRuns.{dnp_take_behind_first}
use Rattle.std.proofs.{Common.◌<◌, Common.refl, Common.arith, lemmas.List.Elements.All-from_get_or}
use Rattle.dnp_link_frame.proofs.dnp.Dnp.take_behind_first.Goals as goal

pub returns-clause-stands : goal.returns-clause-stands
returns-clause-stands c = dnp_take_behind_first c.args.self.now _ c.args.following.now c.requires (omega arith)
    (All-from_get_or (λ b. b < 256) c.args.following.now 0
    (λ i within. c.fits-following i))
    refl refl c.after_at_once-self.ensures c.is_header-self.ensures refl c.room_by-self.ensures refl
