use Rattle.dnp_link_frame.proofs.DnpLaws.{dnp_fresh, dnp_fresh-room}
use Rattle.dnp_link_frame.proofs.dnp.DnpLineRules.fresh.Goals as goal

pub returns-clause-stands : goal.returns-clause-stands
returns-clause-stands c = dnp_fresh

pub returns-clause-room : goal.returns-clause-room
returns-clause-room c = dnp_fresh-room
