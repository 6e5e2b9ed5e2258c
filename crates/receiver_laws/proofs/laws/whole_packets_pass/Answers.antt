use Rattle.link_box.proofs.Packets.{packet-passes}
use Rattle.receiver_laws.proofs.Packets.{packet-contained}
use Rattle.receiver_laws.proofs.laws.whole_packets_pass.Goals as goal

pub returns-clause-verdict : goal.returns-clause-verdict
returns-clause-verdict g c = λ profile tags s d number packet.
    packet-passes profile tags g.R.LineRules.rules g.R.LineRules.framed s d number packet

pub returns-clause-passes : goal.returns-clause-passes
returns-clause-passes g c = λ profile tags floor link front d back number is packet.
    packet-contained profile tags g.R.LineRules.rules g.R.LineRules.framed floor link front d back
    number is packet
