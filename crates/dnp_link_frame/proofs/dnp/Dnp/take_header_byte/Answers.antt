use Rattle.std.proofs.Common.{refl, arith}
use Rattle.dnp_link_frame.proofs.DnpRuns.{dnp_header_byte}
use Rattle.dnp_link_frame.proofs.dnp.Dnp.take_header_byte.Goals as goal

pub returns-clause-stands : goal.returns-clause-stands
returns-clause-stands c =
    dnp_header_byte c.args.self.now _ c.args.b c.requires (omega arith) refl
    c.len_byte_after-self.ensures c.after_byte-self.ensures c.header_after-self.ensures refl
    c.room_by-self.ensures refl
