use Rattle.dnp_link_frame.proofs.DnpRuns.{header_has_room}
use Rattle.std.proofs.{Common.arith, Common.take, lemmas.List.length-take}
use Rattle.dnp_link_frame.proofs.dnp.Dnp.take_of_header.Goals as goal

pub returns-in-Some-clause-room : goal.returns-in-Some-clause-room
returns-in-Some-clause-room c = λ x n stands before.
    header_has_room c.args.self.now x (take n c.args.following.now) stands
    (omega (arith, length-take n c.args.following.now))

pub returns-in-Some-split_first_chunk-clause-room
    : goal.returns-in-Some-split_first_chunk-clause-room
returns-in-Some-split_first_chunk-clause-room c = λ x n stands before.
    header_has_room c.args.self.now x (take n c.args.following.now) stands
    (omega (arith, length-take n c.args.following.now))
