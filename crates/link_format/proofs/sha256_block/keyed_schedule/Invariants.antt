use Rattle.link_format.{proofs.Sha256Blocks.AreSixteen, specs.Sha256Words.AreKeyed}
use Rattle.{sha2.specs.Sha256.schedule, std.proofs.Common.◌+◌, std.proofs.Common.◌*◌}
use Rattle.link_format.proofs.sha256_block.keyed_schedule.Given as goal

abbrev pub invariant-loop-i : goal.invariant-loop-i
invariant-loop-i l =
    AreKeyed (schedule l.block 48) l.keyed (4 * (4 * l.i + 4))
    × AreSixteen (schedule l.block 48) (16 * l.i) l.a l.b l.c l.d
