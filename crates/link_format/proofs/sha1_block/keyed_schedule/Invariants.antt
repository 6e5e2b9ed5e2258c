use Rattle.link_format.{proofs.Sha1Blocks.AreEight, specs.Sha1Words.AreKeyed}
use Rattle.{sha1.specs.Sha1.schedule, std.proofs.Common.◌+◌, std.proofs.Common.◌*◌}
use Rattle.link_format.proofs.sha1_block.keyed_schedule.Given as goal

abbrev pub invariant-loop-i : goal.invariant-loop-i
invariant-loop-i l =
    AreKeyed (schedule l.block 64) l.keyed (4 * (l.i + 8))
    × AreEight (schedule l.block 64) (4 * l.i) l.a l.b l.c l.d l.e l.f l.g l.h
