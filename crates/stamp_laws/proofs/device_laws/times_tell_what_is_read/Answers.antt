use Rattle.line_stamps.{proofs.Clocks.edges-kept, specs.Parts.character, specs.Places.placed}
use Rattle.stamp_laws.proofs.{ByTimes.told, CutReads.reads-of-parts}
use Rattle.stamp_laws.specs.TimedFrames.{are_parted, are_apart}
use Rattle.stamp_laws.proofs.device_laws.times_tell_what_is_read.Goals as goal

pub returns : goal.returns
returns c = λ t cs n by-time some.
    reads-of-parts (are_parted (character t.rate)) (are_apart (character t.rate)) (placed t cs)
    (told (character t.rate) (placed t cs) (edges-kept t by-time cs)) n some
