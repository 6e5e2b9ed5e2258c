use Rattle.line_stamps.{proofs.Clocks.records-parted, specs.Places.placed}
use Rattle.stamp_laws.proofs.ByRecords.{never, told, whole-frames}
use Rattle.stamp_laws.proofs.CutReads.{reads-of-parts}
use Rattle.stamp_laws.specs.{Cuts.cut_where, Cuts.frame_cut, RecordFrames.begins_record}
use Rattle.std.proofs.Common.{◌∙◌, ap, map}
use Rattle.stamp_laws.proofs.device_laws.records_tell_what_is_read.Goals as goal

pub returns : goal.returns
returns c = λ t cs n by-record some.
    reads-of-parts begins_record never (placed t cs)
    (told (placed t cs) (records-parted t by-record cs)) n some
    ∙ ap (λ zs. map frame_cut zs) (whole-frames (cut_where begins_record (placed t cs)))
