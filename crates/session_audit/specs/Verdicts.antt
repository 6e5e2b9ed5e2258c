-- The verdict of an audit on what was sealed, what passed, and what was read.
use Rattle.std.specs.Prelude.{◌==◌, ◌&&◌, Bool, true, false, List, [], ◌∷◌, length, Option}
use Rattle.std.specs.Prelude.{Some, None}
use Rattle.device_model.specs.Frames.{FrameRead}
use Rattle.link_format.specs.NumberedFrame.{NumberedFrame}
use Rattle.receiver_laws.specs.Accounted.{forged}
use Rattle.session_lists.specs.Comparison.{difference_of}
use Rattle.session_lists.specs.declared.comparison.Difference.{Difference}
use Rattle.session_lists.specs.declared.lateness.Lateness.{Lateness}
use Rattle.session_audit.specs.declared.verdict.Counts.{Counts}
use Rattle.session_audit.specs.declared.verdict.Finding.{Finding}
use Rattle.session_audit.specs.declared.verdict.Finding.TheVariants.{Empty, Forged, Differs, Clean}
use Rattle.session_audit.specs.declared.verdict.Verdict.{Verdict}

-- how many frames were sealed, passed and read
abbrev pub counts_of : List NumberedFrame → List NumberedFrame → List FrameRead → Counts
counts_of sealed_ones passed_ones reads = record {
  sealed = length sealed_ones;
  passed = length passed_ones;
  read = length reads;
}

-- whether no frame was sealed, passed or read
abbrev pub are_none : Counts → Bool
are_none counts = counts.sealed == 0 && counts.passed == 0 && counts.read == 0

-- What is found: `Empty` if there is no frame at all, otherwise `Forged` with the first forged frame
-- if there is one, otherwise `Differs` with the difference if there is one, and otherwise `Clean`.
abbrev pub finding_by : Bool → List NumberedFrame → Option Difference → Finding
finding_by true frames difference = Empty
finding_by false (f ∷ more) difference = Forged f.number f.start
finding_by false [] (Some difference) = Differs difference
finding_by false [] None = Clean

-- what is found of the frames that were sealed and passed, those that are expected and those that
-- were read, if the expected ones must be read as `late` says
abbrev pub finding_on : Lateness → List NumberedFrame → List NumberedFrame → List FrameRead
    → List FrameRead → Finding
finding_on late sealed_ones passed_ones expected reads =
    finding_by (are_none (counts_of sealed_ones passed_ones reads))
    (forged sealed_ones passed_ones) (difference_of late expected reads)

-- the verdict on the frames that were sealed and passed, those that are expected and those that were
-- read, if the expected ones must be read as `late` says
abbrev pub verdict_on : Lateness → List NumberedFrame → List NumberedFrame → List FrameRead
    → List FrameRead → Verdict
verdict_on late sealed_ones passed_ones expected reads = record {
  counts = counts_of sealed_ones passed_ones reads;
  finding = finding_on late sealed_ones passed_ones expected reads;
}
