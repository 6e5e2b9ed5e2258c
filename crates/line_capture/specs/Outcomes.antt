-- The exit status and the fault line of each outcome.
use Rattle.std.specs.Prelude.{ℕ, List, ◌++◌, codes, decimal}
use Rattle.line_stamps.specs.declared.capture.Way.TheVariants.{A, B}
use Rattle.line_stamps.specs.declared.placer.Unplaced.{Unplaced}
use Rattle.line_stamps.specs.declared.placer.Unplaced.TheVariants.{Early, Overlap, Late}
use Rattle.capture_pcap.specs.declared.fault.PcapFault.{PcapFault}
use Rattle.capture_pcap.specs.declared.fault.PcapFault.TheVariants as pcap
use Rattle.capture_text.specs.declared.row_fault.RowFault.{RowFault}
use Rattle.capture_text.specs.declared.row_fault.RowFault.TheVariants as rows
use Rattle.capture_text.specs.declared.fault.TextFault.{TextFault}
use Rattle.capture_text.specs.declared.fault.TextFault.TheVariants as text
use Rattle.command_ends.specs.Statuses.{exit_status_of as status_exit, fault_line as status_line}
use Rattle.command_ends.specs.declared.reasons.Reasons.{Reasons}
use Rattle.command_ends.specs.declared.status.Status.{Status}
use Rattle.command_ends.specs.declared.status.Status.TheVariants.{Usage}
use Rattle.line_capture.specs.declared.bad_capture.BadCapture.TheVariants.{Text, Pcap, Rows, ByteError}
use Rattle.line_capture.specs.declared.outcome.Outcome.{Outcome}
use Rattle.line_capture.specs.declared.outcome.Outcome.TheVariants as outcomes
use Rattle.line_capture.specs.declared.outcome.Outcome.TheVariants.{Ended, BadCapture}

-- the program's exit status
abbrev pub capture_exit_status : Outcome → ℕ
capture_exit_status (Ended status) = status_exit status
capture_exit_status (BadCapture bad) = 4
capture_exit_status (outcomes.Unplaced way place why) = 4

-- the words for causes of refusals in fault lines
abbrev pub text_word : TextFault → List ℕ
text_word text.Char = codes "char"
text_word text.Late = codes "late"
text_word text.Odd = codes "odd"
text_word text.Empty = codes "empty"

abbrev pub pcap_word : PcapFault → List ℕ
pcap_word pcap.Magic = codes "magic"
pcap_word pcap.Link = codes "link"
pcap_word pcap.Short = codes "short"
pcap_word pcap.Cut = codes "cut"
pcap_word pcap.Order = codes "order"
pcap_word pcap.Size = codes "size"
pcap_word pcap.Timeless = codes "timeless"
pcap_word pcap.Resolution = codes "resolution"
pcap_word pcap.Option = codes "option"
pcap_word pcap.Interface = codes "interface"
pcap_word pcap.Late = codes "late"
pcap_word pcap.End = codes "end"

abbrev pub rows_word : RowFault → List ℕ
rows_word rows.Long = codes "long"
rows_word rows.Line = codes "row"
rows_word rows.Time = codes "time"
rows_word rows.Data = codes "data"
rows_word rows.Channel = codes "channel"
rows_word rows.End = codes "end"

abbrev pub unplaced_word : Unplaced → List ℕ
unplaced_word Early = codes "early"
unplaced_word Overlap = codes "overlap"
unplaced_word Late = codes "late"

-- a fault line: what is counted, the count, and a word for the cause
abbrev pub counted_line : List ℕ → ℕ → List ℕ → List ℕ
counted_line what count word =
    codes "fault: " ++ what ++ decimal count ++ codes " " ++ word ++ codes "\n"

-- The line that the log gets last, by the reasons that the run's objects tell. It is empty after Done
-- and after a write that failed.
abbrev pub capture_fault_line : Reasons → Outcome → List ℕ
capture_fault_line told (Ended status) = status_line told status
capture_fault_line told (BadCapture (Text bad)) = counted_line (codes "line ") bad.line (text_word bad.why)
capture_fault_line told (BadCapture (Pcap bad)) = counted_line (codes "byte ") bad.offset (pcap_word bad.why)
capture_fault_line told (BadCapture (Rows bad)) = counted_line (codes "line ") bad.line (rows_word bad.why)
capture_fault_line told (BadCapture (ByteError offset)) = counted_line (codes "byte ") offset (codes "error")
capture_fault_line told (outcomes.Unplaced A place why) =
    counted_line (codes "way a byte ") place (unplaced_word why)
capture_fault_line told (outcomes.Unplaced B place why) =
    counted_line (codes "way b byte ") place (unplaced_word why)

-- The status of `link_replay` that has the same causes as an outcome: the outcome's own status if
-- it has one, and otherwise that of a refusal.
abbrev pub status_in : Outcome → Status
status_in (Ended status) = status
status_in outcome = Usage
