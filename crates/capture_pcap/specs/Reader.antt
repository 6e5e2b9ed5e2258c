-- What a reader of a pcap file has taken, and what it refuses.
use Rattle.std.specs.Prelude.{◌≡◌, ℕ, List, length, Option, Some, None, Result, Ok}
use Rattle.std.specs.Prelude.{Err, ◌+◌}
use Rattle.line_stamps.specs.Walks.{walk}
use Rattle.line_stamps.specs.Fields.{Spot, before_field, RefusesField}
use Rattle.capture_pcap.specs.Pcap.{IsCapture, IsCause}
use Rattle.capture_pcap.specs.PcapStep.{step_at}
use Rattle.line_stamps.specs.declared.seen.Seen.{Seen}
use Rattle.capture_pcap.specs.declared.fault.BadPcap.{BadPcap}
use Rattle.capture_pcap.specs.declared.fault.PcapFault.{PcapFault}
use Rattle.capture_pcap.specs.declared.fault.PcapFault.TheVariants.{End}
use Rattle.capture_pcap.specs.declared.stage.Stage.{Stage}
use Rattle.capture_pcap.specs.declared.stage.Stage.TheVariants.{Magic}
use Rattle.capture_pcap.specs.declared.reader.PcapReader.{PcapReader}

-- how many bytes a reader has taken
abbrev pub pcap_bytes_taken : PcapReader → ℕ
pcap_bytes_taken reader = reader.taken

-- where a reader is in its file
abbrev pub pcap_spot_of : PcapReader → Spot Stage
pcap_spot_of reader = record { stage = reader.stage; partial = reader.partial.items }

-- Holds if the reader has taken these bytes of a file, no field of which it refused, and has seen
-- these items.
pub record PcapReaderStandsFor (reader : PcapReader) (file : List ℕ) (items : List Seen) : Type 0 where
  pub walks : walk step_at (before_field Magic) file ≡ Ok (pcap_spot_of reader, items)
  pub open_yet : reader.refused ≡ None
  pub counted : reader.taken ≡ length file

-- Holds if the reader has refused its file with this refusal, which it returns from then on.
abbrev pub PcapReaderHasRefused : PcapReader → BadPcap → Type 0
PcapReaderHasRefused reader bad = reader.refused ≡ Some bad

-- Holds if this place and cause are right for the refusal of the next byte, which is refused with
-- its field, or of the end of the file.
abbrev pub PcapReaderRefuses : List ℕ → List Seen → Option ℕ → BadPcap → Type 0
PcapReaderRefuses file items (Some b) bad = RefusesField IsCapture IsCause file items b bad.offset bad.why
PcapReaderRefuses file items None bad = (bad.offset ≡ length file) × (bad.why ≡ End)

-- what a step with one byte does to a reader, by its result
abbrev pub PcapReaderTakes : PcapReader → ℕ → Result (Option Seen) PcapFault → PcapReader → Type 0
PcapReaderTakes old b (Ok item) new =
    (step_at (pcap_spot_of old) b ≡ Ok (pcap_spot_of new, item)) × (new.taken ≡ old.taken + 1)
    × (new.refused ≡ old.refused)
PcapReaderTakes old b (Err why) new = (step_at (pcap_spot_of old) b ≡ Err why) × (new ≡ old)
