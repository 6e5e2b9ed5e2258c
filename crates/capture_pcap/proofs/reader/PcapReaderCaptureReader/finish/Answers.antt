use Rattle.capture_pcap.specs.{Pcap.IsCapture, Reader.PcapReaderRefuses}
use Rattle.capture_pcap.specs.declared.fault.{BadPcap.BadPcap, PcapFault.TheVariants.End}
use Rattle.line_stamps.specs.declared.seen.Seen.{Seen}
use Rattle.std.proofs.Common.{◌≡◌, ℕ, List, length, Result, Ok, Err, IfErr, None}
use Rattle.capture_pcap.proofs.reader.PcapReaderCaptureReader.finish.Goals as goal

refused : {A : Type 0} (file : List ℕ) (items : List Seen) (r : Result A BadPcap)
    → IfErr r (λ bad. ((all : List Seen) → IsCapture file all → ⊥)
    × (bad.offset ≡ length file) × (bad.why ≡ End))
    → IfErr r (λ bad. ((all : List Seen) → IsCapture file all → ⊥) × PcapReaderRefuses file items None bad)
refused file items (Ok a) o = tt
refused file items (Err bad) o = (o.0, (o.1, o.2))

pub returns-clause-refused : goal.returns-clause-refused
returns-clause-refused c = λ file items s.
    refused file items c.finish.result (c.finish.ensures.refused file items s)
