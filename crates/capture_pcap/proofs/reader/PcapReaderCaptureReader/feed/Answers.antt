use Rattle.line_stamps.specs.{Fields.RefusesField, Walks.WalkBeginsNone}
use Rattle.capture_pcap.specs.Pcap.{IsCapture, IsCause}
use Rattle.capture_pcap.specs.{Reader.PcapReaderRefuses, declared.fault.BadPcap.BadPcap}
use Rattle.line_stamps.specs.declared.seen.Seen.{Seen}
use Rattle.std.proofs.Common.{ℕ, List, [], ◌∷◌, ◌++◌, Result, Ok, Err, IfErr, Some, sym, subst}
use Rattle.capture_pcap.proofs.reader.PcapReaderCaptureReader.feed.Goals as goal

-- a refusal with its field is one of the byte
refused : {A : Type 0} (file : List ℕ) (items : List Seen) (b : ℕ) (r : Result A BadPcap)
    → IfErr r (λ bad. RefusesField IsCapture IsCause file items b bad.offset bad.why)
    → IfErr r (λ bad. WalkBeginsNone IsCapture (file ++ b ∷ []) × PcapReaderRefuses file items (Some b) bad)
refused file items b (Ok a) o = tt
refused file items b (Err bad) o =
    let Q : List ℕ → Type 0 = λ x. WalkBeginsNone IsCapture x in (subst Q (sym o.is) o.wrong, o)

pub returns-clause-refused : goal.returns-clause-refused
returns-clause-refused c = λ file items s.
    refused file items c.args.b c.feed.result (c.feed.ensures.refused file items s)
