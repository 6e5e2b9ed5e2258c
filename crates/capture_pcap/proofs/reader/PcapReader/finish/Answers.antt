use Rattle.capture_pcap.{proofs.Reading.file_right, proofs.Reading.file_open, specs.Reader.pcap_spot_of}
use Rattle.std.proofs.Common.{sym, ◌∙◌, refl}
use Rattle.capture_pcap.proofs.reader.PcapReader.finish.Goals as goal

pub returns-then-may_end-clause-right : goal.returns-then-may_end-clause-right
returns-then-may_end-clause-right c = λ file items s.
    file_right (pcap_spot_of c.args.self) file items s.walks
    (sym c.may_end.ensures ∙ c.if-may_end.true)

pub returns-clause-refused : goal.returns-clause-refused
returns-clause-refused c = λ file items s. (
  file_open (pcap_spot_of c.args.self) file items s.walks
      (sym c.may_end.ensures ∙ c.if-may_end.false),
  s.counted,
  refl,
)
