use Rattle.std.proofs.Common.{◌∙◌, ◌++◌, ◌∷◌, [], length, ap, arith}
use Rattle.std.proofs.lemmas.List.{length-append}
use Rattle.capture_pcap.specs.Reader.{pcap_spot_of}
use Rattle.capture_pcap.proofs.Reading.{file_more, file_each, file_so_far, file_refused}
use Rattle.capture_pcap.proofs.reader.PcapReader.feed.Goals as goal

pub returns-in-Ok-clause-stands : goal.returns-in-Ok-clause-stands
returns-in-Ok-clause-stands c = λ file items s. record {
  walks = file_more (pcap_spot_of c.args.self.now) file items s.walks c.args.b
      (pcap_spot_of c.step.new.self) c.in-Ok.seen c.in-Ok.ensures.0;
  open_yet = c.in-Ok.ensures.2 ∙ s.open_yet;
  counted = omega (arith, c.in-Ok.ensures.1, s.counted, length-append file (c.args.b ∷ []));
}

pub returns-in-Ok-clause-begins : goal.returns-in-Ok-clause-begins
returns-in-Ok-clause-begins c = λ file items s.
    file_so_far (pcap_spot_of c.step.new.self) (file ++ c.args.b ∷ []) _
    (file_more (pcap_spot_of c.args.self.now) file items s.walks c.args.b
    (pcap_spot_of c.step.new.self) c.in-Ok.seen c.in-Ok.ensures.0)

pub returns-in-Ok-clause-each : goal.returns-in-Ok-clause-each
returns-in-Ok-clause-each c = λ file items s.
    file_each (pcap_spot_of c.step.new.self) (file ++ c.args.b ∷ []) _
    (file_more (pcap_spot_of c.args.self.now) file items s.walks c.args.b
    (pcap_spot_of c.step.new.self) c.in-Ok.seen c.in-Ok.ensures.0)

pub returns-in-Err-clause-refused : goal.returns-in-Err-clause-refused
returns-in-Err-clause-refused c = λ file items s.
    file_refused (pcap_spot_of c.args.self.now) file items s.walks c.args.b _ c.in-Err.why
    c.in-Err.ensures.0 (omega (
      arith,
      ap (λ r. r.taken) c.in-Err.ensures.1,
      s.counted,
      ap (λ r. length r.partial.items) c.in-Err.ensures.1,
      c.len.ensures.value,
      c.args.self.now.fewer,
    ))
