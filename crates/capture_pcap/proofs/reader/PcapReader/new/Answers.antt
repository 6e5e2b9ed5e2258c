use Rattle.std.proofs.Common.{refl}
use Rattle.capture_pcap.proofs.Reading.{nothing_begins, nothing_walks}
use Rattle.capture_pcap.proofs.reader.PcapReader.new.Goals as goal

pub returns-clause-stands : goal.returns-clause-stands
returns-clause-stands c = record {
  walks = nothing_walks c.new.result.items c.new.ensures;
  open_yet = refl;
  counted = refl;
}

pub returns-clause-begins : goal.returns-clause-begins
returns-clause-begins c = nothing_begins
