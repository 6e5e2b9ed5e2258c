use Rattle.capture_pcap.proofs.Reading.{nothing_so_far}
use Rattle.capture_pcap.proofs.reader.PcapReaderCaptureReader.start.Goals as goal

pub returns-clause-begins : goal.returns-clause-begins
returns-clause-begins c = nothing_so_far
