use Rattle.std.proofs.Common.{take, drop, refl}
use Rattle.capture_pcap.specs.{Pcap.IsMagic.little_nano, declared.writer.TheConstants.FILE_HEADER}
use Rattle.capture_pcap.proofs.writer.written_header.Goals as goal

pub returns-clause-header : goal.returns-clause-header
returns-clause-header c = record {
  magic = take 4 FILE_HEADER;
  free = take 16 (drop 4 FILE_HEADER);
  link = drop 20 FILE_HEADER;
  is = refl;
  magic_is = little_nano;
  free_long = refl;
  link_long = refl;
  link_is = refl;
}

pub returns-clause-bytes : goal.returns-clause-bytes
returns-clause-bytes c = refl
