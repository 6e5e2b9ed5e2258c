use Rattle.capture_pcap.proofs.Written.{written_packet, written_front}
use Rattle.capture_pcap.specs.{Pcap.IsPcapPacket, Record.seen_bytes, Writing.written_clock}
use Rattle.std.proofs.Common.{ℕ, List, true, sym, subst, arith, ◌++◌}
use Rattle.capture_pcap.proofs.writer.packet_header.Goals as goal

pub returns : goal.returns
returns c = record {
  packet = λ payload long.
      let Q : List ℕ → Type 0 = λ x. IsPcapPacket written_clock (x ++ payload)
      (seen_bytes c.args.start c.args.way true payload) in
      subst Q (sym c.push_event.ensures)
      (written_packet c.args.way c.args.start _ _ c.args.count _ _ _ _ _ _ _ c.new-header.ensures
      c.push_number.ensures.number c.push_number-2.ensures.number c.push_number-3.ensures.number
      c.push_number-4.ensures.number c.push_stamp.ensures.four c.push_stamp-2.ensures.four
      (omega arith) payload long);
  front = written_front c.args.way c.args.start c.args.count _ _ _ _ _ _ _ _ c.new-header.ensures
      c.push_number.ensures.bytes c.push_number-2.ensures.bytes c.push_number-3.ensures.bytes
      c.push_number-4.ensures.bytes c.push_stamp.ensures.bytes c.push_stamp-2.ensures.bytes
      c.push_event.ensures;
}
