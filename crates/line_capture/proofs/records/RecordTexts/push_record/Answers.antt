use Rattle.std.proofs.Common.{sym, ◌∙◌, refl}
use Rattle.line_capture.proofs.RecordBytes.{packet_added, line_added}
use Rattle.line_capture.proofs.records.RecordTexts.push_record.Goals as goal

pub returns-in_ok-push-in-Pcap : goal.returns-in_ok-push-in-Pcap
returns-in_ok-push-in-Pcap c =
    packet_added c.args.self.now c.push_bytes.new.self c.args.way c.args.tick _ _
    c.tick_start-start.ensures c.push.new.self _ _ c.push_bytes.result (sym c.in-Pcap.is)
    (sym c.requires.bytes) (c.as_slice.ensures.value ∙ c.packet_header-header.ensures.front)
    c.in_ok-push-in-Pcap.ensures c.push_bytes.ensures

pub returns-in_ok-push_bytes-in-Text : goal.returns-in_ok-push_bytes-in-Text
returns-in_ok-push_bytes-in-Text c =
    line_added c.args.self.now c.push-in-Text-2.new.self c.args.way c.args.tick _ _
    c.tick_start-start.ensures c.push-in-Text.new.self c.push_bytes-in-Text.new.self _ _
    c.push-in-Text-2.result (sym c.in-Text.is)
    (c.as_slice-in-Text.ensures.value ∙ c.line_front-front.ensures.front) refl
    c.in_ok-push-in-Text.ensures c.in_ok-push_bytes-in-Text.ensures c.push-in-Text-2.ensures
