use Rattle.line_texts.proofs.LineRooms.{byte_line_held}
use Rattle.line_texts.proofs.line_room.LineRoom.push_byte_line.Goals as goal

pub returns : goal.returns
returns c = byte_line_held c.args.count c.args.self.now.items c.args.bytes.now _ _ _ _
    c.digits_of-digits.ensures c.extend_front.ensures c.extend_front-2.ensures c.extend_front-3.ensures
