use Rattle.line_texts.proofs.Sending.{drained, room_drained}
use Rattle.yasir_io.proofs.OutputLemmas.{nothing_written}
use Rattle.line_texts.proofs.line_room.LineRoom.make_room.Goals as goal

pub returns-then-has_room-clause-ok : goal.returns-then-has_room-clause-ok
returns-then-has_room-clause-ok g c =
    nothing_written (g.S.Sink.held c.args.sink.now) c.args.self.now.items

pub returns-clause-ok : goal.returns-clause-ok
returns-clause-ok g c = drained c.drain.result _ _ _ _ c.drain.ensures.ok c.drain.ensures.empty

pub returns-clause-room : goal.returns-clause-room
returns-clause-room g c = room_drained c.drain.result _ c.drain.ensures.empty
