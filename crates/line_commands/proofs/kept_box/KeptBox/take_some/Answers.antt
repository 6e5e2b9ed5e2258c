use Rattle.line_commands.proofs.Kept.{handed-on}
use Rattle.line_texts.{proofs.Sending.sends_handed, specs.Texts.writing}
use Rattle.std.proofs.Common.{[], Some}
use Rattle.yasir_ticks.specs.TickRun.{run_ticks}
use Rattle.line_texts.specs.Sending.{sink_texts}
use Rattle.line_commands.proofs.kept_box.KeptBox.take_some.Goals as goal

pub returns-then-has_room : goal.returns-then-has_room
returns-then-has_room g c = record {
  some = c.in-Ok.ensures.some;
  front = c.in-Ok.ensures.front;
  steady = record {
    served = c.in-Ok.ensures.front.goes.served;
    room = c.has_room.ensures.room c.if-has_room.true;
  };
}

pub returns-in-Ok-hand_out : goal.returns-in-Ok-hand_out
returns-in-Ok-hand_out g c =
    let mid = c.take_short.new.self in
    let hands = c.in-Ok-hand_out.ensures in
    let front = handed-on g.B.LinkBox g.B.LineBox.line_of c.args.self.now mid c.hand_out.new.self
    c.hand_out.new.out c.hand_out.new.log (run_ticks c.args.run) c.in-Ok.count
    c.in-Ok.ensures.front (λ made line sends. sends_handed _ _ made line
    (writing mid.texts mid.text mid.log)
    (writing c.hand_out.new.self c.hand_out.new.out c.hand_out.new.log)
    (sink_texts (Some []) (Some [])) sends hands) in
    record {
      some = c.in-Ok.ensures.some;
      front = front;
      steady = record { served = front.goes.served; room = hands.room };
    }
