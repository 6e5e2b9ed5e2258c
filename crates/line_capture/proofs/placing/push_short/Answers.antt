use Rattle.line_capture.proofs.PlacedBytes.{short_added, short_handed}
use Rattle.line_texts.specs.Texts.{writing}
use Rattle.line_capture.proofs.placing.push_short.Goals as goal

pub returns-then-has_room : goal.returns-then-has_room
returns-then-has_room g c = short_added g.O.Sink g.L.Sink
    (writing c.args.texts.now c.args.out.now c.args.log.now) c.add_run.new.self _ c.add_run.ensures.adds
    (c.has_room.ensures.room c.if-has_room.true)

pub returns : goal.returns
returns g c = short_handed g.O.Sink g.L.Sink
    (writing c.args.texts.now c.args.out.now c.args.log.now) c.add_run.new.self _ c.add_run.ensures.adds
    (writing c.hand_out.new.self c.hand_out.new.out c.hand_out.new.log) c.hand_out.result
    c.hand_out.ensures
