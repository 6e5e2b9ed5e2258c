use Rattle.live_line.proofs.Putting.{put_none, put_more, put_broken, put_all, cut_at}
use Rattle.std.proofs.{Common.arith, lemmas.List.nil_from_length}
use Rattle.live_line.proofs.sending.send_way.Goals as goal

pub loop-left-init : goal.loop-left-init
loop-left-init g c = put_none g.P.Port c.args.way c.args.to c.args.text.now c.args.port.now
    c.new-lettering.result c.new-lettering.ensures

pub returns-in-Err : goal.returns-in-Err
returns-in-Err g c = put_broken g.P.Port c.args.way c.args.to c.args.text.now c.args.port.now
    c.loop-left.port c.send.new.port c.loop-left.lettering c.put-lettered.new.self
    c.loop-left.left.now _ _ _ c.loop-left.invariant
    (cut_at c.loop-left.left.now c.min-count.result) c.put-lettered.ensures _
    (rw c.as_slice.ensures.value at c.in-Err.ensures)

pub loop-left-preserved : goal.loop-left-preserved
loop-left-preserved g c = put_more g.P.Port c.args.way c.args.to c.args.text.now c.args.port.now
    c.loop-left.port c.send.new.port c.loop-left.lettering c.put-lettered.new.self
    c.loop-left.left.now _ _ _ c.loop-left.invariant
    (cut_at c.loop-left.left.now c.min-count.result) c.put-lettered.ensures
    (rw c.as_slice.ensures.value at c.in-Ok.ensures)

pub returns : goal.returns
returns g c = put_all g.P.Port c.args.way c.args.to c.args.text.now c.args.port.now
    c.loop-left.port c.loop-left.lettering c.loop-left.left.now
    (nil_from_length c.loop-left.left.now (grind arith)) c.loop-left.invariant
