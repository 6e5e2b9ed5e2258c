use Rattle.live_line.proofs.Putting.{hands_notes, hands_text}
use Rattle.line_commands.proofs.SentBytes.{cause_then}
use Rattle.live_line.proofs.sending.hand_on_way.Goals as goal

pub returns-in-Err-clause-hands : goal.returns-in-Err-clause-hands
returns-in-Err-clause-hands g c = λ answer is. hands_notes g.P.Port _ _ c.send_way.new.port c.args.way c.args.notes.now
    c.args.text.now answer is _ c.in-Err.ensures

pub returns-clause-hands : goal.returns-clause-hands
returns-clause-hands g c = λ answer is. hands_text g.P.Port _ _ _ c.args.way c.args.notes.now
    c.args.text.now answer is c.requires c.in-Ok.ensures _ c.send_way-2.ensures

pub returns-clause-cause : goal.returns-clause-cause
returns-clause-cause g c = cause_then g.P.Port _ _ _ _ c.in-Ok.ensures.cause c.send_way-2.ensures.cause
