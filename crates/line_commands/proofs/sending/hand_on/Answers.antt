use Rattle.line_commands.proofs.SentBytes.{hands_text, hands_note, hands_both, any_cause, cause_then}
use Rattle.line_commands.specs.declared.port.Output.TheVariants.{Out}
use Rattle.std.proofs.{Common.arith, lemmas.List.nil_from_length}
use Rattle.line_commands.proofs.sending.hand_on.Goals as goal

pub returns-then-is_empty-clause-hands : goal.returns-then-is_empty-clause-hands
returns-then-is_empty-clause-hands g c = λ answer is. hands_text g.P.Port _ _ c.args.notes.now
    c.args.text.now answer _ (nil_from_length c.args.notes.now (grind arith)) is c.send_any.ensures

pub returns-then-is_empty-clause-cause : goal.returns-then-is_empty-clause-cause
returns-then-is_empty-clause-cause g c = any_cause g.P.Port _ _ Out c.args.text.now _
    c.send_any.ensures

pub returns-in-Err-clause-hands : goal.returns-in-Err-clause-hands
returns-in-Err-clause-hands g c = λ answer is. hands_note g.P.Port _ _ c.args.notes.now
    c.args.text.now answer _ is c.in-Err.ensures

pub returns-clause-hands : goal.returns-clause-hands
returns-clause-hands g c = λ answer is. hands_both g.P.Port _ _ _ c.args.notes.now
    c.args.text.now answer _ is c.in-Ok.ensures c.send_any-2.ensures

pub returns-clause-cause : goal.returns-clause-cause
returns-clause-cause g c = cause_then g.P.Port _ _ _ _ c.in-Ok.ensures.cause
    (any_cause g.P.Port _ _ Out c.args.text.now _ c.send_any-2.ensures)
