use Rattle.link_format.specs.NumberedFrame.{NumberedFrame}
use Rattle.receiver_laws.{proofs.InTurn.among-in-place, specs.Accounted.is_among}
use Rattle.session_audit.proofs.Pushing.{adds-nothing}
use Rattle.session_audit.specs.Printing.{AddsText, PrintingBreaksOff, on_the_way}
use Rattle.std.proofs.Common.{◌≡◌, ◌∙◌, true, false, sym, subst, refl}
use Rattle.std.proofs.lemmas.Bool.{cond-true, cond-false}
use Rattle.yasir_io.specs.TextBuffer.{waiting_bytes}
use Rattle.session_audit.proofs.groups.push_if_forged.Goals as goal

pub returns-then-is_at_its_number-clause-ok : goal.returns-then-is_at_its_number-clause-ok
returns-then-is_at_its_number-clause-ok g c = λ sealed_ones holds turn.
    let f : NumberedFrame = record {
      number = c.args.head.number;
      start = c.args.head.start;
      frame = c.args.bytes.now;
    } in
    let there : is_among sealed_ones f ≡ true =
    sym (c.is_at_its_number.ensures sealed_ones f holds refl refl
    ∙ among-in-place 0 sealed_ones f turn) ∙ c.if-is_at_its_number.true in
    let a = on_the_way (g.O.Sink.held c.args.out.now) (waiting_bytes c.args.text.now) in
    subst (λ l. AddsText a a l) (sym (cond-true _ _ _ there)) (adds-nothing a)

pub returns-in-Ok-clause-ok : goal.returns-in-Ok-clause-ok
returns-in-Ok-clause-ok g c = λ sealed_ones holds turn.
    let f : NumberedFrame = record {
      number = c.args.head.number;
      start = c.args.head.start;
      frame = c.args.bytes.now;
    } in
    let none : is_among sealed_ones f ≡ false =
    sym (c.is_at_its_number.ensures sealed_ones f holds refl refl
    ∙ among-in-place 0 sealed_ones f turn) ∙ c.if-is_at_its_number.false in
    let a = on_the_way (g.O.Sink.held c.args.out.now) (waiting_bytes c.args.text.now) in
    let b = on_the_way (g.O.Sink.held c.push_numbered_line.new.out) (waiting_bytes c.push_numbered_line.new.text) in
    subst (λ l. AddsText a b l) (sym (cond-false _ _ _ none)) c.in-Ok.ensures.ok

pub returns-in-Err-clause-err : goal.returns-in-Err-clause-err
returns-in-Err-clause-err g c = λ sealed_ones holds turn.
    let f : NumberedFrame = record {
      number = c.args.head.number;
      start = c.args.head.start;
      frame = c.args.bytes.now;
    } in
    let none : is_among sealed_ones f ≡ false =
    sym (c.is_at_its_number.ensures sealed_ones f holds refl refl
    ∙ among-in-place 0 sealed_ones f turn) ∙ c.if-is_at_its_number.false in
    let a = on_the_way (g.O.Sink.held c.args.out.now) (waiting_bytes c.args.text.now) in
    subst (λ l. PrintingBreaksOff a (g.O.Sink.held c.push_numbered_line.new.out) l)
    (sym (cond-false _ _ _ none)) c.in-Err.ensures.err
