use Rattle.frame_ending.specs.Answered.{answered}
use Rattle.line_commands.specs.Recording.{filled_recording}
use Rattle.std.proofs.Common.{◌≡◌, ◌∙◌, ◌∷◌, [], List, ap, subst, sym, arith, length}
use Rattle.std.proofs.lemmas.Bool.{eqb-true, eqb-false}
use Rattle.std.proofs.lemmas.List.{nil_from_length}
use Rattle.wire_commands.proofs.Ahead.{ahead-already, ahead-now}
use Rattle.wire_commands.specs.Hearing.{SurelyHears}
use Rattle.wire_commands.specs.WireBox.{next_of}
use Rattle.yasir_ticks.specs.{TickRun.run_ticks, declared.tick.Tick.Tick}
use Rattle.wire_commands.proofs.wire_lines.catch_up.Goals as goal

pub returns-then-not-is_empty : goal.returns-then-not-is_empty
returns-then-not-is_empty g c = ahead-already g.B.LinkBox c.args.wire_box.now
    (c.args.own ∷ run_ticks c.args.next) (filled_recording c.args.left c.args.line.now) c.args.left
    c.requires.served (omega (
      arith,
      eqb-false (length (run_ticks c.next.result)) 0 (sym c.is_empty.ensures ∙ c.if-not-is_empty.true),
      ap length c.next.ensures,
    )) c.requires.within

pub returns : goal.returns
returns g c =
    let known : List Tick = c.args.own ∷ run_ticks c.args.next in
    let wires : List Tick = filled_recording c.args.left c.args.line.now in
    let none : next_of c.args.wire_box.now ≡ [] = nil_from_length (next_of c.args.wire_box.now)
    (ap length (sym c.next.ensures)
    ∙ eqb-true (length (run_ticks c.next.result)) 0 (sym c.is_empty.ensures ∙ c.if-not-is_empty.false)) in
    let run_is : run_ticks c.answer_run.result
    ≡ answered c.heard_run-count.result c.heard_run-count.new.heard.items =
    c.answer_run.ensures ∙ ap (answered c.heard_run-count.result) c.as_slice.ensures.value in
    ahead-now g.B.LinkBox c.args.wire_box.now c.take.new.self known wires (run_ticks c.answer_run.result)
    c.args.left c.take.result none (subst (SurelyHears known wires) (sym run_is)
    c.heard_run-count.ensures.heard) (omega (arith, ap length run_is, c.heard_run-count.ensures.within))
    c.take.ensures
