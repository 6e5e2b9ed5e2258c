use Rattle.line_commands.{proofs.ReadEnds.drives_frames, specs.PrintsFrames.DrivesFrames}
use Rattle.std.proofs.Common.{◌≡◌, ◌∙◌, ap, subst, sym}
use Rattle.tick_drive.specs.Drive.{drive_answer_of}
use Rattle.yasir_io.specs.{Causes.HasCause, TextBuffer.waiting_bytes}
use Rattle.line_commands.proofs.read_command.drive_frames.Goals as goal

pub returns-clause-driven : goal.returns-clause-driven
returns-clause-driven g c =
    let begun = c.new-printer.ensures in
    let ended = c.drive_to_rest.new.consumer in
    let went = c.drive_to_rest.ensures.driven.gives.went in
    let lines : c.lines-1.given.0 ≡ ended.lines.now =
    c.lines-1.given.1 (sym (went.lines ∙ ap (λ m. m.ghost_name) begun.lines)) in
    let out : c.out-1.given.0 ≡ ended.out.now =
    c.out-1.given.1 (sym (went.out ∙ ap (λ m. m.ghost_name) begun.out)) in
    rw (lines, out) (subst (λ out. DrivesFrames g.V.Device.reads (g.S.Source.left c.args.input.now)
    (g.S.Source.left c.drive_to_rest.new.input) (g.O.Sink.held out.now)
    (g.O.Sink.held ended.out.now) (waiting_bytes ended.lines.now) c.drive_to_rest.result) begun.out
    (drives_frames g.V.Device g.O.Sink _ _ c.new-printer.result ended
    (rw begun.device c.requires.stands) c.requires.nothing (rw begun.lines c.requires.waits)
    c.drive_to_rest.result c.drive_to_rest.ensures.driven))

pub returns-clause-sink : goal.returns-clause-sink
returns-clause-sink g c =
    let begun = c.new-printer.ensures in
    let ended = c.drive_to_rest.new.consumer in
    let went = c.drive_to_rest.ensures.driven.gives.went in
    let out : c.out-1.given.0 ≡ ended.out.now =
    c.out-1.given.1 (sym (went.out ∙ ap (λ m. m.ghost_name) begun.out)) in
    rw out (subst (λ out. HasCause (g.O.Sink.faults out.now) (g.O.Sink.faults ended.out.now)
    (drive_answer_of c.drive_to_rest.result)) begun.out went.cause)

pub returns-clause-flushes : goal.returns-clause-flushes
returns-clause-flushes g c =
    let begun = c.new-printer.ensures in
    let ended = c.drive_to_rest.new.consumer in
    let went = c.drive_to_rest.ensures.driven.gives.went in
    let out : c.out-1.given.0 ≡ ended.out.now =
    c.out-1.given.1 (sym (went.out ∙ ap (λ m. m.ghost_name) begun.out)) in
    rw out (subst (λ out. g.O.Sink.flushes ended.out.now ≡ g.O.Sink.flushes out.now)
    begun.out went.flushes)
