use Rattle.std.proofs.Common.{◌∙◌, refl}
use Rattle.tick_drive.proofs.Driving.{progress_start, progress_quiet, progress_line, step_ends}
use Rattle.tick_drive.proofs.Driving.{line_lent, finish_ends, line_ends, last_ends, last_line_ends}
use Rattle.tick_drive.proofs.{Driving.read_same, Driving.progress_same, Moving.gives_none}
use Rattle.tick_drive.proofs.input_loop.drive_with_room.Goals as goal

pub loop-content-init : goal.loop-content-init
loop-content-init g c = (
  progress_start g.C.Consumer.meaning g.met.C.Consumer.went_then
      _ _ _ _ (c.new-intake.ensures (g.S.Source.left c.args.input.now))
      (gives_none g.C.Consumer.meaning _ g.met.C.Consumer.went_none c.requires.able)
      c.requires.room,
  refl,
)

pub loop-content-preserved-in-Some : goal.loop-content-preserved-in-Some
loop-content-preserved-in-Some g c =
    let progress = c.loop-content.invariant.0 in
    let met = c.in-Some.ensures.answer _ _ _ progress.text progress.met in
    let line = line_lent _ _ _ _ _ _ _ c.line_bytes.ensures.bytes met in (
      progress_line g.C.Consumer.meaning g.met.C.Consumer.went_then
          _ _ _ _ _ _ _ _ _ _ _ _ progress line c.in-Ok.ensures,
      c.loop-content.invariant.1,
    )

pub returns-in-Err : goal.returns-in-Err
returns-in-Err g c =
    let progress = c.loop-content.invariant.0 in
    let met = c.in-Some.ensures.answer _ _ _ progress.text progress.met in
    let line = line_lent _ _ _ _ _ _ _ c.line_bytes.ensures.bytes met in
    let ends = line_ends g.C.Consumer.meaning g.met.C.Consumer.went_then
    _ _ _ _ _ _ _ _ _ _ _ _ progress line c.in-Err.ensures in
    rw c.end.ensures (record {
      driven = ends.0;
      read = read_same _ _ _ c.loop-content.invariant.1 ends.1;
    })

pub loop-content-preserved-in-NoTick : goal.loop-content-preserved-in-NoTick
loop-content-preserved-in-NoTick g c =
    let progress = progress_same g.C.Consumer.meaning g.met.C.Consumer.went_then _ _ _ _ _ _ _ _
    (c.usual_line.ensures.none c.in_default.is) c.loop-content.invariant.0 in
    let answer = (rw c.in-Ok-Some.field-0-is at c.in-Ok-Some.ensures.answer) _ _ progress.text
    progress.met in (
      progress_quiet g.C.Consumer.meaning g.met.C.Consumer.went_then _ _ _ _ _ _ _ _ _ progress
          (rw c.in-NoTick.is at answer),
      c.in-Ok-Some.ensures.cause.same refl ∙ c.loop-content.invariant.1,
    )

pub loop-content-preserved : goal.loop-content-preserved
loop-content-preserved g c =
    let progress = progress_same g.C.Consumer.meaning g.met.C.Consumer.went_then _ _ _ _ _ _ _ _
    (c.usual_line.ensures.none c.in_default.is) c.loop-content.invariant.0 in
    let answer = (rw c.in-Ok-Some.field-0-is at c.in-Ok-Some.ensures.answer) _ _ progress.text
    progress.met in
    let line = line_lent _ _ _ _ _ _ _ c.line_bytes-bytes.ensures.bytes answer in (
      progress_line g.C.Consumer.meaning g.met.C.Consumer.went_then
          _ _ _ _ _ _ _ _ _ _ _ _ progress line c.in-Ok-hand_other.ensures,
      c.in-Ok-Some.ensures.cause.same refl ∙ c.loop-content.invariant.1,
    )

pub returns-in-Err-hand_other : goal.returns-in-Err-hand_other
returns-in-Err-hand_other g c =
    let progress = progress_same g.C.Consumer.meaning g.met.C.Consumer.went_then _ _ _ _ _ _ _ _
    (c.usual_line.ensures.none c.in_default.is) c.loop-content.invariant.0 in
    let answer = (rw c.in-Ok-Some.field-0-is at c.in-Ok-Some.ensures.answer) _ _ progress.text
    progress.met in
    let line = line_lent _ _ _ _ _ _ _ c.line_bytes-bytes.ensures.bytes answer in
    let ends = line_ends g.C.Consumer.meaning g.met.C.Consumer.went_then
    _ _ _ _ _ _ _ _ _ _ _ _ progress line
    c.in-Err-hand_other.ensures in
    rw c.end-in-Err-hand_other.ensures (record {
      driven = ends.0;
      read = read_same _ _ _ (c.in-Ok-Some.ensures.cause.same refl
          ∙ c.loop-content.invariant.1) ends.1;
    })

pub returns-in-Err-step-clause-driven : goal.returns-in-Err-step-clause-driven
returns-in-Err-step-clause-driven g c =
    let progress = progress_same g.C.Consumer.meaning g.met.C.Consumer.went_then _ _ _ _ _ _ _ _
    (c.usual_line.ensures.none c.in_default.is) c.loop-content.invariant.0 in
    step_ends g.C.Consumer.meaning g.met.C.Consumer.went_then _ _ _ _ _ c.step.new.self
    _ _ _ _ progress (c.in-Err-step.ensures.answer _ _ progress.text progress.met)

pub returns-in-Err-finish : goal.returns-in-Err-finish
returns-in-Err-finish g c =
    let progress = progress_same g.C.Consumer.meaning g.met.C.Consumer.went_then _ _ _ _ _ _ _ _
    (c.usual_line.ensures.none c.in_default.is) c.loop-content.invariant.0 in
    let met = (rw c.in-Ok-None.field-0-is at c.in-Ok-None.ensures.answer) _ _ progress.text
    progress.met in
    let ends = finish_ends g.C.Consumer.meaning g.met.C.Consumer.went_then
    _ _ _ _ _ _ _ _ _ _ progress met (c.in-Err-finish.ensures _ progress.text met.fed) in
    record {
      driven = ends.0;
      read = read_same _ _ _ (c.in-Ok-None.ensures.cause.same refl
          ∙ c.loop-content.invariant.1) ends.1;
    }

pub returns-in-Ok-hand_last-clause-driven : goal.returns-in-Ok-hand_last-clause-driven
returns-in-Ok-hand_last-clause-driven g c =
    let progress = progress_same g.C.Consumer.meaning g.met.C.Consumer.went_then _ _ _ _ _ _ _ _
    (c.usual_line.ensures.none c.in_default.is) c.loop-content.invariant.0 in
    let met = (rw c.in-Ok-None.field-0-is at c.in-Ok-None.ensures.answer) _ _ progress.text
    progress.met in
    last_ends g.C.Consumer.meaning g.met.C.Consumer.went_then _ _ _ _ _ _ _ _ _ _ _ _ progress
    met (c.in-Ok-finish.ensures _ progress.text met.fed) c.in-Ok-hand_last.ensures

pub returns-in-Err-hand_last : goal.returns-in-Err-hand_last
returns-in-Err-hand_last g c =
    let progress = progress_same g.C.Consumer.meaning g.met.C.Consumer.went_then _ _ _ _ _ _ _ _
    (c.usual_line.ensures.none c.in_default.is) c.loop-content.invariant.0 in
    let met = (rw c.in-Ok-None.field-0-is at c.in-Ok-None.ensures.answer) _ _ progress.text
    progress.met in
    let ends = last_line_ends g.C.Consumer.meaning g.met.C.Consumer.went_then
    _ _ _ _ _ _ _ _ _ _ _ _ progress met (c.in-Ok-finish.ensures _ progress.text met.fed)
    c.in-Err-hand_last.ensures in
    rw c.end-in-Err-hand_last.ensures (record {
      driven = ends.0;
      read = read_same _ _ _ (c.in-Ok-None.ensures.cause.same refl
          ∙ c.loop-content.invariant.1) ends.1;
    })
