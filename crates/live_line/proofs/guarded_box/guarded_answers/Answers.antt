use Rattle.line_spacer.specs.Spacing.{spaced_line}
use Rattle.std.proofs.Common.{◌∙◌, ap}
use Rattle.live_line.proofs.guarded_box.guarded_answers.Goals as goal

pub returns : goal.returns
returns c = λ reads gap room made line run between answer note step lost answers spaced. record {
  ticks_are = ap (spaced_line reads gap room) answers.ticks_are ∙ spaced.ticks_leave;
  note_is = answers.note_is;
}
