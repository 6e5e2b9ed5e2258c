use Rattle.live_line.proofs.Ended.{ended_then}
use Rattle.live_line.specs.WayText.{AreEnded}
use Rattle.std.proofs.Common.{◌∙◌, ◌++◌, ap, sym, subst}
use Rattle.live_line.proofs.plain_box.add_noted.Goals as goal

pub returns-in-Some-clause-ended : goal.returns-in-Some-clause-ended
returns-in-Some-clause-ended g c = λ ended. subst AreEnded
    (sym (c.add_noted.ensures.adds.notes ∙ ap (λ l. c.args.texts.now.notes.text.items ++ l)
    (c.as_slice.ensures.value ∙ c.note_line-line.ensures)))
    (ended_then c.args.texts.now.notes.text.items (g.B.LineBox.line_of c.in-Some.note) ended
    (g.met.B.EndedNotes.ended_line c.in-Some.note))
