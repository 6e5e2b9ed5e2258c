use Rattle.session_lists.specs.FrameList.{Holds}
use Rattle.std.proofs.Common.{◌∙◌, [], ◌∷◌, ◌++◌, subst}
use Rattle.line_commands.proofs.kept_box.push_note.Goals as goal

pub returns-in-Ok : goal.returns-in-Ok
returns-in-Ok g c = λ lines holds.
    rw c.in-Some.is (subst (λ line. Holds c.push.new.self
    (lines ++ record { head = c.args.tick; frame = line } ∷ []))
    (c.as_slice.ensures.value ∙ c.note_line-line.ensures) (c.in-Ok.ensures.kept lines holds))
