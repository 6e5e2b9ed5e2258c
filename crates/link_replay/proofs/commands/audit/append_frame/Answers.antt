use Rattle.device_model.specs.Frames.{FrameRead}
use Rattle.command_ends.specs.FrameLine.{frame_line_of}
use Rattle.link_replay.specs.AuditCommand.{frame_or_none}
use Rattle.std.proofs.Common.{◌≡◌, ◌∙◌, ℕ, List, ◌++◌, ap, append_assoc, sym}
use Rattle.std.specs.Prelude.{codes}
use Rattle.link_replay.proofs.commands.audit.append_frame.Goals as goal

pub returns-in-Some-clause-line : goal.returns-in-Some-clause-line
returns-in-Some-clause-line c =
    let text : List ℕ = c.args.text.now.items in
    let word : List ℕ = c.args.word.now in
    let at : FrameRead → List ℕ = λ f. frame_line_of (codes " at ") f in
    let read : ℕ → List ℕ → FrameRead = λ s x. record { start = s; frame = x } in
    let same : read c.start.result c.bytes.result.now ≡ c.in-Some.frame =
    ap (λ s. read s c.bytes.result.now) c.start.ensures
    ∙ ap (read c.in-Some.frame.start) c.bytes.ensures.bytes in
    c.write_frame_line.ensures.line
    ∙ (ap (λ t. t ++ at (read c.start.result c.bytes.result.now)) c.append.ensures
    ∙ (append_assoc text word (at (read c.start.result c.bytes.result.now))
    ∙ (ap (λ f. text ++ (word ++ at f)) same
    ∙ sym (ap (λ o. text ++ frame_or_none word o) c.in-Some.is))))
