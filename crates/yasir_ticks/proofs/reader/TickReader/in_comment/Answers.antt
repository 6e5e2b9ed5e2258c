use Rattle.yasir_ticks.proofs.{Readers.step_refused, Steps.refuses_comment}
use Rattle.yasir_ticks.proofs.reader.TickReader.in_comment.Goals as goal

pub returns-else-length-lt-MAX_COMMENT : goal.returns-else-length-lt-MAX_COMMENT
returns-else-length-lt-MAX_COMMENT c =
    step_refused _ _ _ _ _ _ c.requires.place c.refuse.ensures.err c.refuse.ensures.place
    c.refuse.ensures.line
    (refuses_comment _ _ _ _ c.if-length-lt-MAX_COMMENT.false c.if-b-eq10.false)
