use Rattle.yasir_ticks.proofs.Feeding.{fed_stands, fed_begins, fed_run, fed_refused, fed_line}
use Rattle.yasir_ticks.proofs.reader.TickReader.feed.Goals as goal

pub returns-clause-stands : goal.returns-clause-stands
returns-clause-stands c = λ marks text stood.
    fed_stands _ _ _ marks text stood _ c.step.ensures.step

pub returns-clause-begins : goal.returns-clause-begins
returns-clause-begins c = λ marks text stood.
    fed_begins _ _ _ marks text stood _ c.step.ensures.step

pub returns-clause-run : goal.returns-clause-run
returns-clause-run c = λ marks text stood. fed_run _ _ _ marks text stood _ c.step.ensures.step

pub returns-clause-refused : goal.returns-clause-refused
returns-clause-refused c = λ marks text stood.
    fed_refused _ _ _ marks text stood _ c.step.ensures.step

pub returns-clause-line_kept : goal.returns-clause-line_kept
returns-clause-line_kept c = fed_line _ _ _ _ c.step.ensures.step
