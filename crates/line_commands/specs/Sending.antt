-- The texts of what a box makes of a line, on their way to two sinks.
use Rattle.std.specs.Prelude.{List}
use Rattle.yasir_ticks.specs.declared.tick.Tick.{Tick}
use Rattle.line_texts.specs.Sending as texts
use Rattle.line_texts.specs.Sending.{LineAndNotes, SinkTexts, Waiting, SendsTexts}
use Rattle.line_commands.specs.Boxes.{Boxed}

-- the line and the notes that a box makes
abbrev pub made_by : Boxed → LineAndNotes
made_by box = record { other_line = box.other_line; note_lines = box.note_lines }

-- what a box makes of a line is on its way to the two sinks, the notes first
abbrev pub SendsBoxed : Boxed → Waiting → SinkTexts → SinkTexts → List Tick → Type 0
SendsBoxed box = SendsTexts (made_by box)

-- the sinks have got all that a box makes of a line
abbrev pub CommandHasSent : Boxed → SinkTexts → SinkTexts → List Tick → Type 0
CommandHasSent box = texts.TextsHaveSent (made_by box)

-- each sink has got a front of what a box makes of a line, the notes first
abbrev pub CommandHasSentFronts : Boxed → SinkTexts → SinkTexts → List Tick → Type 0
CommandHasSentFronts box = texts.HasSentFronts (made_by box)
