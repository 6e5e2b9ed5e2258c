-- The canonical text of ticks, as it grows in memory.
use Rattle.std.specs.Prelude.{List, [], Some}
use Rattle.yasir_ticks.specs.declared.tick.Tick.{Tick}
use Rattle.line_commands.specs.MemoryText.{text_bytes}
use Rattle.line_texts.specs.Adding.{TextHasRoom}
use Rattle.line_texts.specs.Sending.{LineAndNotes, sink_texts, SendsTexts}
use Rattle.line_texts.specs.Texts.{waiting_in}
use Rattle.wire_commands.specs.declared.tick_lines.TickLines.{TickLines}

-- a line as it is, without notes
abbrev pub line_itself : LineAndNotes
line_itself = record { other_line = λ line. line; note_lines = λ line. [] }

-- Holds if a short run may be added.
abbrev pub HasRoom : TickLines → Type 0
HasRoom value = TextHasRoom value.texts

-- Holds if the text of these ticks is on its way to a memory that was empty.
abbrev pub HasWritten : TickLines → List Tick → Type 0
HasWritten value ticks =
    SendsTexts line_itself (waiting_in value.texts) (sink_texts (Some []) (Some []))
    (sink_texts (Some (text_bytes value.text)) (Some (text_bytes value.log))) ticks
