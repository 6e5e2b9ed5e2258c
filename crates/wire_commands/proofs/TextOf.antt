-- The text of ticks, as it grows run by run.
use Rattle.line_commands.specs.declared.memory_text.MemoryText.{MemoryText}
use Rattle.line_texts.proofs.Sending.{sends_added}
use Rattle.line_texts.specs.{Adding.TextAdds, Sending.SendsTexts, Sending.sink_texts}
use Rattle.line_texts.specs.Texts.{waiting_in}
use Rattle.line_texts.specs.declared.texts.Texts.{Texts}
use Rattle.line_commands.specs.MemoryText.{text_bytes}
use Rattle.std.proofs.Common.{◌≡◌, ℕ, List, [], ◌++◌, Some, refl}
use Rattle.wire_commands.specs.TickLines.{line_itself}
use Rattle.std.specs.Io.KnownBytes.{append_known}
use Rattle.yasir_ticks.specs.declared.tick.Tick.{Tick}

-- Holds if the text of these ticks is on its way from these texts to a memory that was empty.
abbrev pub IsOnItsWay : Texts → MemoryText → MemoryText → List Tick → Type 0
IsOnItsWay texts text log ticks =
    SendsTexts line_itself (waiting_in texts) (sink_texts (Some []) (Some []))
    (sink_texts (Some (text_bytes text)) (Some (text_bytes log))) ticks

pub goes-on : (old new : Texts) (text log : MemoryText) (run : List Tick)
    → TextAdds (waiting_in old) (waiting_in new) run [] → (line : List Tick)
    → IsOnItsWay old text log line → IsOnItsWay new text log (line ++ run)
goes-on old new text log run adds line goes =
    sends_added line_itself line run run [] (record { ticks_are = refl; note_is = refl })
    (waiting_in old) (waiting_in new) _ _ goes adds

-- a text that was written to an empty memory
pub whole-text : (bytes text : List ℕ) → Some bytes ≡ append_known (Some []) text → bytes ≡ text
whole-text bytes text is = cc
