-- What a text in memory holds.
use Rattle.std.specs.Prelude.{ℕ, List}
use Rattle.line_commands.specs.declared.memory_text.MemoryText.{MemoryText}

-- the bytes of the text
abbrev pub text_bytes : MemoryText → List ℕ
text_bytes text = text.bytes.items
