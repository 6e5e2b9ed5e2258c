-- What a buffer of text holds.
use Rattle.std.specs.Prelude.{ℕ, List}
use Rattle.yasir_io.specs.declared.text_buffer.TextBuffer.{TextBuffer}

-- the bytes that wait to be written
abbrev pub waiting_bytes : TextBuffer → List ℕ
waiting_bytes buffer = buffer.text.items
