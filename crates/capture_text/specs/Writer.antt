-- What a writer of a dump has written.
use Rattle.std.specs.Prelude.{◌≡◌, ℕ, List, ◌++◌, length}
use Rattle.std.specs.List.{flat_map}
use Rattle.yasir_ticks.specs.declared.tick.Tick.{Tick}
use Rattle.line_stamps.specs.declared.rate.Rate.{Rate}
use Rattle.capture_text.specs.Changes.{ticks_changes}
use Rattle.capture_text.specs.Dump.{dump_front, change_text}
use Rattle.capture_text.specs.declared.text.Wires.{Wires}
use Rattle.capture_text.specs.declared.dump_writer.DumpWriter.{DumpWriter}

abbrev pub rate_of : DumpWriter → Rate
rate_of writer = writer.rate

abbrev pub wires_of : DumpWriter → Wires
wires_of writer = writer.wires

abbrev pub ticks_of : DumpWriter → ℕ
ticks_of writer = writer.ticks

-- The writer was given these ticks of the two wires, and this is the text so far.
pub record HasWritten (writer : DumpWriter) (a b : List Tick) (text : List ℕ) : Type 0 where
  pub count_a : length a ≡ writer.ticks
  pub count_b : length b ≡ writer.ticks
  pub text_is : text ≡ dump_front writer.wires
      ++ flat_map change_text (ticks_changes writer.rate a b)
