-- What a run of the program is given before it begins: its words, and the files of its key and its
-- journal.
use Rattle.std.specs.Prelude.{◌≡◌, ℕ, List, Option, None, drop, map, option_map}
use Rattle.std.specs.String.{string_bytes}
use Rattle.std.specs.Vec.Iter.{into_iter_items}
use Rattle.std.specs.declared.string.String.{String}
use Rattle.std.specs.declared.alloc.Global.{Global}
use Rattle.std.specs.declared.vec.IntoIter.{IntoIter}
use Rattle.yasir_io.specs.declared.files.FileSource.{FileSource}
use Rattle.yasir_io.specs.declared.files.FileSlots.{FileSlots}
use Rattle.yasir_io.specs.declared.files.SlotFile.{SlotFile}
use Rattle.yasir_io.specs.declared.lazy_file.OwnFile.TheVariants.{Closed}
use Rattle.yasir_io.specs.Edge.{file_of, file_path, file_options, file_faults}
use Rattle.yasir_io.specs.Edge.{slots_file, slots_path, slots_kind, slots_options, slots_faults}
use Rattle.yasir_io.specs.SlotFiles.{for_reading, for_slots}

-- the words of the arguments that haven't been taken yet: all but the first, which is the program's
-- name
abbrev pub words_after : IntoIter (String Global) Global → List (List ℕ)
words_after args = map string_bytes (drop 1 (into_iter_items args))

-- Holds if the source is the file at this path, for reading only, and no call on it has been made.
pub record IsKeyFile {R F D : Type 0} (bytes : Option (List ℕ)) (source : FileSource R F D)
    : Type 0 where
  pub path : option_map string_bytes (file_path source) ≡ bytes
  pub closed : file_of source ≡ None
  pub options : file_options source ≡ for_reading
  pub faults : file_faults source ≡ 0

-- Holds if the disk is the file at this path, this is what is expected of it, and no call on it has
-- been made.
pub record IsJournalFile {R F D : Type 0} (bytes : Option (List ℕ)) (expected : SlotFile)
    (disk : FileSlots R F D) : Type 0 where
  pub path : option_map string_bytes (slots_path disk) ≡ bytes
  pub closed : slots_file disk ≡ Closed
  pub options : slots_options disk ≡ for_slots expected
  pub kind : slots_kind disk ≡ expected
  pub faults : slots_faults disk ≡ 0
