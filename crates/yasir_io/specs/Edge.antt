-- What the readers, writers and files at the edge of the program are, and how often they have
-- failed.
use Rattle.std.specs.Prelude.{ℕ, Option, Bool}
use Rattle.yasir_io.specs.declared.edge.StdinSource.{StdinSource}
use Rattle.yasir_io.specs.declared.edge.WriterSink.{WriterSink}
use Rattle.yasir_io.specs.declared.files.FileSource.{FileSource}
use Rattle.yasir_io.specs.declared.files.FileSlots.{FileSlots}
use Rattle.yasir_io.specs.declared.files.SlotFile.{SlotFile}
use Rattle.yasir_io.specs.declared.reason.Reason.{Reason}
use Rattle.yasir_io.specs.declared.lazy_file.OwnFile.{OwnFile}
use Rattle.std.specs.declared.fs.OpenOptions.{OpenOptions}
use Rattle.std.specs.declared.string.String.{String}
use Rattle.std.specs.declared.alloc.Global.{Global}

-- the reader of a source
abbrev pub reader_of : {I : Type 0} → StdinSource I → I
reader_of source = source.reader

-- how often a read has failed
abbrev pub reader_faults : {I : Type 0} → StdinSource I → ℕ
reader_faults source = source.faults.count

-- why the last read that failed was refused
abbrev pub reader_reason : {I : Type 0} → StdinSource I → Option Reason
reader_reason source = source.faults.reason

-- the writer of a sink
abbrev pub writer_of : {W : Type 0} → WriterSink W → W
writer_of sink = sink.writer

-- how often a write or a flush has failed
abbrev pub writer_faults : {W : Type 0} → WriterSink W → ℕ
writer_faults sink = sink.faults.count

-- how often a flush has ended well
abbrev pub writer_flushes : {W : Type 0} → WriterSink W → ℕ
writer_flushes sink = sink.flushes.count

-- whether bytes were written since the last flush that ended well
abbrev pub writer_unflushed : {W : Type 0} → WriterSink W → Bool
writer_unflushed sink = sink.flushes.unflushed

-- the file, if it is open
abbrev pub file_of : {R F D : Type 0} → FileSource R F D → Option F
file_of source = source.file.file

-- the path of the file, if it has one
abbrev pub file_path : {R F D : Type 0} → FileSource R F D → Option (String Global)
file_path source = source.file.name.path

-- how the file is opened
abbrev pub file_options : {R F D : Type 0} → FileSource R F D → OpenOptions
file_options source = source.file.name.options

-- how often a read of the file has failed
abbrev pub file_faults : {R F D : Type 0} → FileSource R F D → ℕ
file_faults source = source.faults.count

-- why the last read of the file that failed was refused
abbrev pub file_reason : {R F D : Type 0} → FileSource R F D → Option Reason
file_reason source = source.faults.reason

-- the file of slots: closed, waiting to be taken, or the run's own
abbrev pub slots_file : {R F D : Type 0} → FileSlots R F D → OwnFile F
slots_file disk = disk.file.file

-- the path of the file of slots, if it has one
abbrev pub slots_path : {R F D : Type 0} → FileSlots R F D → Option (String Global)
slots_path disk = disk.file.name.path

-- what is expected of the file of slots
abbrev pub slots_kind : {R F D : Type 0} → FileSlots R F D → SlotFile
slots_kind disk = disk.kind

-- how the file of slots is opened
abbrev pub slots_options : {R F D : Type 0} → FileSlots R F D → OpenOptions
slots_options disk = disk.file.name.options

-- how far writes reach into the file of slots: the end of the last slot that one was begun to
abbrev pub slots_written : {R F D : Type 0} → FileSlots R F D → ℕ
slots_written disk = disk.reach.written

-- how far the writes had reached when the file of slots was last synced
abbrev pub slots_synced : {R F D : Type 0} → FileSlots R F D → ℕ
slots_synced disk = disk.reach.synced

-- how often a call on the file of slots has failed
abbrev pub slots_faults : {R F D : Type 0} → FileSlots R F D → ℕ
slots_faults disk = disk.faults.count

-- why the last call on the file of slots that failed was refused
abbrev pub slots_reason : {R F D : Type 0} → FileSlots R F D → Option Reason
slots_reason disk = disk.faults.reason
