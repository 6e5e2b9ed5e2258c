-- The program over a file system: which files are its key and its journals, and how it ends.
use Rattle.std.specs.Prelude.{◌≡◌, ◌↔◌, ◌⊎◌, ℕ, List, Option, Some, None}
use Rattle.yasir_io.specs.Edge.{file_reason, slots_reason}
use Rattle.yasir_io.specs.declared.reason.Reason.{Reason}
use Rattle.yasir_io.specs.declared.source.Source.{Ghosts as Source}
use Rattle.yasir_io.specs.declared.sink.Sink.{Ghosts as Sink}
use Rattle.yasir_io.specs.declared.disk.SlotDisk.{Ghosts as SlotDisk}
use Rattle.yasir_io.specs.declared.files.FileSource.{FileSource}
use Rattle.yasir_io.specs.declared.files.FileSlots.{FileSlots}
use Rattle.yasir_io.specs.declared.files.SlotFile.{SlotFile}
use Rattle.yasir_io.specs.declared.files.SlotFile.TheVariants.{Standing, New}
use Rattle.command_ends.specs.Outside.{Outside, outside}
use Rattle.line_commands.specs.declared.streams.Streams.{Streams}
use Rattle.command_ends.specs.Given.{IsKeyFile, IsJournalFile}
use Rattle.command_ends.specs.Reasons.{told_by}
use Rattle.command_ends.specs.Statuses.{exit_status_of}
use Rattle.command_ends.specs.declared.status.Status.TheVariants.{Usage, NoMemory}
use Rattle.link_replay.specs.declared.words.Command.{Command}
use Rattle.link_replay.specs.declared.words.Command.TheVariants.{Init}
use Rattle.link_replay.specs.Words.{key_place, journal_place, second_place, word_in}
use Rattle.live_ways.specs.WayStreams.{IsLineCalm}
use Rattle.link_replay.specs.TwoDisks.{RunsSo, HasCausesOverTwo, MayDoOverTwo}
use Rattle.link_replay.specs.TwoDisks.{EndsWellOverTwo, KeepsDisks, disk_of}
use Rattle.live_ways.specs.declared.both_disks.BothDisks.{BothDisks}
use Rattle.live_ways.specs.declared.line_status.Ended.{Ended}
use Rattle.link_replay.specs.UsageLines.{fault_text}

-- the path of a file whose path has this place among the words of a command, if the command has
-- such a file
abbrev pub path_in : (Command → Option ℕ) → List (List ℕ) → Option Command → Option (List ℕ)
path_in place words None = None
path_in place words (Some command) = word_in words (place command)

-- what is expected of the journal's file: only `init` makes one
abbrev pub journal_kind : Option Command → SlotFile
journal_kind (Some (Init proto profile dir)) = New
journal_kind asked = Standing

-- the outside of a run: a key, streams and a disk
abbrev pub outside_of : {K S O L D : Type 0} → K → Streams S O L → D → Outside K S O L D
outside_of key streams disk = outside key streams.input streams.out streams.log disk

-- the outside of a run over the files of the key and the journals
abbrev pub with_files : {K S O L D : Type 0} → Streams S O L → K → D → Outside K S O L D
with_files streams key disk = outside_of key streams disk

-- Holds if the disks are the files of the journals whose paths are among the words, and no call on them
-- has been made. A command with one journal, or none, has no path of a second one.
pub record AreJournalFiles {R F D : Type 0} (words : List (List ℕ)) (asked : Option Command)
    (disks : BothDisks (FileSlots R F D)) : Type 0 where
  pub first : IsJournalFile (path_in journal_place words asked) (journal_kind asked) disks.first
  pub second : IsJournalFile (path_in second_place words asked) Standing disks.second

-- `tells` is the reason that the input tells.
module _ {R F D S O L : Type 0}
    (k : Source (FileSource R F D)) (s : Source S) (o : Sink O) (l : Sink L)
    (d : SlotDisk (FileSlots R F D)) (tells : S → Option Reason) where
  -- Holds if the program runs over the files whose paths are among its words, and does what the
  -- words ask for.
  pub record RunsOverFiles (words : List (List ℕ)) (asked : Option Command)
      (before after : Streams S O L) (ended : Ended) : Type 0 where
    pub key_before : FileSource R F D
    pub key_after : FileSource R F D
    pub disks_before : BothDisks (FileSlots R F D)
    pub disks_after : BothDisks (FileSlots R F D)
    pub key : IsKeyFile (path_in key_place words asked) key_before
    pub journals : AreJournalFiles words asked disks_before
    pub usage : (ended.status ≡ Usage) ↔ (asked ≡ None)
    pub runs : RunsSo k s o l d (fault_text words
        (told_by file_reason tells slots_reason key_after after.input
        (disk_of ended.way disks_after))) asked
        (with_files before key_before disks_before) (with_files after key_after disks_after) ended
    pub any_moment : KeepsDisks d asked disks_before disks_after
    pub done : MayDoOverTwo k s o l d asked (with_files before key_before disks_before)
        → IsLineCalm k s o l d
        (with_files before key_before disks_before) (with_files after key_after disks_after)
        → EndsWellOverTwo k s o l d asked (with_files before key_before disks_before) ended
    pub causes : HasCausesOverTwo k s o l d asked (with_files before key_before disks_before)
        (with_files after key_after disks_after) ended

  -- Holds if the program ran over its files and ended with the exit status of that run, or nothing
  -- was done, since the runtime refused something that a run needs, or there was no memory for a
  -- path.
  abbrev pub EndsOverFiles : List (List ℕ) → Option Command → Streams S O L → Streams S O L → ℕ
      → Type 0
  EndsOverFiles words asked before after exit_status =
      ((ended : Ended) × (exit_status ≡ exit_status_of ended.status)
      × RunsOverFiles words asked before after ended)
      ⊎ ((after ≡ before) × ((exit_status ≡ 13) ⊎ (exit_status ≡ exit_status_of NoMemory)))
