-- The commands `help` and `version`: each prints a text of the program.
use Rattle.std.specs.Prelude.{◌≡◌, ℕ, List, ◌++◌, codes}
use Rattle.yasir_io.specs.declared.sink.Sink.{Ghosts as Sink}
use Rattle.command_ends.specs.Outside.{Outside}
use Rattle.command_ends.specs.declared.status.Status.{Status}
use Rattle.link_replay.specs.Printing.{Prints}
use Rattle.link_replay.specs.declared.commands.about.TheConstants.{HELP_PAGE}
use Rattle.link_replay.specs.declared.words.Command.{Command}
use Rattle.link_replay.specs.declared.words.Command.TheVariants.{Init, Read, Vectors, Seal, Check}
use Rattle.link_replay.specs.declared.words.Command.TheVariants.{Replay, Trial, Poll, Space}
use Rattle.link_replay.specs.declared.words.Command.TheVariants.{Audit, Duplex, LiveSeal, LiveCheck}
use Rattle.link_replay.specs.declared.words.Command.TheVariants.{TwoWire, LiveLine, Help, Version}

-- the words that ask for a command, as the page of `help` names them
abbrev pub named_words : Command → List ℕ
named_words (Read proto) = codes "read P"
named_words (Init proto profile dir) = codes "init P DIR JOURNAL"
named_words (Seal proto profile dir) = codes "seal P DIR KEY JOURNAL"
named_words (Check proto profile dir) = codes "check P DIR KEY JOURNAL"
named_words (Space proto profile) = codes "space P"
named_words (Replay proto profile dir) = codes "replay P DIR KEY"
named_words (Audit asked) = codes "audit P DIR KEY F G [LEAST..MOST] [spaced]"
named_words (Duplex proto profile dir) = codes "duplex P DIR KEY"
named_words (TwoWire proto profile dir side waits) = codes "two_wire P DIR SIDE WINDOW PAUSE KEY"
named_words (LiveSeal proto profile dir) = codes "live seal P DIR KEY JOURNAL"
named_words (LiveCheck proto profile dir) = codes "live check P DIR KEY JOURNAL"
named_words (LiveLine proto profile dir) = codes "live line P DIR KEY SENT GOT"
named_words (Trial proto profile seed count) = codes "trial P SEED COUNT"
named_words (Poll proto profile seed count) = codes "poll P SEED COUNT"
named_words Vectors = codes "vectors"
named_words Help = codes "help"
named_words Version = codes "version"

-- Holds if a line of the page, after its first one, begins with two blanks, these words and a
-- blank.
pub record HasLine (page words : List ℕ) : Type 0 where
  pub before : List ℕ
  pub after : List ℕ
  pub is : page ≡ before ++ codes "\n  " ++ words ++ codes " " ++ after

-- Holds if the page has such a line for each command.
abbrev pub NamesCommands : List ℕ → Type 0
NamesCommands page = (command : Command) → HasLine page (named_words command)

-- `help` prints the page that lists the program's words, which names each command.
abbrev pub Helps : {K S O L D : Type 0} → Sink O → Sink L → Outside K S O L D → Outside K S O L D
    → Status → Type 0
Helps o l before after status =
    NamesCommands HELP_PAGE × Prints o l HELP_PAGE before after status

-- the line with the program's name and version
abbrev pub version_line : List ℕ
version_line = codes "link_replay 0.7.0\n"

-- `version` prints that line.
abbrev pub TellsVersion : {K S O L D : Type 0} → Sink O → Sink L → Outside K S O L D
    → Outside K S O L D → Status → Type 0
TellsVersion o l before after status = Prints o l version_line before after status
