-- What the program says last on the log: its fault line, and after words that fit no command the
-- words that the command wants.
use Rattle.std.specs.Prelude.{ℕ, List, [], ◌∷◌, ◌++◌, codes, bytes_eq, Option, Some, None}
use Rattle.std.specs.Prelude.{if◌then◌else◌}
use Rattle.std.specs.List.{filter_map, concat}
use Rattle.link_format.specs.declared.dir.Dir.TheVariants.{Ab}
use Rattle.two_wire.specs.declared.gate.Side.TheVariants.{Asks}
use Rattle.hex.specs.Hex.{encode_lower}
use Rattle.yasir_io.specs.declared.reason.Reason.{Reason}
use Rattle.live_line.specs.declared.ways.Way.{Way}
use Rattle.live_line.specs.declared.ways.Way.TheVariants.{Outgoing, Incoming}
use Rattle.command_ends.specs.Reasons.{refused_line}
use Rattle.command_ends.specs.Statuses.{fault_line}
use Rattle.command_ends.specs.declared.link.Profile.TheVariants.{Y18}
use Rattle.command_ends.specs.declared.link.Proto.TheVariants.{Rtu}
use Rattle.command_ends.specs.declared.reasons.Reasons.{Reasons}
use Rattle.command_ends.specs.declared.status.Status.{Status}
use Rattle.command_ends.specs.declared.status.Status.TheVariants.{Usage, JournalFault, BadJournal}
use Rattle.command_ends.specs.declared.status.Status.TheVariants.{WrongLink}
use Rattle.link_replay.specs.AboutCommands.{named_words}
use Rattle.session_audit.specs.Sessions.{exact}
use Rattle.live_ways.specs.declared.line_status.Ended.{Ended}
use Rattle.link_replay.specs.declared.words.Audited.{Audited}
use Rattle.link_replay.specs.declared.words.Command.{Command}
use Rattle.link_replay.specs.declared.words.Command.TheVariants.{Init, Read, Vectors, Seal, Check}
use Rattle.link_replay.specs.declared.words.Command.TheVariants.{Replay, Trial, Poll, Space}
use Rattle.link_replay.specs.declared.words.Command.TheVariants.{Audit, Duplex, LiveSeal, LiveCheck}
use Rattle.link_replay.specs.declared.words.Command.TheVariants.{TwoWire, LiveLine, Help, Version}

-- some session
abbrev pub any_audit : Audited
any_audit = record {
  proto = Rtu;
  profile = Y18;
  dir = Ab;
  sent_floor = 0;
  got_floor = 0;
  tolerance = exact;
}

-- each first word of a command, and a command that has it: what else the command has doesn't matter
abbrev pub first_words : List (List ℕ × Command)
first_words = (codes "read", Read Rtu) ∷ (codes "init", Init Rtu Y18 Ab)
    ∷ (codes "seal", Seal Rtu Y18 Ab) ∷ (codes "check", Check Rtu Y18 Ab)
    ∷ (codes "live", LiveSeal Rtu Y18 Ab) ∷ (codes "live", LiveCheck Rtu Y18 Ab)
    ∷ (codes "live", LiveLine Rtu Y18 Ab) ∷ (codes "space", Space Rtu Y18)
    ∷ (codes "replay", Replay Rtu Y18 Ab)
    ∷ (codes "audit", Audit any_audit) ∷ (codes "duplex", Duplex Rtu Y18 Ab)
    ∷ (codes "two_wire", TwoWire Rtu Y18 Ab Asks (record { window = 0; pause = 0 }))
    ∷ (codes "trial", Trial Rtu Y18 0 0) ∷ (codes "poll", Poll Rtu Y18 0 0)
    ∷ (codes "vectors", Vectors) ∷ (codes "help", Help) ∷ (codes "version", Version) ∷ []

-- the line of a command: the words that ask for it, as the page of `help` names them
abbrev pub usage_line : Command → List ℕ
usage_line command = codes "usage: link_replay " ++ named_words command ++ codes "\n"

-- the line of a command, if this is its first word
abbrev pub line_if : List ℕ → List ℕ × Command → Option (List ℕ)
line_if word (first, command) = if bytes_eq word first then Some (usage_line command) else None

-- the line that lists the commands
abbrev pub commands_line : List ℕ
commands_line = codes "commands: read init seal check live space replay audit duplex two_wire "
    ++ codes "trial poll vectors help version\n"

-- these lines, or the list of the commands if there are none
abbrev pub or_commands : List (List ℕ) → List ℕ
or_commands [] = commands_line
or_commands (line ∷ lines) = concat (line ∷ lines)

-- for a first word the lines of the commands that have it, or the list of the commands
abbrev pub usage_lines : List ℕ → List ℕ
usage_lines word = or_commands (filter_map (line_if word) first_words)

-- what is said of words that fit no command
abbrev pub usage_text : List (List ℕ) → List ℕ
usage_text [] = codes "fault: usage\n" ++ commands_line
usage_text (word ∷ words) = codes "fault: usage\n" ++ usage_lines word

-- what a fault line says of a journal behind its first words, if the command has two
abbrev pub journal_name : Option Way → List ℕ
journal_name None = []
journal_name (Some Outgoing) = codes " SENT"
journal_name (Some Incoming) = codes " GOT"

-- the line of a call on a journal that failed, with what is said of the journal, by the reason that its
-- disk tells
abbrev pub named_fault_line : List ℕ → Option Reason → List ℕ
named_fault_line name (Some why) =
    refused_line (codes "fault: journal" ++ name) (codes "held by another run") why
named_fault_line name None = codes "fault: journal" ++ name ++ codes "\n"

-- The fault line of a status, with what is said of the journal that it is about.
abbrev pub line_with : List ℕ → Reasons → Status → List ℕ
line_with name told JournalFault = named_fault_line name told.journal
line_with name told (BadJournal a b) = codes "fault: bad journal" ++ name
    ++ (codes " " ++ encode_lower a ++ codes " " ++ encode_lower b ++ codes "\n")
line_with name told (WrongLink slot) =
    codes "fault: wrong link" ++ name ++ (codes " " ++ encode_lower slot ++ codes "\n")
line_with name told status = fault_line told status

-- what a run with these words and this status writes last to the log, about a journal of this name
abbrev pub text_with : List (List ℕ) → List ℕ → Reasons → Status → List ℕ
text_with words name told Usage = usage_text words
text_with words name told status = line_with name told status

-- What a run with these words writes last to the log, by the reasons that its objects tell.
abbrev pub fault_text : List (List ℕ) → Reasons → Ended → List ℕ
fault_text words told ended = text_with words (journal_name ended.way) told ended.status
