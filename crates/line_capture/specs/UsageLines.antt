-- What the program says last on the log: its fault line, and after words that fit no command the
-- words that the command wants.
use Rattle.std.specs.Prelude.{ℕ, List, [], ◌∷◌, ◌++◌, codes, bytes_eq, Option, Some, None}
use Rattle.std.specs.Prelude.{if◌then◌else◌}
use Rattle.std.specs.List.{filter_map, concat}
use Rattle.yasir_io.specs.declared.reason.Reason.{Reason}
use Rattle.command_ends.specs.declared.reasons.Reasons.{Reasons}
use Rattle.command_ends.specs.declared.status.Status.TheVariants.{Usage}
use Rattle.line_capture.specs.Outcomes.{capture_fault_line}
use Rattle.line_capture.specs.declared.outcome.Outcome.{Outcome}
use Rattle.line_capture.specs.declared.outcome.Outcome.TheVariants.{Ended}

-- the reasons of a run that has neither a key nor a journal, by the reason that its input tells
abbrev pub of_input : Option Reason → Reasons
of_input reason = record { key = None; input = reason; journal = None }

-- each first word of a command, and the words that the command wants
abbrev pub capture_usages : List (List ℕ × List ℕ)
capture_usages = (codes "take", codes "take FORM RATE WAY [frames]")
    ∷ (codes "give", codes "give FORM RATE") ∷ (codes "help", codes "help")
    ∷ (codes "version", codes "version") ∷ []

-- the line of a command, if this is its first word
abbrev pub capture_line_if : List ℕ → List ℕ × List ℕ → Option (List ℕ)
capture_line_if word (first, wanted) =
    if bytes_eq word first then Some (codes "usage: line_capture " ++ wanted ++ codes "\n")
    else None

-- the line that lists the commands
abbrev pub capture_commands : List ℕ
capture_commands = codes "commands: take give help version\n"

-- these lines, or the list of the commands if there are none
abbrev pub or_capture_commands : List (List ℕ) → List ℕ
or_capture_commands [] = capture_commands
or_capture_commands (line ∷ lines) = concat (line ∷ lines)

-- for a first word the lines of the commands that have it, or the list of the commands
abbrev pub capture_usage_lines : List ℕ → List ℕ
capture_usage_lines word = or_capture_commands (filter_map (capture_line_if word) capture_usages)

-- what is said of words that fit no command
abbrev pub capture_usage_text : List (List ℕ) → List ℕ
capture_usage_text [] = codes "fault: usage\n" ++ capture_commands
capture_usage_text (word ∷ words) = codes "fault: usage\n" ++ capture_usage_lines word

-- What a run with these words writes last to the log, by the reason that its input tells.
abbrev pub capture_fault_text : List (List ℕ) → Reasons → Outcome → List ℕ
capture_fault_text words told (Ended Usage) = capture_usage_text words
capture_fault_text words told outcome = capture_fault_line told outcome
