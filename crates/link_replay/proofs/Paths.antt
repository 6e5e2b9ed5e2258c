-- Which of the words are the paths of files, and whether a journal's file is made.
use Rattle.link_replay.{proofs.Asking.asks-one, specs.OverFiles.path_in}
use Rattle.link_replay.specs.{OverFiles.journal_kind, Words.IsCommand, Words.AskForJournal}
use Rattle.link_replay.specs.{Words.Asks, Words.word_in, declared.words.Command.Command}
use Rattle.link_replay.specs.declared.words.Command.TheVariants.{Init}
use Rattle.std.proofs.Common.{◌≡◌, ℕ, List, Option, Some, None, refl, sym, ap}
use Rattle.yasir_io.specs.declared.files.SlotFile.TheVariants.{Standing, New}

-- If the place that was found for a path is that of the command, the word there is the path.
pub word_in-path : (place : Command → Option ℕ) (words : List (List ℕ)) (asked : Option Command)
    (found : Option ℕ) → ((command : Command) → IsCommand words command → found ≡ place command)
    → (Asks words None → found ≡ None) → Asks words asked
    → word_in words found ≡ path_in place words asked
word_in-path place words None found right none asks = ap (word_in words) (none asks)
word_in-path place words (Some command) found right none asks =
    ap (word_in words) (right command asks)

-- If the words ask for a new journal, the journal's file is expected to be new.
pub kind-made : (words : List (List ℕ)) (asked : Option Command) → AskForJournal words
    → Asks words asked → New ≡ journal_kind asked
kind-made words asked makes asks =
    sym (ap journal_kind
    (asks-one words asked (Some (Init makes.0 makes.1 makes.2)) asks makes.3))

-- If the words don't ask for a new journal, the journal's file is expected to be there already.
pub kind-kept : (words : List (List ℕ)) (asked : Option Command) → (AskForJournal words → ⊥)
    → Asks words asked → Standing ≡ journal_kind asked
kind-kept words (Some (Init proto profile dir)) other asks =
    absurd (other (proto, profile, dir, asks))
kind-kept words asked other asks = refl
