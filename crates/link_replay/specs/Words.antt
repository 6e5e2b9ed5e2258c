-- The words of the program's commands.
use Rattle.std.specs.Prelude.{◌≡◌, ◌≢◌, ◌⊎◌, ℕ, ◌+◌, ◌^◌, ◌<◌, ◌≤◌, decimal, List, [], ◌∷◌, ◌++◌}
use Rattle.std.specs.Prelude.{Bool, true, false, Option, Some, None, codes, slice_get}
use Rattle.link_format.specs.declared.dir.Dir.{Dir}
use Rattle.sequence_journal.specs.declared.numbers.TheConstants.{LIMIT}
use Rattle.command_ends.specs.declared.link.Proto.{Proto}
use Rattle.command_ends.specs.declared.link.Profile.{Profile}
use Rattle.command_ends.specs.Programs.{AsksFor}
use Rattle.command_ends.specs.Words.{proto_word, link_word, dir_word}
use Rattle.command_ends.specs.Links.{delay_of}
use Rattle.session_audit.specs.declared.session.Tolerance.{Tolerance}
use Rattle.two_wire.specs.declared.gate.Side.{Side}
use Rattle.two_wire.specs.declared.gate.Side.TheVariants as side
use Rattle.two_wire.specs.declared.gate.Waits.{Waits}
use Rattle.link_replay.specs.declared.words.Audited.{Audited}
use Rattle.link_replay.specs.declared.words.Command.{Command}
use Rattle.link_replay.specs.declared.words.Command.TheVariants.{Init, Read, Vectors, Seal, Check}
use Rattle.link_replay.specs.declared.words.Command.TheVariants.{Replay, Trial, Poll, Space}
use Rattle.link_replay.specs.declared.words.Command.TheVariants.{Audit, Duplex, LiveSeal, LiveCheck}
use Rattle.link_replay.specs.declared.words.Command.TheVariants.{TwoWire, LiveLine, Help, Version}
use Rattle.link_replay.specs.declared.words.FirstSix.{FirstSix}

-- Holds if the words ask for a box: its name, a protocol and a profile, a direction, and the paths
-- of its key and its journal, which aren't empty.
abbrev pub AskForBox : List ℕ → Proto → Profile → Dir → List (List ℕ) → Type 0
AskForBox name proto profile dir words =
    (key : List ℕ) × (path : List ℕ) × (key ≢ []) × (path ≢ [])
    × (words ≡ name ∷ link_word proto profile ∷ dir_word dir ∷ key ∷ path ∷ [])

-- Holds if the words ask for a box on a live line: `live`, its name, a protocol and a profile, a
-- direction, and the paths of its key and its journal, which aren't empty.
abbrev pub AskForLiveBox : List ℕ → Proto → Profile → Dir → List (List ℕ) → Type 0
AskForLiveBox name proto profile dir words =
    (key : List ℕ) × (path : List ℕ) × (key ≢ []) × (path ≢ [])
    × (words ≡ codes "live" ∷ name ∷ link_word proto profile ∷ dir_word dir ∷ key ∷ path ∷ [])

-- Holds if the words ask for both ways of a live line: a protocol and a profile, a direction, and the
-- paths of the key, of the journal of the numbers sent and of that of the numbers that came, which
-- aren't empty.
abbrev pub AskForLiveLine : Proto → Profile → Dir → List (List ℕ) → Type 0
AskForLiveLine proto profile dir words =
    (key : List ℕ) × (sent : List ℕ) × (got : List ℕ) × (key ≢ []) × (sent ≢ []) × (got ≢ [])
    × (words ≡ codes "live" ∷ codes "line" ∷ link_word proto profile ∷ dir_word dir ∷ key ∷ sent
    ∷ got ∷ [])

-- the word of a side
abbrev pub side_word : Side → List ℕ
side_word side.Asks = codes "asks"
side_word side.Answers = codes "answers"

-- the most ticks that a two-wire box may wait, or that a frame may be late in an audit
abbrev pub most_ticks : ℕ
most_ticks = 1000000

-- the least PAUSE of a two-wire box, which is the silence that ends a frame
abbrev pub least_pause : ℕ
least_pause = 4

-- The least WINDOW of a two-wire box. A box that asks waits for an answer at least as long as behind
-- one. A box that answers needs time for a packet on the link and for what the receiver holds back.
abbrev pub least_window : Profile → Side → ℕ → ℕ
least_window profile side.Asks pause = pause
least_window profile side.Answers pause = delay_of profile + 5

-- Holds if a two-wire box of this profile may wait so.
pub record MayWait (profile : Profile) (side : Side) (waits : Waits) : Type 0 where
  pub pause_least : least_pause ≤ waits.pause
  pub pause_most : waits.pause ≤ most_ticks
  pub window_least : least_window profile side waits.pause ≤ waits.window
  pub window_most : waits.window ≤ most_ticks

-- Holds if a frame may be late so: not fewer ticks at most than at least, and at most 1,000,000.
pub record MayBeLate (tolerance : Tolerance) : Type 0 where
  pub ordered : tolerance.least ≤ tolerance.most
  pub few : tolerance.most ≤ most_ticks

-- the word of how many ticks a frame may be late: the least and the most, with two dots between
abbrev pub range_word : Tolerance → List ℕ
range_word tolerance = decimal tolerance.least ++ codes ".." ++ decimal tolerance.most

-- the word for a line behind a spacer, if it is one
abbrev pub spaced_words : Bool → List (List ℕ)
spaced_words true = codes "spaced" ∷ []
spaced_words false = []

-- Holds if these words, the last ones of an audit, say so: how many ticks a frame may be late, which
-- needn't be said if that is none, and then whether the line is behind a spacer.
abbrev pub AreLateWords : Tolerance → List (List ℕ) → Type 0
AreLateWords tolerance words = (words ≡ range_word tolerance ∷ spaced_words tolerance.spaced)
    ⊎ ((tolerance.least ≡ 0) × (tolerance.most ≡ 0) × (words ≡ spaced_words tolerance.spaced))

-- Holds if an audit may be asked for so: each floor is 0 or the number of a frame, and a frame may be
-- late so.
pub record MayAudit (asked : Audited) : Type 0 where
  pub sent : asked.sent_floor ≤ LIMIT
  pub got : asked.got_floor ≤ LIMIT
  pub late : MayBeLate asked.tolerance

-- the first six words, and those that follow them
abbrev pub six_with : FirstSix → List (List ℕ) → List (List ℕ)
six_with words more = words.first.now ∷ words.second.now ∷ words.third.now ∷ words.fourth.now
    ∷ words.fifth.now ∷ words.sixth.now ∷ more

-- Holds if the words ask for the command.
abbrev pub IsCommand : List (List ℕ) → Command → Type 0
IsCommand words (Init proto profile dir) = (path : List ℕ) × (path ≢ [])
    × (words ≡ codes "init" ∷ link_word proto profile ∷ dir_word dir ∷ path ∷ [])
IsCommand words (Read proto) = words ≡ codes "read" ∷ proto_word proto ∷ []
IsCommand words Vectors = words ≡ codes "vectors" ∷ []
IsCommand words (Seal proto profile dir) = AskForBox (codes "seal") proto profile dir words
IsCommand words (Check proto profile dir) = AskForBox (codes "check") proto profile dir words
IsCommand words (Replay proto profile dir) = (key : List ℕ) × (key ≢ [])
    × (words ≡ codes "replay" ∷ link_word proto profile ∷ dir_word dir ∷ key ∷ [])
IsCommand words (Trial proto profile seed count) = (seed < 2 ^ 32) × (1 ≤ count) × (count ≤ 10000)
    × (words ≡ codes "trial" ∷ link_word proto profile ∷ decimal seed ∷ decimal count ∷ [])
IsCommand words (Poll proto profile seed count) = (seed < 2 ^ 32) × (1 ≤ count) × (count ≤ 10000)
    × (words ≡ codes "poll" ∷ link_word proto profile ∷ decimal seed ∷ decimal count ∷ [])
IsCommand words (Space proto profile) = words ≡ codes "space" ∷ link_word proto profile ∷ []
IsCommand words (Audit asked) = (key : List ℕ) × (more : List (List ℕ)) × (key ≢ [])
    × MayAudit asked × AreLateWords asked.tolerance more
    × (words ≡ codes "audit" ∷ link_word asked.proto asked.profile ∷ dir_word asked.dir ∷ key
    ∷ decimal asked.sent_floor ∷ decimal asked.got_floor ∷ more)
IsCommand words Help = (words ≡ codes "help" ∷ []) ⊎ (words ≡ codes "--help" ∷ [])
    ⊎ (words ≡ codes "-h" ∷ [])
IsCommand words Version = (words ≡ codes "version" ∷ []) ⊎ (words ≡ codes "--version" ∷ [])
IsCommand words (Duplex proto profile dir) = (key : List ℕ) × (key ≢ [])
    × (words ≡ codes "duplex" ∷ link_word proto profile ∷ dir_word dir ∷ key ∷ [])
IsCommand words (TwoWire proto profile dir side waits) =
    (key : List ℕ) × (key ≢ []) × MayWait profile side waits
    × (words ≡ codes "two_wire" ∷ link_word proto profile ∷ dir_word dir ∷ side_word side
    ∷ decimal waits.window ∷ decimal waits.pause ∷ key ∷ [])
IsCommand words (LiveSeal proto profile dir) =
    AskForLiveBox (codes "seal") proto profile dir words
IsCommand words (LiveCheck proto profile dir) =
    AskForLiveBox (codes "check") proto profile dir words
IsCommand words (LiveLine proto profile dir) = AskForLiveLine proto profile dir words

-- Holds if the words ask for a new journal, for whatever link.
abbrev pub AskForJournal : List (List ℕ) → Type 0
AskForJournal words = (proto : Proto) × (profile : Profile) × (dir : Dir)
    × IsCommand words (Init proto profile dir)

-- Holds if this is what the words ask for: a command, or `None` if they fit no command.
abbrev pub Asks : List (List ℕ) → Option Command → Type 0
Asks words asked = AsksFor IsCommand words asked

-- Holds if a command isn't one of a live line.
abbrev pub IsRecorded : Command → Type 0
IsRecorded (LiveSeal proto profile dir) = ⊥
IsRecorded (LiveCheck proto profile dir) = ⊥
IsRecorded (LiveLine proto profile dir) = ⊥
IsRecorded command = Unit {0}

-- Holds if a command has one journal or none.
abbrev pub IsOverOne : Option Command → Type 0
IsOverOne (Some (LiveLine proto profile dir)) = ⊥
IsOverOne asked = Unit {0}

-- Holds if a command takes memory.
abbrev pub TakesMemory : Command → Type 0
TakesMemory (Replay proto profile dir) = Unit {0}
TakesMemory (Poll proto profile seed count) = Unit {0}
TakesMemory (Space proto profile) = Unit {0}
TakesMemory (Audit asked) = Unit {0}
TakesMemory (Duplex proto profile dir) = Unit {0}
TakesMemory (TwoWire proto profile dir side waits) = Unit {0}
TakesMemory command = ⊥

-- Holds if the floors of an audit that is asked for are 0 or numbers of frames.
abbrev pub AreFloors : Option Command → Type 0
AreFloors (Some (Audit asked)) = (asked.sent_floor ≤ LIMIT) × (asked.got_floor ≤ LIMIT)
AreFloors asked = Unit {0}

-- the place, counted from 0, of the word that is the path of the key's file, if the command has one
abbrev pub key_place : Command → Option ℕ
key_place (Init proto profile dir) = None
key_place (Read proto) = None
key_place Vectors = None
key_place (Seal proto profile dir) = Some 3
key_place (Check proto profile dir) = Some 3
key_place (Replay proto profile dir) = Some 3
key_place (Trial proto profile seed count) = None
key_place (Poll proto profile seed count) = None
key_place (Space proto profile) = None
key_place (Audit asked) = Some 3
key_place (Duplex proto profile dir) = Some 3
key_place (TwoWire proto profile dir side waits) = Some 6
key_place (LiveSeal proto profile dir) = Some 4
key_place (LiveCheck proto profile dir) = Some 4
key_place (LiveLine proto profile dir) = Some 4
key_place Help = None
key_place Version = None

-- the place, counted from 0, of the word that is the path of the journal's file, if the command has
-- one
abbrev pub journal_place : Command → Option ℕ
journal_place (Init proto profile dir) = Some 3
journal_place (Read proto) = None
journal_place Vectors = None
journal_place (Seal proto profile dir) = Some 4
journal_place (Check proto profile dir) = Some 4
journal_place (Replay proto profile dir) = None
journal_place (Trial proto profile seed count) = None
journal_place (Poll proto profile seed count) = None
journal_place (Space proto profile) = None
journal_place (Audit asked) = None
journal_place (Duplex proto profile dir) = None
journal_place (TwoWire proto profile dir side waits) = None
journal_place (LiveSeal proto profile dir) = Some 5
journal_place (LiveCheck proto profile dir) = Some 5
journal_place (LiveLine proto profile dir) = Some 5
journal_place Help = None
journal_place Version = None

-- The place, counted from 0, of the word that is the path of the second journal's file, if the command
-- has one: that of the numbers that came, of a live line of both ways.
abbrev pub second_place : Command → Option ℕ
second_place (LiveLine proto profile dir) = Some 6
second_place command = None

-- the word at a place, if there is one
abbrev pub word_in : List (List ℕ) → Option ℕ → Option (List ℕ)
word_in words None = None
word_in words (Some place) = slice_get words place
