-- What the receiver's calls for a run of ticks return.
use Rattle.std.specs.Prelude.{◌≡◌, ◌⊎◌, ℕ, ◌<◌, ◌≤◌, true, List, [], ◌∷◌, ◌++◌, length, map}
use Rattle.std.specs.Prelude.{take, slice_index_or}
use Rattle.yasir_ticks.specs.declared.tick.Tick.{Tick}
use Rattle.yasir_ticks.specs.declared.tick.Tick.TheVariants.{Silent, Byte}
use Rattle.line_rules.specs.Rules.{Rules}
use Rattle.line_rules.specs.declared.line_rules.LineRules.{Ghosts as LineRules}
use Rattle.frame_ending.specs.declared.cut.Cut.TheVariants.{Live, Extra}
use Rattle.frame_ending.specs.Cuts.{cut_of}
use Rattle.frame_ending.specs.Runs.{AnswersRun}
use Rattle.link_format.specs.declared.tag.Mac.{Ghosts as Mac}
use Rattle.link_format.specs.Profile.{profile_of}
use Rattle.link_format.specs.Setup.{Setup}
use Rattle.sequence_journal.specs.declared.numbers.TheConstants.{LIMIT}
use Rattle.link_box.specs.Checking.{checker, at_floor, brief_note}
use Rattle.check_receiver.specs.Stands.{CheckerStandsAt}
use Rattle.check_receiver.specs.declared.checker.Checker.{Checker}

-- Holds if the receiver, after `line`, has taken `run` as well: it represents both, the device is
-- sent the ticks `answer` during the run, and no note falls into them.
pub record CheckerHasTakenRun {R M : Type 0} (proto : LineRules R) (macs : Mac M) {B D : ℕ}
    (value : Checker R M B D) (last : ℕ) (setup : Setup) (line run answer : List Tick) : Type 0
  where
    pub stands : CheckerStandsAt proto macs value last setup (line ++ run)
    pub answers : AnswersRun (checker (profile_of proto macs B LIMIT setup) proto.rules) brief_note
        (at_floor setup.floor) line run answer

-- Holds if the tick, after `line`, begins no burst: it is silent, or a byte of the burst that runs.
abbrev pub BeginsNone : Rules → List Tick → Tick → Type 0
BeginsNone rules line Silent = Unit {0}
BeginsNone rules line (Byte b) =
    (cut_of rules line (Byte b) ≡ Live b) ⊎ (cut_of rules line (Byte b) ≡ Extra b)

-- Holds if none of the ticks that come after `line` begins a burst.
abbrev pub BeginNone : Rules → List Tick → List Tick → Type 0
BeginNone rules line [] = Unit {0}
BeginNone rules line (t ∷ run) = BeginsNone rules line t × BeginNone rules (line ++ t ∷ []) run

-- Holds if `x` are the bytes at the front of the ticks, up to the first silent one, or the first
-- `most` of them.
pub record CheckerIsFront (ticks : List Tick) (most : ℕ) (x : List ℕ) : Type 0 where
  pub within : length x ≤ most
  pub bytes : map Byte x ≡ take (length x) ticks
  pub all : length x < most → slice_index_or ticks (length x) Silent ≡ Silent

-- Holds if, after the bytes `x` and any front of the bytes `more`, the header is good if it is
-- whole.
abbrev pub KeepsHeader : Rules → List ℕ → List ℕ → Type 0
KeepsHeader rules x more = (n : ℕ) → n ≤ length more
    → rules.header_len ≤ length (x ++ take n more)
    → rules.is_good_header (take rules.header_len (x ++ take n more)) ≡ true
