-- Steps of both directions, one after the other.
use Rattle.std.specs.Prelude.{◌≡◌, ℕ, ◌+◌, List, [], ◌∷◌, ◌++◌, length, map, Option}
use Rattle.yasir_ticks.specs.declared.tick.Tick.{Tick}
use Rattle.yasir_io.specs.declared.disk.SlotDisk.{Ghosts as SlotDisk}
use Rattle.frame_ending.specs.Answers.{told_notes, note_in}
use Rattle.frame_ending.specs.Walk.{Noted}
use Rattle.link_format.specs.Setup.{Setup}
use Rattle.sequence_journal.specs.Journal.{journal_link, journal_floor, IsCrashSafe}
use Rattle.link_box.specs.declared.box_trait.LinkBox.{Ghosts as LinkBox}
use Rattle.link_box.specs.Walking.{full_notes, other_line}
use Rattle.duplex_box.specs.Pairs.{OneWay, BothWays, PairGoesOn}
use Rattle.duplex_box.specs.declared.pair.PairStep.{PairStep}

-- A step that didn't fail, with what it was given and what it returned.
pub record Turn (A B : Type 0) : Type 0 where
  pub from_device : Tick
  pub from_link : Tick
  pub step : PairStep A B

module _ {A B : Type 0} where
  -- the ticks that steps were given
  abbrev pub ticks_from_device : List (Turn A B) → List Tick
  ticks_from_device turns = map (λ turn. turn.from_device) turns

  abbrev pub ticks_from_link : List (Turn A B) → List Tick
  ticks_from_link turns = map (λ turn. turn.from_link) turns

  -- the ticks that steps returned
  abbrev pub ticks_to_link : List (Turn A B) → List Tick
  ticks_to_link turns = map (λ turn. turn.step.link) turns

  abbrev pub ticks_to_device : List (Turn A B) → List Tick
  ticks_to_device turns = map (λ turn. turn.step.device) turns

  -- the notes of the ticks of steps
  abbrev pub notes_sealed : List (Turn A B) → List (Option A)
  notes_sealed turns = map (λ turn. turn.step.sealed) turns

  abbrev pub notes_checked : List (Turn A B) → List (Option B)
  notes_checked turns = map (λ turn. turn.step.checked) turns

module _ {S C A B X Y : Type 0} (sends : LinkBox S A) (gets : LinkBox C B) (d : SlotDisk X)
    (e : SlotDisk Y) where
  -- Holds if these steps, one after the other, lead from `old` to `new`.
  abbrev pub Turns : BothWays S C X Y → List (Turn A B) → BothWays S C X Y → Type 0
  Turns old [] new = old ≡ new
  Turns old (turn ∷ turns) new = (next : BothWays S C X Y)
      × PairGoesOn sends gets d e turn.from_device turn.from_link old next turn.step
      × Turns next turns new

-- the notes of these ticks, the first of which is tick m
abbrev pub notes_from : {A : Type 0} → ℕ → List (Option A) → List (Noted A)
notes_from m [] = []
notes_from m (note ∷ notes) = note_in m note ++ notes_from (m + 1) notes

-- Holds if, in one direction, the box had taken a line, and has then taken these ticks. It has
-- returned the other line and the notes of its definition, as if the other direction weren't there.
-- A crash leaves no floor below the journal's, if none did before.
pub record MakesLine {S A X : Type 0} (boxed : LinkBox S A) (d : SlotDisk X) (old new : OneWay S X)
    (setup : Setup) (line ticks answers : List Tick) (notes : List (Option A)) : Type 0 where
  pub stands : boxed.stands new.line_box (journal_floor new.journal) setup (line ++ ticks)
  pub answers_are : other_line boxed.walking setup (line ++ ticks)
      ≡ other_line boxed.walking setup line ++ answers
  pub notes_are : told_notes boxed.walking.brief (full_notes boxed.walking setup (line ++ ticks))
      ≡ told_notes boxed.walking.brief (full_notes boxed.walking setup line)
      ++ notes_from (length line) notes
  pub link : journal_link new.journal ≡ journal_link old.journal
  pub crash_safe : IsCrashSafe old.journal (d.told old.disk) (d.may_leave old.disk)
      → IsCrashSafe new.journal (d.told new.disk) (d.may_leave new.disk)
