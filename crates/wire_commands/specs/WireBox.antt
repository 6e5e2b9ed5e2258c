-- A box of one direction over a new journal, which may be ahead of its wires.
use Rattle.std.specs.Prelude.{◌≡◌, ◌≤◌, ◌<◌, ◌+◌, ◌-◌, ℕ, List, [], ◌∷◌, ◌++◌, length, take, drop}
use Rattle.std.specs.Prelude.{Option, Some}
use Rattle.yasir_io.specs.Steady.{steady_slots}
use Rattle.yasir_ticks.specs.declared.tick.Tick.{Tick}
use Rattle.yasir_ticks.specs.declared.tick.Tick.TheVariants.{Silent}
use Rattle.frame_ending.specs.Answered.{answered}
use Rattle.frame_ending.specs.Answers.{told_notes, note_in}
use Rattle.frame_ending.specs.Walk.{Noted}
use Rattle.link_format.specs.Setup.{Setup}
use Rattle.link_box.specs.Walking.{full_notes, other_line}
use Rattle.link_box.specs.declared.box_trait.LinkBox.{Ghosts as LinkBox}
use Rattle.sequence_journal.specs.Journal.{journal_link, journal_floor, Fits}
use Rattle.wire_commands.specs.Hearing.{SurelyHears}
use Rattle.wire_commands.specs.declared.wire_box.WireBox.{WireBox}

-- the ticks that leave behind the one that leaves now
abbrev pub next_of : {B : Type 0} → WireBox B → List Tick
next_of value = answered value.next (drop value.at value.bytes.items)

-- the ticks that leave from now on
abbrev pub leaving : {B : Type 0} → WireBox B → List Tick
leaving value = value.first ∷ next_of value

-- how many of n ticks are silent, if these bytes or else n silent ticks follow
abbrev pub silent_in : ℕ → List ℕ → ℕ
silent_in n [] = n
silent_in n (b ∷ x) = 0

-- how many silent ticks leave behind the one that leaves now, none if bytes do
abbrev pub silent_behind : {B : Type 0} → WireBox B → ℕ
silent_behind value = silent_in value.next (drop value.at value.bytes.items)

module _ {B N : Type 0} (b : LinkBox B N) where
  -- Holds if the journal is that of the box's link, the disk is the journal's, and few ticks leave
  -- behind the one that leaves now.
  pub record IsServed (value : WireBox B) : Type 0 where
    pub of_link : journal_link value.journal ≡ b.link_of value.line_box
    pub fits : Fits value.journal (Some (steady_slots value.disk))
    pub few : length (next_of value) ≤ 256
    pub counted : length (next_of value) ≤ b.taken value.line_box
    pub setup : Setup
    pub line : List Tick
    pub stands : b.stands value.line_box (journal_floor value.journal) setup line

  -- how many ticks have been on the wires of a box
  abbrev pub ticks_gone : WireBox B → ℕ
  ticks_gone value = b.taken value.line_box - length (next_of value)

  -- Holds if the box began with this setup and has taken this line, and of what it makes of it,
  -- one tick later, these ticks have left.
  pub record HasLeft (value : WireBox B) (setup : Setup) (line left : List Tick) : Type 0 where
    pub stands : b.stands value.line_box (journal_floor value.journal) setup line
    pub leaves : Silent ∷ other_line b.walking setup line ≡ left ++ leaving value

  -- the notes of a line as the box tells them
  abbrev pub notes_told : Setup → List Tick → List (Noted N)
  notes_told setup line = told_notes b.walking.brief (full_notes b.walking setup line)

  -- Holds if the box has taken the first of these ticks, after whatever line it had taken when
  -- nothing followed the tick that leaves now. The note falls into the first tick.
  pub record TakesFirst (old new : WireBox B) (run : List Tick) (note : Option N) : Type 0 where
    pub served : IsServed new
    pub gone : ticks_gone new ≡ ticks_gone old
    pub some : 0 < length (next_of new)
    pub within : length (next_of new) ≤ length run
    pub now_is : new.first ≡ old.first
    pub left : (setup : Setup) (line left : List Tick) → HasLeft old setup line left
        → HasLeft new setup (line ++ take (length (next_of new)) run) left
    pub notes : (setup : Setup) (line left : List Tick) → HasLeft old setup line left
        → notes_told setup (line ++ take (length (next_of new)) run)
        ≡ notes_told setup line ++ note_in (length line) note

  -- Holds if, of what a box surely hears, more is taken, `more` ticks, and this is the note of the
  -- first tick of `more`.
  pub record HasCaughtUp (new : WireBox B) (setup : Setup) (gone ahead left known wires : List Tick)
      (note : Option N) : Type 0 where
    pub more : List Tick
    pub left_is : HasLeft new setup (gone ++ (ahead ++ more)) left
    pub heard : SurelyHears known wires (ahead ++ more)
    pub noted : notes_told setup (gone ++ (ahead ++ more))
        ≡ notes_told setup (gone ++ ahead) ++ note_in (length gone) note

  -- Holds if the box is ahead of its wires now, whatever had been on them, and it has taken only
  -- what a port surely hears that drives wires with the ticks `known` first, `most` ticks at most.
  pub record CatchesUp (old new : WireBox B) (known wires : List Tick) (most : ℕ)
      (note : Option N) : Type 0 where
    pub served : IsServed new
    pub gone : ticks_gone new ≡ ticks_gone old
    pub some : 0 < length (next_of new)
    pub within : length (next_of new) ≤ most
    pub now_is : new.first ≡ old.first
    pub more : List Tick
    pub leaving_is : leaving new ≡ leaving old ++ more
    pub silent_is : silent_behind old ≤ silent_behind new
    pub caught : (setup : Setup) (gone ahead left : List Tick)
        → HasLeft old setup (gone ++ ahead) left → length left ≡ length gone
        → SurelyHears known wires ahead → HasCaughtUp new setup gone ahead left known wires note

-- Holds if this many ticks have left the box, and nothing else has changed.
pub record Leaves {B : Type 0} (old new : WireBox B) (ticks : ℕ) : Type 0 where
  pub box_is : new.line_box ≡ old.line_box
  pub journal_is : new.journal ≡ old.journal
  pub disk_is : new.disk ≡ old.disk
  pub leaving_is : leaving new ≡ drop ticks (leaving old)
  pub silent_is : 0 < silent_behind old → ticks ≤ silent_behind old
      → (new.first ≡ Silent) × (silent_behind new + ticks ≡ silent_behind old)
