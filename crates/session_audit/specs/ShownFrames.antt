-- A box over a journal of its own, which shows the bytes of its frames.
use Rattle.std.specs.Prelude.{◌≡◌, ℕ, ◌≤◌, List, Option}
use Rattle.yasir_io.specs.Disks.{Slots}
use Rattle.yasir_ticks.specs.declared.tick.Tick.{Tick}
use Rattle.line_rules.specs.declared.line_rules.LineRules.{Ghosts as LineRules}
use Rattle.link_format.specs.Setup.{Setup}
use Rattle.link_box.specs.Walking.{Walking, other_line, frames_of}
use Rattle.session_lists.specs.FrameBox.{Numbering}
use Rattle.session_lists.specs.FrameList.{longest_frame}
use Rattle.sequence_journal.specs.declared.link.LinkId.{LinkId}
use Rattle.sequence_journal.specs.Journal.{journal_link, journal_floor, Fits}
use Rattle.session_audit.specs.BurstBytes.{BurstFor}
use Rattle.session_audit.specs.declared.shown_frames.ShownFrames.{ShownFrames}

-- Holds if the journal is that of the box's link, and the disk fits the journal.
pub record IsSteadyBox {X R K : Type 0} (link_of : X → LinkId) (told : K → Option Slots)
    (value : ShownFrames X R K) : Type 0 where
  pub of_link : journal_link value.journal ≡ link_of value.line_box
  pub fits : Fits value.journal (told value.disk)

-- what a box with this setup makes of a line
abbrev pub numbering_of : {A : Type 0} → Walking A → Setup → Numbering
numbering_of walking setup = record {
  other_line = other_line walking setup;
  frames = frames_of walking setup;
}

-- Holds if the box, with this setup, has taken this line, the bytes that are kept are those of the
-- line's last burst, and there is room for each frame among them.
pub record ShowsFrames {X R K : Type 0} (proto : LineRules R)
    (stands : X → ℕ → Setup → List Tick → Type 0) (value : ShownFrames X R K)
    (setup : Setup) (line : List Tick) : Type 0 where
  pub notes : stands value.line_box (journal_floor value.journal) setup line
  pub burst : BurstFor value.burst line
  pub room : proto.MAX ≤ longest_frame
