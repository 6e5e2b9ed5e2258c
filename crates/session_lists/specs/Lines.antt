-- How what is kept of a line grows as a box or a device takes more ticks.
use Rattle.std.specs.Prelude.{◌≡◌, ℕ, ◌+◌, ◌≤◌, Bool, List, ◌++◌, length}
use Rattle.yasir_ticks.specs.declared.tick.Tick.{Tick}
use Rattle.link_format.specs.Setup.{Setup}
use Rattle.device_model.specs.Frames.{FrameRead}
use Rattle.device_model.specs.declared.device.Device.{Ghosts as Device}
use Rattle.session_lists.specs.Comparison.{Compares}
use Rattle.session_lists.specs.Expected.{Expects}
use Rattle.session_lists.specs.FrameList.{list_len}
use Rattle.session_lists.specs.Guarding.{Guards, guard_taken}
use Rattle.session_lists.specs.ReplayLists.{KeepsFrames}
use Rattle.session_lists.specs.declared.comparison.Comparison.{Comparison}
use Rattle.session_lists.specs.declared.expected.Expected.{Expected}
use Rattle.session_lists.specs.declared.frame_box.FrameBox.{Ghosts as FrameBox}
use Rattle.session_lists.specs.declared.guard.Guard.{Ghosts as Guard}
use Rattle.session_lists.specs.declared.kept.Kept.{Kept}

-- how a box is set up, and whether a spacer stands behind it
pub record BoxSetup : Type 0 where
  pub setup : Setup
  pub spaced : Bool

-- how many frames are kept
abbrev pub kept_len : {G : Type 0} → Kept G → ℕ
kept_len kept = list_len kept.frames

module _ {B G : Type 0} (box : FrameBox B) (guard : Guard G) where
  -- The box has taken this line, its frames are kept, and the guard behind it, if there is one, has
  -- heard what it sends.
  pub record KeepsLine (value : B) (kept : Kept G) (origin : BoxSetup) (line : List Tick) : Type 0
    where
      pub frames : KeepsFrames box value kept.frames origin.setup line
      pub heard : Guards guard origin.spaced kept.guard
          ((box.numbering origin.setup).other_line line)

  -- The box may take a tick, and the guard behind it has heard at most as many ticks as it has taken.
  pub record IsOpenBox (value : B) (kept : Kept G) : Type 0 where
    pub able : box.able value
    pub heard : guard_taken guard kept.guard ≤ box.taken value

-- Holds if the ticks `more` were taken and counted, at most as many frames as ticks were added, and
-- whatever line the value and what is kept represented before, they now represent that line
-- followed by these ticks.
pub record ListsGoOn {O S L : Type 0} (taken : S → ℕ) (size : L → ℕ)
    (keeps : O → S → L → List Tick → Type 0) (old new : S) (before after : L)
    (more : List Tick) : Type 0 where
  pub counted : taken new ≡ taken old + length more
  pub few : size after ≤ size before + length more
  pub kept : (origin : O) (line : List Tick) → keeps origin old before line
      → keeps origin new after (line ++ more)

-- Holds if a box, whatever its setup, takes these ticks too, its frames are kept, and the guard
-- behind it hears what it sends.
abbrev pub TakesOn : {B G : Type 0} → FrameBox B → Guard G → B → B → Kept G → Kept G → List Tick
    → Type 0
TakesOn {B} {G} box guard = ListsGoOn box.taken (λ (kept : Kept G). kept_len kept)
    (λ (origin : BoxSetup) (value : B) kept line. KeepsLine box guard value kept origin line)

-- Holds if a device hears these ticks too, and what it reads is compared with the frames that
-- should be read.
abbrev pub HearsOn : {V : Type 0} → Device V → Expected → V → V → Comparison → Comparison
    → List Tick → Type 0
HearsOn device expected = ListsGoOn device.taken (λ (comparison : Comparison). comparison.read)
    (λ (frames : List FrameRead) value comparison line. Expects expected frames
    → Compares device value comparison expected.late frames line)
