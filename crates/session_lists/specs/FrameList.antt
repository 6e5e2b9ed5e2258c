-- A list of frames in memory.
use Rattle.std.specs.Prelude.{◌≡◌, ℕ, ◌+◌, ◌-◌, ◌≤◌, List, [], ◌∷◌, length, take, drop}
use Rattle.session_lists.specs.declared.frame_list.Entry.{Entry}
use Rattle.session_lists.specs.declared.frame_list.FrameList.{FrameList}

-- a frame, and what is kept of it besides its bytes
pub record KeptFrames (K : Type 0) : Type 0 where
  pub head : K
  pub frame : List ℕ

-- The frames of these entries. Their bytes follow one another in `bytes`, from the place `start`
-- on.
abbrev pub frames_from : {K : Type 0} → ℕ → List (Entry K) → List ℕ → List (KeptFrames K)
frames_from start [] bytes = []
frames_from start (e ∷ entries) bytes =
    record { head = e.head; frame = take (e.end - start) (drop start bytes) }
    ∷ frames_from e.end entries bytes

-- how many bytes the longest frame of a protocol has
abbrev pub longest_frame : ℕ
longest_frame = 292

-- Holds if each frame, the first of which begins at `start`, ends no earlier than it begins and has
-- at most as many bytes as the longest frame, and the last one ends at `end`.
abbrev pub AreEnds : {K : Type 0} → ℕ → List (Entry K) → ℕ → Type 0
AreEnds start [] end = start ≡ end
AreEnds start (e ∷ entries) end =
    (start ≤ e.end) × (e.end ≤ start + longest_frame) × AreEnds e.end entries end

-- Holds if the bytes of the list are exactly those of its frames, each of which has at most
-- `longest_frame` bytes.
abbrev pub ListIsWhole : {K : Type 0} → FrameList K → Type 0
ListIsWhole list = AreEnds 0 list.entries.items (length list.bytes.items)

-- how many frames there are
abbrev pub list_len : {K : Type 0} → FrameList K → ℕ
list_len list = length list.entries.items

-- The list holds these frames.
pub record Holds {K : Type 0} (list : FrameList K) (frames : List (KeptFrames K)) : Type 0 where
  pub is : frames_from 0 list.entries.items list.bytes.items ≡ frames
  pub whole : ListIsWhole list
