-- What the audit needs of its lists of frames.
use Rattle.std.specs.Prelude.{ℕ, ◌<◌, ◌^◌, List, [], ◌∷◌, Option, Some, None}
use Rattle.link_format.specs.NumberedFrame.{NumberedFrame}
use Rattle.session_lists.specs.FrameList.{list_len}
use Rattle.session_lists.specs.declared.frame_box.Numbered.{Numbered}
use Rattle.session_lists.specs.declared.frame_list.FrameList.{FrameList}

-- number and start of the first of these frames, if there is one
abbrev pub first_head : List NumberedFrame → Option Numbered
first_head [] = None
first_head (f ∷ more) = Some (record { number = f.number; start = f.start })

-- Holds if the lengths of the lists and the count of the frames read fit into 32 bits.
pub record AreShort (sealed passed : FrameList Numbered) (read : ℕ) : Type 0 where
  pub sealed_ones : list_len sealed < 2 ^ 32
  pub passed_ones : list_len passed < 2 ^ 32
  pub read_ones : read < 2 ^ 32
