-- The frames among the notes of a walk over bursts, and what a box tells of them.
use Rattle.std.specs.Prelude.{◌≡◌, List, Option, Some, None, IfSome}
use Rattle.std.specs.List.{filter_map}
use Rattle.yasir_ticks.specs.Bursts.{Burst}
use Rattle.line_rules.specs.Rules.{Rules}
use Rattle.frame_ending.specs.LiveBytes.{live_bytes}
use Rattle.frame_ending.specs.Walk.{Walker, Noted}
use Rattle.link_format.specs.NumberedFrame.{NumberedFrame}
use Rattle.session_lists.specs.declared.frame_box.Numbered.{Numbered}

-- the frames among these notes
abbrev pub frames_among : {N : Type 0} → (N → Option NumberedFrame) → List (Noted N)
    → List NumberedFrame
frames_among frame_in notes = filter_map (λ n. frame_in n.note) notes

-- number and start of a frame
abbrev pub numbered_frames : Option NumberedFrame → Option Numbered
numbered_frames None = None
numbered_frames (Some f) = Some (record { number = f.number; start = f.start })

-- what a box tells of the note of a step, if there is one
abbrev pub told_by : {A : Type 0} → (A → Option Numbered) → Option A → Option Numbered
told_by told None = None
told_by told (Some note) = told note

-- Holds if the frame of each note that has one has the live bytes of the note's burst, and what a
-- box tells of a note is the number and the start of its frame, or nothing if it has none.
pub record HasFrames {S N A : Type 0} (w : Walker S N) (rules : Rules)
    (frame_in : N → Option NumberedFrame) (brief : N → A) (told : A → Option Numbered) :
    Type 0 where
  pub live : (s : S) (d : Burst)
      → IfSome (frame_in (w.note s d)) (λ f. f.frame ≡ live_bytes rules d)
  pub tells : (note : N) → told (brief note) ≡ numbered_frames (frame_in note)
