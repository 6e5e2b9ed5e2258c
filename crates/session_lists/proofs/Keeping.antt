-- What is kept of a line after a step of a box, or after some ticks at a device.
use Rattle.device_model.specs.{Frames.FrameRead, declared.device.Device.Ghosts as Device}
use Rattle.link_format.specs.Setup.{Setup}
use Rattle.session_lists.specs.FrameBox.{AnswersFrame, frame_told, kept_numbered, kept_frames}
use Rattle.session_lists.specs.FrameList.{KeptFrames, Holds}
use Rattle.session_lists.specs.ReplayLists.{KeepsFrames, StepsInto, Listens, kept_reads}
use Rattle.session_lists.specs.declared.frame_box.{FrameBox.Ghosts as FrameBox, FrameStep.FrameStep}
use Rattle.session_lists.specs.declared.{frame_box.Numbered.Numbered, frame_list.FrameList.FrameList}
use Rattle.std.proofs.Common.{◌≡◌, ◌∙◌, ℕ, List, [], ◌∷◌, ◌++◌, Some, refl, ap, sym, subst}
use Rattle.std.proofs.{lemmas.List.map-append}
use Rattle.yasir_ticks.specs.declared.tick.Tick.{Tick}

-- ---- a step of a box

module _ {B : Type 0} (box : FrameBox B) (old new : B) (before after : FrameList Numbered)
    (setup : Setup) (line : List Tick) (t : Tick) (step : FrameStep) where
  abbrev now : List Tick
  now = line ++ t ∷ []

  -- If the step has a frame, and it was pushed into the list, the list holds the frames of the
  -- longer line.
  pub steps-frame : (head : Numbered) → step.frame ≡ Some head
      → KeepsFrames box old before setup line → box.stands new setup now
      → AnswersFrame (box.numbering setup) line t step (box.shown new)
      → ((frames : List (KeptFrames Numbered)) → Holds before frames
      → Holds after (frames ++ record { head = head; frame = box.shown new } ∷ []))
      → StepsInto box new after setup line t step.tick
  steps-frame head is keeps stands answers push =
      let frames = (box.numbering setup).frames in
      let told : frame_told step.frame (box.shown new)
      ≡ record { number = head.number; start = head.start; frame = box.shown new } ∷ [] =
      rw is refl in
      let more : kept_frames (frames line) ++ record { head = head; frame = box.shown new } ∷ []
      ≡ kept_frames (frames now) =
      sym (ap kept_frames (answers.frame_is ∙ ap (λ l. frames line ++ l) told)
      ∙ map-append kept_numbered (frames line)
      (record { number = head.number; start = head.start; frame = box.shown new } ∷ [])) in
      record {
        keeps = record {
          steps = stands;
          holds = subst (Holds after) more (push (kept_frames (frames line)) keeps.holds);
        };
        answers = answers.tick_is;
      }

-- ---- some ticks at a device

module _ {V : Type 0} (device : Device V) (old new : V) (before after : FrameList ℕ)
    (run : List Tick) (frames : List FrameRead) where
  -- If these frames are read in the run, and were added to the list, the list holds what the device
  -- has read.
  pub listens-more : ((line : List Tick) → device.stands old line
      → device.stands new (line ++ run))
      → ((line : List Tick) → device.stands old line
      → device.reads (line ++ run) ≡ device.reads line ++ frames)
      → ((reads : List FrameRead) → Holds before (kept_reads reads)
      → Holds after (kept_reads (reads ++ frames)))
      → (line : List Tick) → Listens device old before line
      → Listens device new after (line ++ run)
  listens-more stands answer kept line listens = record {
    hears = stands line listens.hears;
    holds = subst (λ l. Holds after (kept_reads l)) (sym (answer line listens.hears))
        (kept (device.reads line) listens.holds);
  }
