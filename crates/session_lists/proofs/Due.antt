-- The frame that should be read at a place, as it was looked up in a list.
use Rattle.device_model.specs.Frames.{FrameRead}
use Rattle.link_format.specs.NumberedFrame.{NumberedFrame}
use Rattle.session_lists.specs.Expected.{AreLater, StartInTime}
use Rattle.session_lists.specs.FrameBox.{kept_frames, kept_numbered}
use Rattle.session_lists.specs.FrameList.{KeptFrames, Holds}
use Rattle.session_lists.specs.Lateness.{read_later}
use Rattle.session_lists.specs.ReplayLists.{kept_read, kept_reads}
use Rattle.session_lists.specs.declared.frame_box.Numbered.{Numbered}
use Rattle.session_lists.specs.declared.frame_list.FrameList.{FrameList}
use Rattle.std.proofs.Common.{◌≡◌, ◌∙◌, ℕ, ◌+◌, ◌<◌, ◌^◌, List, [], map, length, get_or, Some}
use Rattle.std.proofs.Common.{slice_get, sym, ap, arith, subst}
use Rattle.std.proofs.lemmas.List.{get_or-map, length-map, Elements.All-get_or}
use Rattle.std.proofs.lemmas.Option.{slice_get-get_or}
use Rattle.std.specs.Prelude.{All}

-- a frame that is read
abbrev pub frame_at : ℕ → List ℕ → FrameRead
frame_at start bytes = record { start = start; frame = bytes }

-- A frame that was read behind a spacer is the one whose head and bytes were looked up.
pub spaced-there : (frames : List FrameRead) (i start : ℕ) (bytes : List ℕ) (d : FrameRead)
    → i < length frames → start ≡ (get_or (kept_reads frames) i (kept_read d)).head
    → bytes ≡ (get_or (kept_reads frames) i (kept_read d)).frame
    → Some (frame_at start bytes) ≡ slice_get frames i
spaced-there frames i start bytes d within start_is bytes_are =
    let kept : get_or (kept_reads frames) i (kept_read d) ≡ kept_read (get_or frames i d) =
    get_or-map kept_read frames i d (kept_read d) within in
    let first : start ≡ (get_or frames i d).start = start_is ∙ ap (λ k. k.head) kept in
    let then : bytes ≡ (get_or frames i d).frame = bytes_are ∙ ap (λ k. k.frame) kept in
    ap (λ s. Some (frame_at s bytes)) first
    ∙ ap (λ x. Some (frame_at (get_or frames i d).start x)) then
    ∙ sym (slice_get-get_or frames i d within)

module _ (late : ℕ) (list : FrameList Numbered) (i : ℕ) (head : Numbered) (bytes : List ℕ)
    (d : NumberedFrame) where
  -- A frame that passed, so many ticks later, is the one whose head and bytes were looked up.
  pub later-there : (frames : List FrameRead) (are : AreLater late list frames) → i < length frames
      → head ≡ (get_or (kept_frames are.passed_ones) i (kept_numbered d)).head
      → bytes ≡ (get_or (kept_frames are.passed_ones) i (kept_numbered d)).frame
      → Some (frame_at (late + head.start) bytes) ≡ slice_get frames i
  later-there frames are within head_is bytes_are =
      let ones : List NumberedFrame = are.passed_ones in
      let long = length-map ones (read_later late) in
      let same = ap length are.are in
      let here : i < length ones = omega (arith, within, long, same) in
      let kept : get_or (kept_frames ones) i (kept_numbered d) ≡ kept_numbered (get_or ones i d) =
      get_or-map kept_numbered ones i d (kept_numbered d) here in
      let first : head.start ≡ (get_or ones i d).start =
      ap (λ h. h.start) (head_is ∙ ap (λ k. k.head) kept) in
      let then : bytes ≡ (get_or ones i d).frame = bytes_are ∙ ap (λ k. k.frame) kept in
      ap (λ s. Some (frame_at (late + s) bytes)) first
      ∙ ap (λ x. Some (frame_at (late + (get_or ones i d).start) x)) then
      ∙ ap (λ f. Some f) (sym (get_or-map (read_later late) ones i d (read_later late d) here))
      ∙ sym (slice_get-get_or (map (read_later late) ones) i (read_later late d)
      (omega (arith, here, long)))
      ∙ ap (λ x. slice_get x i) (sym are.are)

  -- A frame that was looked up is read from a tick below 2 ^ 64 on.
  pub starts-in-time : (time : StartInTime late list) → i < length time.passed_ones
      → head ≡ (get_or (kept_frames time.passed_ones) i (kept_numbered d)).head
      → late + head.start < 2 ^ 64
  starts-in-time time within head_is =
      let ones : List NumberedFrame = time.passed_ones in
      let kept : get_or (kept_frames ones) i (kept_numbered d) ≡ kept_numbered (get_or ones i d) =
      get_or-map kept_numbered ones i d (kept_numbered d) within in
      let first : head.start ≡ (get_or ones i d).start =
      ap (λ h. h.start) (head_is ∙ ap (λ k. k.head) kept) in
      let few : late + (get_or ones i d).start < 2 ^ 64 =
      All-get_or (λ (f : NumberedFrame). late + f.start < 2 ^ 64) ones i d within time.in_time in
      omega (arith, first, few)
