-- What an audit looks up in its lists, place by place.
use Rattle.{link_format.specs.NumberedFrame.NumberedFrame, receiver_laws.specs.Accounted.forged}
use Rattle.{receiver_laws.specs.Accounted.is_among, session_lists.specs.FrameBox.kept_frames}
use Rattle.session_lists.specs.{FrameBox.kept_numbered, declared.frame_box.Numbered.Numbered}
use Rattle.std.proofs.Common.{◌≡◌, ◌∙◌, ℕ, ◌+◌, ◌<◌, Bool, true, false, not, List, ◌∷◌, length}
use Rattle.std.proofs.Common.{drop, get_or, sym, ap, if◌then◌else◌}
use Rattle.std.proofs.lemmas.List.{drop_more, get_or-map}

-- ---- frames as they were kept

abbrev pub numbered_of : Numbered → List ℕ → NumberedFrame
numbered_of head bytes = record { number = head.number; start = head.start; frame = bytes }

-- The frame at a place is the one whose head and bytes were looked up there.
pub frame-at : (frames : List NumberedFrame) (i : ℕ) (head : Numbered) (bytes : List ℕ)
    → i < length frames
    → head ≡ (get_or (kept_frames frames) i (kept_numbered (numbered_of head bytes))).head
    → bytes ≡ (get_or (kept_frames frames) i (kept_numbered (numbered_of head bytes))).frame
    → get_or frames i (numbered_of head bytes) ≡ numbered_of head bytes
frame-at frames i head bytes within head_is bytes_are =
    let d = numbered_of head bytes in
    let f : NumberedFrame = get_or frames i d in
    let kept : get_or (kept_frames frames) i (kept_numbered d) ≡ kept_numbered f =
    get_or-map kept_numbered frames i d (kept_numbered d) within in
    let same_head : head ≡ record { number = f.number; start = f.start } =
    head_is ∙ ap (λ k. k.head) kept in
    let same_bytes : bytes ≡ f.frame = bytes_are ∙ ap (λ k. k.frame) kept in
    sym (ap (λ h. numbered_of h bytes) same_head
    ∙ ap (λ x. numbered_of (record { number = f.number; start = f.start }) x) same_bytes)

-- ---- forged frames

module _ (sealed_ones passed_ones : List NumberedFrame) (i : ℕ) (d : NumberedFrame)
    (within : i < length passed_ones) where
  abbrev behind : List NumberedFrame
  behind = forged sealed_ones (drop (i + 1) passed_ones)

  abbrev by_place : Bool → List NumberedFrame
  by_place there = if not there then get_or passed_ones i d ∷ behind else behind

  one-more : forged sealed_ones (drop i passed_ones)
      ≡ by_place (is_among sealed_ones (get_or passed_ones i d))
  one-more = ap (forged sealed_ones) (drop_more passed_ones i d within)

  pub forged-here : is_among sealed_ones (get_or passed_ones i d) ≡ false
      → forged sealed_ones (drop i passed_ones) ≡ get_or passed_ones i d ∷ behind
  forged-here none = one-more ∙ ap by_place none

  pub forged-behind : is_among sealed_ones (get_or passed_ones i d) ≡ true
      → forged sealed_ones (drop i passed_ones) ≡ behind
  forged-behind there = one-more ∙ ap by_place there
