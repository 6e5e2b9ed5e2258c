-- Text that is added to a text on its way to a sink, a line for each frame of a list.
use Rattle.device_model.specs.Frames.{FrameRead}
use Rattle.command_ends.specs.FrameLine.{frame_line}
use Rattle.command_ends.specs.FrameLine.{frame_lines}
use Rattle.link_format.specs.NumberedFrame.{NumberedFrame}
use Rattle.receiver_laws.specs.Accounted.{forged, is_among}
use Rattle.session_audit.specs.Listing.{numbered_line_of, numbered_lines}
use Rattle.session_audit.specs.Printing.{OnTheWay, AddsText, PrintingBreaksOff, line_if_forged}
use Rattle.session_lists.specs.{FrameBox.kept_frames, FrameList.KeptFrames, FrameList.Holds}
use Rattle.session_lists.specs.ReplayLists.{kept_reads}
use Rattle.session_lists.specs.declared.{frame_box.Numbered.Numbered, frame_list.FrameList.FrameList}
use Rattle.std.proofs.Common.{◌≡◌, ◌∙◌, ℕ, ◌+◌, ◌<◌, ◌≤◌, Bool, true, false, not, cond, List, []}
use Rattle.std.proofs.Common.{◌∷◌, ◌++◌, length, take, drop, get_or, codes, Option, refl, sym, ap}
use Rattle.std.proofs.Common.{subst, arith, append-nil, append_assoc}
use Rattle.std.proofs.lemmas.List.{take_more, take_all, take-append-drop, Concat.flat_map-append}
use Rattle.std.specs.List.{flat_map}
use Rattle.yasir_io.specs.Output.{Buffered, GotPrefix}

-- ---- texts on their way

pub adds-nothing : (a : OnTheWay) → AddsText a a []
adds-nothing a start text waits =
    subst (Buffered start a.held a.waits) (sym (append-nil text)) waits

pub adds-then : (a b c : OnTheWay) (x y : List ℕ) → AddsText a b x → AddsText b c y
    → AddsText a c (x ++ y)
adds-then a b c x y first second start text waits =
    subst (Buffered start c.held c.waits) (append_assoc text x y)
    (second start (text ++ x) (first start text waits))

pub breaks-then : (a b : OnTheWay) (held : Option (List ℕ)) (x y : List ℕ) → AddsText a b x
    → PrintingBreaksOff b held y → PrintingBreaksOff a held (x ++ y)
breaks-then a b held x y first second start text waits =
    subst (GotPrefix start held) (append_assoc text x y)
    (second start (text ++ x) (first start text waits))

pub breaks-before : (a : OnTheWay) (held : Option (List ℕ)) (x y : List ℕ) → PrintingBreaksOff a held x
    → PrintingBreaksOff a held (x ++ y)
breaks-before a held x y first start text waits =
    let got = first start text waits in record {
      front = got.front;
      rest = got.rest ++ y;
      got = got.got;
      all = sym (append_assoc text x y) ∙ ap (λ l. l ++ y) got.all
          ∙ append_assoc got.front got.rest y;
    }

-- ---- line by line

module _ {K : Type 0} (line : KeptFrames K → List ℕ) (kept : List (KeptFrames K)) (i : ℕ) (e : KeptFrames K)
    (within : i < length kept) (is : get_or kept i e ≡ e) where
  lines-step : flat_map line (take (i + 1) kept) ≡ flat_map line (take i kept) ++ line e
  lines-step = ap (flat_map line) (take_more kept i e within)
      ∙ flat_map-append line (take i kept) (get_or kept i e ∷ [])
      ∙ ap (λ x. flat_map line (take i kept) ++ (line x ++ [])) is
      ∙ ap (λ l. flat_map line (take i kept) ++ l) (append-nil (line e))

  lines-all : flat_map line kept
      ≡ (flat_map line (take i kept) ++ line e) ++ flat_map line (drop (i + 1) kept)
  lines-all = ap (flat_map line) (sym (take-append-drop (i + 1) kept))
      ∙ flat_map-append line (take (i + 1) kept) (drop (i + 1) kept)
      ∙ ap (λ l. l ++ flat_map line (drop (i + 1) kept)) lines-step

  module _ (a b : OnTheWay) (before : AddsText a b (flat_map line (take i kept))) where
    pub line-added : (c : OnTheWay) → AddsText b c (line e)
        → AddsText a c (flat_map line (take (i + 1) kept))
    line-added c more = subst (AddsText a c) (sym lines-step)
        (adds-then a b c (flat_map line (take i kept)) (line e) before more)

    pub line-breaks : (held : Option (List ℕ)) → PrintingBreaksOff b held (line e)
        → PrintingBreaksOff a held (flat_map line kept)
    line-breaks held breaks = subst (PrintingBreaksOff a held) (sym lines-all)
        (breaks-before a held (flat_map line (take i kept) ++ line e)
        (flat_map line (drop (i + 1) kept))
        (breaks-then a b held (flat_map line (take i kept)) (line e) before breaks))

kept-is : {K : Type 0} (x e : KeptFrames K) → e.head ≡ x.head → e.frame ≡ x.frame → x ≡ e
kept-is x e head frame = ap (λ h. record { head = h; frame = x.frame }) (sym head)
    ∙ ap (λ f. record { head = e.head; frame = f }) (sym frame)

-- The frame at place `i`, whose head and bytes were looked up, and its line `x`.
module _ {K : Type 0} (line : KeptFrames K → List ℕ) (list : FrameList K) (i n : ℕ) (head : K)
    (bytes : List ℕ) (within : i < n)
    (len_is : (frames : List (KeptFrames K)) → Holds list frames → n ≡ length frames)
    (head_is : (frames : List (KeptFrames K)) (other : KeptFrames K) → Holds list frames
    → head ≡ (get_or frames i other).head)
    (bytes_is : (frames : List (KeptFrames K)) (other : KeptFrames K) → Holds list frames
    → bytes ≡ (get_or frames i other).frame)
    (a b : OnTheWay) (kept : List (KeptFrames K)) (holds : Holds list kept)
    (before : AddsText a b (flat_map line (take i kept))) (x : List ℕ)
    (is : x ≡ line (record { head = head; frame = bytes })) where
  abbrev item : KeptFrames K
  item = record { head = head; frame = bytes }

  at_place : get_or kept i item ≡ item
  at_place = kept-is (get_or kept i item) item (head_is kept item holds) (bytes_is kept item holds)

  inside : i < length kept
  inside = omega (arith, within, len_is kept holds)

  pub item-added : (c : OnTheWay) → AddsText b c x
      → AddsText a c (flat_map line (take (i + 1) kept))
  item-added c more =
      line-added line kept i item inside at_place a b before c (subst (AddsText b c) is more)

  pub item-breaks : (held : Option (List ℕ)) → PrintingBreaksOff b held x
      → PrintingBreaksOff a held (flat_map line kept)
  item-breaks held breaks = line-breaks line kept i item inside at_place a b before held
      (subst (PrintingBreaksOff b held) is breaks)

-- If the lines of the first `i` frames were added, and there are no more than `i`, all lines were
-- added.
pub all-added : {K : Type 0} (line : KeptFrames K → List ℕ) (list : FrameList K) (i n : ℕ)
    (len_is : (frames : List (KeptFrames K)) → Holds list frames → n ≡ length frames) → n ≤ i
    → (a b : OnTheWay) (kept : List (KeptFrames K)) → Holds list kept
    → AddsText a b (flat_map line (take i kept)) → AddsText a b (flat_map line kept)
all-added line list i n len_is end a b kept holds before =
    subst (λ l. AddsText a b (flat_map line l))
    (take_all i kept (omega (arith, end, len_is kept holds))) before

-- ---- the groups

abbrev pub numbered_of : KeptFrames Numbered → NumberedFrame
numbered_of k = record { number = k.head.number; start = k.head.start; frame = k.frame }

abbrev pub kept_line : List ℕ → KeptFrames Numbered → List ℕ
kept_line name k = numbered_line_of name (numbered_of k)

abbrev pub kept_read_line : KeptFrames ℕ → List ℕ
kept_read_line k = frame_line (record { start = k.head; frame = k.frame })

-- the line of a frame if it was never sealed with its number, otherwise nothing
abbrev pub forged_line : List NumberedFrame → KeptFrames Numbered → List ℕ
forged_line sealed_ones k = line_if_forged sealed_ones (numbered_of k)

pub kept-lines : (name : List ℕ) (frames : List NumberedFrame)
    → flat_map (kept_line name) (kept_frames frames) ≡ numbered_lines name frames
kept-lines name [] = refl
kept-lines name (f ∷ frames) = ap (λ l. numbered_line_of name f ++ l) (kept-lines name frames)

pub kept-read-lines : (frames : List FrameRead)
    → flat_map kept_read_line (kept_reads frames) ≡ frame_lines frames
kept-read-lines [] = refl
kept-read-lines (f ∷ frames) = ap (λ l. frame_line f ++ l) (kept-read-lines frames)

forged-step : (b : Bool) (x : List ℕ) (f : NumberedFrame) (line : NumberedFrame → List ℕ)
    (frames : List NumberedFrame) → line f ≡ x
    → cond b [] x ++ flat_map line frames
    ≡ flat_map line (cond (not b) (f ∷ frames) frames)
forged-step true x f line frames is = refl
forged-step false x f line frames is = ap (λ l. l ++ flat_map line frames) (sym is)

pub forged-lines : (sealed_ones frames : List NumberedFrame)
    → flat_map (forged_line sealed_ones) (kept_frames frames)
    ≡ numbered_lines (codes "forged") (forged sealed_ones frames)
forged-lines sealed_ones [] = refl
forged-lines sealed_ones (f ∷ frames) =
    ap (λ l. cond (is_among sealed_ones f) [] (numbered_line_of (codes "forged") f) ++ l)
    (forged-lines sealed_ones frames)
    ∙ forged-step (is_among sealed_ones f) (numbered_line_of (codes "forged") f) f
    (numbered_line_of (codes "forged")) (forged sealed_ones frames) refl
