-- The frames of a list: one more frame, and the frame at a place.
use Rattle.session_lists.specs.FrameList.{KeptFrames, Holds, ListIsWhole, frames_from, AreEnds, longest_frame}
use Rattle.session_lists.specs.declared.frame_list.{Entry.Entry, FrameList.FrameList}
use Rattle.std.proofs.Common.{◌≡◌, ◌∙◌, ℕ, zero, suc, ◌+◌, ◌-◌, ◌<◌, ◌≤◌, List, [], ◌∷◌, ◌++◌}
use Rattle.std.proofs.Common.{length, take, drop, refl, ap, sym, subst, arith, length-append}
use Rattle.std.proofs.{Common.length-drop, Common.slice_index_or, Math.Seq.drop-append_seam}
use Rattle.std.proofs.lemmas.List.{take-append-le, drop-append-le, take_all, get_or_default}
use Rattle.std.proofs.lemmas.List.{length-take, length-map, get_or-map, Elements.All-cons}
use Rattle.std.specs.Prelude.{All}
use Rattle.link_format.specs.NumberedFrame.{NumberedFrame}
use Rattle.session_lists.specs.FrameBox.{kept_frames, kept_numbered}
use Rattle.session_lists.specs.declared.frame_box.Numbered.{Numbered}

module _ {K : Type 0} where
  ends-rise : (start end : ℕ) (entries : List (Entry K)) → AreEnds start entries end → start ≤ end
  ends-rise start end [] ends = omega (arith, ends)
  ends-rise start end (e ∷ entries) ends = omega (arith, ends.0, ends-rise e.end end entries ends.2)

  -- ---- one more frame

  ends-more : (start end m : ℕ) (entries : List (Entry K)) (e : Entry K) → AreEnds start entries end
      → end ≤ m → m ≤ end + longest_frame → e.end ≡ m → AreEnds start (entries ++ e ∷ []) m
  ends-more start end m [] e ends later short is =
      (omega (arith, ends, later, is), omega (arith, ends, short, is), is)
  ends-more start end m (d ∷ entries) e ends later short is =
      (ends.0, ends.1, ends-more d.end end m entries e ends.2 later short is)

  frames-more : (start : ℕ) (entries : List (Entry K)) (e : Entry K) (x y : List ℕ)
      → AreEnds start entries (length x) → e.end ≡ length x + length y
      → frames_from start (entries ++ e ∷ []) (x ++ y)
      ≡ frames_from start entries x ++ record { head = e.head; frame = y } ∷ []
  frames-more start [] e x y ends is =
      let long : e.end - start ≡ length y = omega (arith, ends, is) in
      let rest : drop start (x ++ y) ≡ y =
      ap (λ n. drop n (x ++ y)) ends ∙ drop-append_seam x y in
      let all : take (length y) y ≡ y = take_all (length y) y (omega arith) in
      rw (long, rest, all) refl
  frames-more start (d ∷ entries) e x y ends is =
      let within = ends-rise d.end (length x) entries ends.2 in
      let back : drop start (x ++ y) ≡ drop start x ++ y =
      drop-append-le start x y (omega (arith, ends.0, within)) in
      let front : take (d.end - start) (drop start x ++ y) ≡ take (d.end - start) (drop start x) =
      take-append-le (d.end - start) (drop start x) y
      (omega (arith, ends.0, within, length-drop start x)) in
      let first : KeptFrames K = record { head = d.head; frame = take (d.end - start) (drop start x) } in
      rw (back, front) (ap (λ l. first ∷ l) (frames-more d.end entries e x y ends.2 is))

  pub holds-more : (old new : FrameList K) (e : Entry K) (y : List ℕ)
      → new.entries.items ≡ old.entries.items ++ e ∷ [] → new.bytes.items ≡ old.bytes.items ++ y
      → e.end ≡ length old.bytes.items + length y → length y ≤ longest_frame
      → (frames : List (KeptFrames K)) → Holds old frames
      → Holds new (frames ++ record { head = e.head; frame = y } ∷ [])
  holds-more old new e y entries bytes end short frames holds =
      let long : length (old.bytes.items ++ y) ≡ length old.bytes.items + length y =
      length-append old.bytes.items y in
      record {
        is = rw (entries, bytes)
            (frames-more 0 old.entries.items e old.bytes.items y holds.whole end
            ∙ ap (λ l. l ++ record { head = e.head; frame = y } ∷ []) holds.is);
        whole = rw (entries, bytes, long) (ends-more 0 (length old.bytes.items)
            (length old.bytes.items + length y) old.entries.items e holds.whole (omega arith)
            (omega (arith, short)) end);
      }

  -- ---- the frame at a place

  length-frames : (start : ℕ) (entries : List (Entry K)) (bytes : List ℕ)
      → length (frames_from start entries bytes) ≡ length entries
  length-frames start [] bytes = refl
  length-frames start (e ∷ entries) bytes = ap suc (length-frames e.end entries bytes)

  pub holds-length : (list : FrameList K) (frames : List (KeptFrames K)) → Holds list frames
      → length list.entries.items ≡ length frames
  holds-length list frames holds =
      sym (length-frames 0 list.entries.items list.bytes.items) ∙ ap length holds.is

  head-at : (start : ℕ) (entries : List (Entry K)) (bytes : List ℕ) (i : ℕ) (e : Entry K)
      (other : KeptFrames K) → i < length entries
      → (slice_index_or (frames_from start entries bytes) i other).head
      ≡ (slice_index_or entries i e).head
  head-at start [] bytes i e other within = absurd (omega arith)
  head-at start (d ∷ entries) bytes zero e other within = refl
  head-at start (d ∷ entries) bytes (suc i) e other within =
      head-at d.end entries bytes i e other (omega arith)

  -- where the bytes of the frame at a place start
  abbrev pub start_at : ℕ → List (Entry K) → Entry K → ℕ → ℕ
  start_at start entries e zero = start
  start_at start entries e (suc i) = (slice_index_or entries i e).end

  frame-at : (start : ℕ) (entries : List (Entry K)) (bytes : List ℕ) (i : ℕ) (e : Entry K)
      (other : KeptFrames K) → i < length entries
      → (slice_index_or (frames_from start entries bytes) i other).frame
      ≡ take ((slice_index_or entries i e).end - start_at start entries e i)
      (drop (start_at start entries e i) bytes)
  frame-at start [] bytes i e other within = absurd (omega arith)
  frame-at start (d ∷ entries) bytes zero e other within = refl
  frame-at start (d ∷ entries) bytes (suc zero) e other within =
      frame-at d.end entries bytes zero e other (omega arith)
  frame-at start (d ∷ entries) bytes (suc (suc i)) e other within =
      frame-at d.end entries bytes (suc i) e other (omega arith)

  -- The bytes of the frame at a place end no earlier than they start, no later than the longest
  -- frame would, and within the bytes of the list.
  pub ends-at : (start end : ℕ) (entries : List (Entry K)) (i : ℕ) (e : Entry K)
      → AreEnds start entries end → i < length entries
      → (start_at start entries e i ≤ (slice_index_or entries i e).end)
      × ((slice_index_or entries i e).end ≤ start_at start entries e i + longest_frame)
      × ((slice_index_or entries i e).end ≤ end)
  ends-at start end [] i e ends within = absurd (omega arith)
  ends-at start end (d ∷ entries) zero e ends within =
      (ends.0, ends.1, ends-rise d.end end entries ends.2)
  ends-at start end (d ∷ entries) (suc zero) e ends within =
      ends-at d.end end entries zero e ends.2 (omega arith)
  ends-at start end (d ∷ entries) (suc (suc i)) e ends within =
      ends-at d.end end entries (suc i) e ends.2 (omega arith)

  pub holds-head : (list : FrameList K) (i : ℕ) (e : Entry K) (frames : List (KeptFrames K))
      (other : KeptFrames K) → i < length list.entries.items → Holds list frames
      → (slice_index_or list.entries.items i e).head ≡ (slice_index_or frames i other).head
  holds-head list i e frames other within holds =
      sym (head-at 0 list.entries.items list.bytes.items i e other within)
      ∙ ap (λ l. (slice_index_or l i other).head) holds.is

  pub holds-frame : (list : FrameList K) (i : ℕ) (e : Entry K) (frames : List (KeptFrames K))
      (other : KeptFrames K) → i < length list.entries.items → Holds list frames
      → take ((slice_index_or list.entries.items i e).end - start_at 0 list.entries.items e i)
      (drop (start_at 0 list.entries.items e i) list.bytes.items)
      ≡ (slice_index_or frames i other).frame
  holds-frame list i e frames other within holds =
      sym (frame-at 0 list.entries.items list.bytes.items i e other within)
      ∙ ap (λ l. (slice_index_or l i other).frame) holds.is

  -- ---- a frame by its own entry and the one before it

  -- The bytes of a frame that isn't the first start where those of the frame before it end.
  pub holds-later : (list : FrameList K) (i before : ℕ) (e : Entry K) (frames : List (KeptFrames K))
      (other : KeptFrames K) → before + 1 ≡ i → i < length list.entries.items → Holds list frames
      → take ((slice_index_or list.entries.items i e).end
      - (slice_index_or list.entries.items before e).end)
      (drop (slice_index_or list.entries.items before e).end list.bytes.items)
      ≡ (slice_index_or frames i other).frame
  holds-later list i before e frames other is within holds =
      let P : ℕ → Type 0 = λ n. take ((slice_index_or list.entries.items n e).end
      - (slice_index_or list.entries.items before e).end)
      (drop (slice_index_or list.entries.items before e).end list.bytes.items)
      ≡ (slice_index_or frames n other).frame in
      let next : suc before ≡ i = omega (arith, is) in
      subst P next (holds-frame list (suc before) e frames other (omega (arith, is, within)) holds)

  pub rises-later : (list : FrameList K) (i before : ℕ) (e : Entry K) → before + 1 ≡ i
      → i < length list.entries.items → ListIsWhole list
      → (slice_index_or list.entries.items before e).end
      ≤ (slice_index_or list.entries.items i e).end
  rises-later list i before e is within whole =
      let P : ℕ → Type 0 = λ n. (slice_index_or list.entries.items before e).end
      ≤ (slice_index_or list.entries.items n e).end in
      let next : suc before ≡ i = omega (arith, is) in
      subst P next (ends-at 0 (length list.bytes.items) list.entries.items (suc before) e whole
      (omega (arith, is, within))).0

  -- A frame that isn't the first is no longer than the longest one.
  short-later : (list : FrameList K) (i before : ℕ) (e : Entry K) → before + 1 ≡ i
      → i < length list.entries.items → ListIsWhole list
      → (slice_index_or list.entries.items i e).end
      ≤ (slice_index_or list.entries.items before e).end + longest_frame
  short-later list i before e is within whole =
      let P : ℕ → Type 0 = λ n. (slice_index_or list.entries.items n e).end
      ≤ (slice_index_or list.entries.items before e).end + longest_frame in
      let next : suc before ≡ i = omega (arith, is) in
      subst P next (ends-at 0 (length list.bytes.items) list.entries.items (suc before) e whole
      (omega (arith, is, within))).1

  pub ends-within : (list : FrameList K) (i : ℕ) (e : Entry K) → i < length list.entries.items
      → ListIsWhole list → (slice_index_or list.entries.items i e).end ≤ length list.bytes.items
  ends-within list i e within whole =
      (ends-at 0 (length list.bytes.items) list.entries.items i e whole within).2

  -- `last` is the entry at place `i`, and `before` is the one before it, as they were looked up.
  module _ (list : FrameList K) (i : ℕ) (last before d e : Entry K) (some : i ≡ 0 → ⊥)
      (within : i < length list.entries.items)
      (last_is : last ≡ slice_index_or list.entries.items i d)
      (before_is : before ≡ slice_index_or list.entries.items (i - 1) e) where
    next : i - 1 + 1 ≡ i
    next = omega (arith, some)

    before_as : before ≡ slice_index_or list.entries.items (i - 1) d
    before_as = before_is
        ∙ get_or_default list.entries.items (i - 1) e d (omega (arith, some, within))

    pub rises-by : ListIsWhole list → before.end ≤ last.end
    rises-by whole =
        let rise = rises-later list i (i - 1) d next within whole in
        omega (
          arith,
          rise,
          ap (λ (x : Entry K). x.end) before_as,
          ap (λ (x : Entry K). x.end) last_is,
        )

    pub short-by : ListIsWhole list → last.end ≤ before.end + longest_frame
    short-by whole =
        let short = short-later list i (i - 1) d next within whole in
        omega (
          arith,
          short,
          ap (λ (x : Entry K). x.end) before_as,
          ap (λ (x : Entry K). x.end) last_is,
        )

    pub frame-by : (frames : List (KeptFrames K)) (other : KeptFrames K) → Holds list frames
        → take (last.end - before.end) (drop before.end list.bytes.items)
        ≡ (slice_index_or frames i other).frame
    frame-by frames other holds =
        let P : Entry K → Entry K → Type 0 = λ x y.
        take (x.end - y.end) (drop y.end list.bytes.items)
        ≡ (slice_index_or frames i other).frame in
        subst (λ x. P x before) (sym last_is)
        (subst (λ y. P (slice_index_or list.entries.items i d) y) (sym before_as)
        (holds-later list i (i - 1) d frames other next within holds))

-- ---- how long the frames are

module _ {K : Type 0} where
  short-from : (start end : ℕ) (entries : List (Entry K)) (bytes : List ℕ)
      → AreEnds start entries end
      → All (λ (f : KeptFrames K). length f.frame ≤ longest_frame) (frames_from start entries bytes)
  short-from start end [] bytes ends = λ k d none. absurd (omega arith)
  short-from start end (e ∷ entries) bytes ends =
      let by : e.end ≤ start + longest_frame = ends.1 in
      let cut = length-take (e.end - start) (drop start bytes) in
      All-cons (λ (f : KeptFrames K). length f.frame ≤ longest_frame)
      (record { head = e.head; frame = take (e.end - start) (drop start bytes) })
      (frames_from e.end entries bytes) (omega (arith, by, cut))
      (short-from e.end end entries bytes ends.2)

-- Each of the numbered frames that a list holds is at most as long as the longest one.
pub frames-short : (list : FrameList Numbered) (frames : List NumberedFrame)
    → Holds list (kept_frames frames)
    → All (λ (f : NumberedFrame). length f.frame ≤ longest_frame) frames
frames-short list frames holds = λ k d within.
    let long = length-map frames kept_numbered in
    let all = subst (λ (l : List (KeptFrames Numbered)).
    All (λ (f : KeptFrames Numbered). length f.frame ≤ longest_frame) l) holds.is
    (short-from 0 (length list.bytes.items) list.entries.items list.bytes.items holds.whole) in
    subst (λ (f : KeptFrames Numbered). length f.frame ≤ longest_frame)
    (get_or-map kept_numbered frames k d (kept_numbered d) within)
    (all k (kept_numbered d) (omega (arith, within, long)))
