-- A frame that is queued early: while ticks that were owed when it was read aren't answered yet.
use Rattle.device_model.specs.Frames.{FrameRead}
use Rattle.line_spacer.proofs.Arriving.{accepts, accepted-takes}
use Rattle.line_spacer.proofs.Sending.{earliest, frame-waits, on_line, waiting-count}
use Rattle.line_spacer.specs.{FrameQueue.bytes_of, Owing.ArePending, Owing.ticks_for}
use Rattle.line_spacer.specs.Spacing.{Spaced, count_from, free_from, sent_from}
use Rattle.line_spacer.specs.Stands.{AreDue, HasSent, TakesIn, unsent_of, taken_in, with_next}
use Rattle.std.proofs.Common.{◌≡◌, ◌∙◌, ℕ, ◌+◌, ◌-◌, ◌*◌, ◌<◌, ◌≤◌, List, [], ◌∷◌, ◌++◌, length}
use Rattle.std.proofs.Common.{map, take, max, sym, ap, subst, arith, Bool, true, false, length-drop}
use Rattle.std.proofs.{Common.nat_le, Common.⊎_elim, Math.Nat.suc-mul, lemmas.Bool.cases_lt}
use Rattle.std.proofs.lemmas.List.{append-nil, length-map, length-take-le}
use Rattle.yasir_ticks.specs.Bursts.{Burst, end_of}
use Rattle.yasir_ticks.specs.declared.tick.Tick.{Tick, TheVariants.Byte}

-- ---- how long the other line is busy

ticks-are : (gap : ℕ) (queue : List (List ℕ))
    → ticks_for gap queue ≡ bytes_of queue + length queue * gap
ticks-are gap [] = omega arith
ticks-are gap (frame ∷ queue) =
    let more = ticks-are gap queue in
    let times = suc-mul (length queue) gap in
    omega arith

module _ (gap size sent pause : ℕ) (room : List ℕ) (queue : List (List ℕ)) (bytes gaps : ℕ)
    (fits : size ≤ length room) (bytes_are : bytes ≡ bytes_of queue)
    (few : gaps ≤ length queue * gap) where
  -- A frame is ready to begin.
  pub busy-next : (ready : Bool) → ready ≡ true
      → bytes + gaps + pause + (size + gap)
      ≤ length (unsent_of ready sent (take size room)) + pause
      + ticks_for gap (with_next ready (take size room) queue)
  busy-next true is =
      let long : length (take size room) ≡ size = length-take-le size room fits in
      let sum = ticks-are gap queue in
      omega arith
  busy-next false is = cc

  -- A frame has begun.
  pub busy-begun : (ready : Bool) → ready ≡ false
      → bytes + gaps + pause + (size - sent)
      ≤ length (unsent_of ready sent (take size room)) + pause
      + ticks_for gap (with_next ready (take size room) queue)
  busy-begun true is = cc
  busy-begun false is =
      let long : length (take size room) ≡ size = length-take-le size room fits in
      let unsent = length-drop sent (take size room) in
      let sum = ticks-are gap queue in
      omega arith

due-end : (gap n : ℕ) (ds : List Burst) (queue : List (List ℕ)) → AreDue gap n ds
    → map (λ d. d.body) ds ≡ map on_line queue → free_from gap n ds ≡ n + ticks_for gap queue
due-end gap n [] [] due same = omega arith
due-end gap n [] (frame ∷ queue) due same = cc
due-end gap n (d ∷ ds) [] due same = cc
due-end gap n (d ∷ ds) (frame ∷ queue) due same =
    let start : d.start ≡ n = due.0 in
    let body : d.body ≡ on_line frame = cc in
    let others : map (λ e. e.body) ds ≡ map on_line queue = cc in
    let long : length d.body ≡ length frame = ap length body ∙ length-map frame (λ b. Byte b) in
    let more = due-end gap (end_of d + gap) ds queue due.1 others in
    omega arith

-- ---- a frame that is queued early

count-later : (m k : ℕ) (ds : List Burst) → m ≤ k → count_from k ds ≤ count_from m ds
count-later m k [] later = omega arith
count-later m k (d ∷ ds) later =
    let more = count-later m k ds later in
    ⊎_elim
    (λ before.
    let no_later : d.start < k = before in
    let no : nat_le k d.start ≡ false = grind arith in
    ⊎_elim
    (λ sooner.
    let no_sooner : d.start < m = sooner in
    let none : nat_le m d.start ≡ false = grind arith in
    rw (no, none) more)
    (λ from.
    let at_least : m ≤ d.start = from in
    let one : nat_le m d.start ≡ true = grind arith in
    rw (no, one) (omega arith))
    (cases_lt d.start m))
    (λ from.
    let at_least : k ≤ d.start = from in
    let yes : nat_le k d.start ≡ true = grind arith in
    let one : nat_le m d.start ≡ true = grind arith in
    rw (yes, one) (omega arith))
    (cases_lt d.start k)

module _ (gap cap m step : ℕ) (s : Spaced) (frame : FrameRead) (unsent : List ℕ) (pause : ℕ)
    (queued : List (List ℕ)) (has : HasSent gap m s.accepted unsent pause queued)
    (early : m ≤ step) (few : length queued < cap)
    (busy : step + 1 ≤ m + (length unsent + pause + ticks_for gap queued)) where
  finds-room : count_from (step + 1) s.accepted < cap
  finds-room =
      let count = waiting-count gap m s.accepted unsent pause queued has in
      let fewer = count-later m (step + 1) s.accepted (omega arith) in
      omega arith

  begins-behind : max m (free_from gap 0 s.accepted) ≡ max (step + 1) (free_from gap 0 s.accepted)
  begins-behind =
      let first : max m (free_from gap 0 s.accepted)
      ≡ free_from gap (m + length unsent + pause) has.waiting =
      ap (λ x. max m (free_from gap 0 x)) has.is
      ∙ earliest gap m s.accepted unsent pause queued has.begun has.waiting has.free has.due in
      let end = due-end gap (m + length unsent + pause) has.waiting queued has.due has.queue in
      grind arith

  pub early-sent : HasSent gap m (taken_in gap cap step s (frame ∷ [])).accepted unsent pause
      (queued ++ frame.frame ∷ [])
  early-sent =
      subst (λ x. HasSent gap m x.accepted unsent pause (queued ++ frame.frame ∷ []))
      (sym (accepts gap cap step s frame finds-room))
      (subst (λ k. HasSent gap m (s.accepted ++ sent_from k frame.frame ∷ []) unsent pause
      (queued ++ frame.frame ∷ [])) begins-behind
      (frame-waits gap m s.accepted unsent pause queued frame.frame has))

  pub early-takes : TakesIn gap cap step s (frame ∷ []) []
  early-takes = accepted-takes gap cap step s frame finds-room

-- With the frame taken in, no frame is pending for the owed ticks.
pub early-pending : (reads : List Tick → List FrameRead) (gap cap : ℕ) (line owed : List Tick)
    (made : Spaced) (frames : List FrameRead)
    → ArePending reads gap cap line owed made frames
    → TakesIn gap cap (length line + (length owed - 1)) made frames []
    → ArePending reads gap cap line owed
    (taken_in gap cap (length line + (length owed - 1)) made frames) []
early-pending reads gap cap line owed made frames was takes = record {
  none_lost = was.none_lost;
  stays = λ n i early below.
      let within : i ≤ length line + (length owed - 1) = omega arith in
      was.stays n i early below ∙ sym (takes.stays i within);
  lost = takes.are_lost ∙ (append-nil made.lost ∙ was.lost);
  all = was.all;
}
