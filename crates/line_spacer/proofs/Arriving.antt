-- What happens to the frames of a line when the line goes on.
use Rattle.frame_ending.proofs.Emissions.{tick_at-none, tick_at-front, tick_at-before, laid-more}
use Rattle.frame_ending.{proofs.Emissions.laid-same, specs.Laid.tick_at, specs.Laid.laid}
use Rattle.device_model.specs.Frames.{FrameRead}
use Rattle.line_spacer.proofs.Sending.{waiting-count, frame-waits}
use Rattle.line_spacer.specs.Arrivals.{Arrival, arriving, gained, arrivals_behind, arrivals}
use Rattle.line_spacer.specs.Spacing.{Spaced, count_from, free_from, sent_from, take_in, spaced}
use Rattle.line_spacer.specs.Spacing.{accepted_of}
use Rattle.line_spacer.specs.Stands.{HasSent, TakesIn, taken_in, AnswersSpaced}
use Rattle.std.proofs.Common.{◌≡◌, ◌∙◌, ℕ, ◌+◌, ◌<◌, ◌≤◌, List, [], ◌∷◌, ◌++◌, length, map, drop}
use Rattle.std.proofs.Common.{max, fold, refl, sym, ap, subst, arith, append_assoc, length-append}
use Rattle.std.proofs.lemmas.{Bool.le-leb, Bool.lt-leb, List.append-nil, List.Sums.fold-append}
use Rattle.yasir_ticks.specs.{Bursts.Burst, declared.tick.Tick.Tick}

-- ---- the frames of a line

pub drop-front : (x y : List FrameRead) → drop (length x) (x ++ y) ≡ y
drop-front [] y = refl
drop-front (a ∷ x) y = drop-front x y

module _ (reads : List Tick → List FrameRead) where
  pub arrivals-append : (line x y : List Tick) → arrivals_behind reads line (x ++ y)
      ≡ arrivals_behind reads line x ++ arrivals_behind reads (line ++ x) y
  unfolding arrivals_behind
  arrivals-append line [] y = ap (λ l. arrivals_behind reads l y) (sym (append-nil line))
  arrivals-append line (t ∷ x) y =
      let new : List Arrival = map (arriving (length line)) (gained reads line t) in
      ap (λ a. new ++ a) (arrivals-append (line ++ t ∷ []) x y)
      ∙ (sym (append_assoc new (arrivals_behind reads (line ++ t ∷ []) x)
      (arrivals_behind reads (line ++ t ∷ [] ++ x) y))
      ∙ ap (λ l. (new ++ arrivals_behind reads (line ++ t ∷ []) x) ++ arrivals_behind reads l y)
      (append_assoc line (t ∷ []) x))

  -- If `frames` are read with one more tick, these arrive in its step.
  pub arrivals-one : (line : List Tick) (t : Tick) (frames : List FrameRead)
      → reads (line ++ t ∷ []) ≡ reads line ++ frames
      → arrivals reads (line ++ t ∷ [])
      ≡ arrivals reads line ++ map (arriving (length line)) frames
  unfolding arrivals_behind
  arrivals-one line t frames is =
      arrivals-append [] line (t ∷ [])
      ∙ ap (λ a. arrivals reads line ++ a)
      (append-nil (map (arriving (length line)) (gained reads line t))
      ∙ ap (map (arriving (length line)))
      (ap (drop (length (reads line))) is ∙ drop-front (reads line) frames))

  module _ (gap cap : ℕ) where
    pub spaced-one : (line : List Tick) (t : Tick) (frames : List FrameRead)
        → reads (line ++ t ∷ []) ≡ reads line ++ frames
        → spaced reads gap cap (line ++ t ∷ [])
        ≡ taken_in gap cap (length line) (spaced reads gap cap line) frames
    spaced-one line t frames is =
        ap (fold (take_in gap cap) (record { accepted = []; lost = [] }))
        (arrivals-one line t frames is)
        ∙ fold-append (take_in gap cap) (record { accepted = []; lost = [] }) (arrivals reads line)
        (map (arriving (length line)) frames)

    -- the other line when the line has one more tick
    pub line-one : (line : List Tick) (t u : Tick) (frames lost : List FrameRead)
        → reads (line ++ t ∷ []) ≡ reads line ++ frames
        → tick_at (accepted_of reads gap cap line) (length line) ≡ u
        → TakesIn gap cap (length line) (spaced reads gap cap line) frames lost
        → AnswersSpaced reads gap cap line (t ∷ []) (u ∷ []) (length line) lost
    line-one line t u frames lost is leaves takes =
        let m : ℕ = length line in
        let before : List Burst = accepted_of reads gap cap line in
        let after : List Burst = accepted_of reads gap cap (line ++ t ∷ []) in
        let one : length (line ++ t ∷ []) ≡ m + 1 = length-append line (t ∷ []) in
        let next = spaced-one line t frames is in
        record {
          ticks_leave = ap (λ k. laid k after) one
              ∙ (laid-same 0 (m + 1) (λ i. tick_at after i) (λ i. tick_at before i)
              (λ i below. let within : i ≤ m = omega arith in
              ap (λ s. tick_at s.accepted i) next ∙ takes.stays i within)
              ∙ (laid-more m before ∙ ap (λ v. laid m before ++ v ∷ []) leaves));
          are_lost = ap (λ s. s.lost) next ∙ takes.are_lost;
        }

-- ---- one frame is taken in

module _ (gap cap step : ℕ) (s : Spaced) (frame : FrameRead) where
  pub accepts : count_from (step + 1) s.accepted < cap
      → take_in gap cap s (arriving step frame)
      ≡ record {
        accepted = s.accepted
            ++ sent_from (max (step + 1) (free_from gap 0 s.accepted)) frame.frame ∷ [];
        lost = s.lost;
      }
  unfolding take_in
  accepts few = rw (lt-leb cap (count_from (step + 1) s.accepted) few) refl

  loses : cap ≤ count_from (step + 1) s.accepted
      → take_in gap cap s (arriving step frame)
      ≡ record { accepted = s.accepted; lost = s.lost ++ arriving step frame ∷ [] }
  unfolding take_in
  loses many = rw (le-leb cap (count_from (step + 1) s.accepted) many) refl

  pub accepted-takes : count_from (step + 1) s.accepted < cap
      → TakesIn gap cap step s (frame ∷ []) []
  accepted-takes few =
      let d : Burst = sent_from (max (step + 1) (free_from gap 0 s.accepted)) frame.frame in
      let same = accepts few in
      record {
        are_lost = ap (λ x. x.lost) same ∙ sym (append-nil s.lost);
        stays = λ i within.
            let early : i < d.start = grind arith in
            ap (λ x. tick_at x.accepted i) same
            ∙ (tick_at-front s.accepted (d ∷ []) [] i
            (tick_at-before d i early ∙ sym (tick_at-none i))
            ∙ ap (λ x. tick_at x i) (append-nil s.accepted));
      }

  -- The frame is queued if the queue has room for it.
  module _ (unsent : List ℕ) (pause : ℕ) (queued : List (List ℕ))
      (has : HasSent gap (step + 1) s.accepted unsent pause queued) where
    few-wait : length queued < cap → count_from (step + 1) s.accepted < cap
    few-wait few =
        let count = waiting-count gap (step + 1) s.accepted unsent pause queued has in omega arith

    pub kept-sent : length queued < cap
        → HasSent gap (step + 1) (taken_in gap cap step s (frame ∷ [])).accepted unsent pause
        (queued ++ frame.frame ∷ [])
    kept-sent few =
        let P : Spaced → Type 0 = λ x.
        HasSent gap (step + 1) x.accepted unsent pause (queued ++ frame.frame ∷ []) in
        subst P (sym (accepts (few-wait few)))
        (frame-waits gap (step + 1) s.accepted unsent pause queued frame.frame has)

    pub kept-takes : length queued < cap → TakesIn gap cap step s (frame ∷ []) []
    kept-takes few = accepted-takes (few-wait few)

    many-wait : cap ≤ length queued → cap ≤ count_from (step + 1) s.accepted
    many-wait many =
        let count = waiting-count gap (step + 1) s.accepted unsent pause queued has in omega arith

    pub lost-sent : cap ≤ length queued
        → HasSent gap (step + 1) (taken_in gap cap step s (frame ∷ [])).accepted unsent pause queued
    lost-sent many =
        let P : Spaced → Type 0 = λ x. HasSent gap (step + 1) x.accepted unsent pause queued in
        subst P (sym (loses (many-wait many))) has

    pub lost-takes : cap ≤ length queued → TakesIn gap cap step s (frame ∷ []) (frame ∷ [])
    lost-takes many =
        let same = loses (many-wait many) in
        record {
          are_lost = ap (λ x. x.lost) same;
          stays = λ i within. ap (λ x. tick_at x.accepted i) same;
        }

-- If no frame is read, none is taken in.
pub none-taken : (gap cap step : ℕ) (s : Spaced) → TakesIn gap cap step s [] []
none-taken gap cap step s = record {
  are_lost = sym (append-nil s.lost);
  stays = λ i within. refl;
}

-- ---- at the start

pub nothing-begun : (gap : ℕ) → 0 < gap → HasSent gap 0 [] [] 0 []
nothing-begun gap wide = record {
  wide = wide;
  begun = [];
  waiting = [];
  is = refl;
  have_begun = tt;
  sends = λ i from. tick_at-none i;
  free = omega arith;
  due = tt;
  queue = refl;
}

pub begins-empty : (reads : List Tick → List FrameRead) (gap cap : ℕ) (queue : List (List ℕ))
    → 0 < gap → queue ≡ [] → HasSent gap 0 (accepted_of reads gap cap []) [] 0 queue
unfolding arrivals_behind
begins-empty reads gap cap queue wide empty =
    subst (λ q. HasSent gap 0 [] [] 0 q) (sym empty) (nothing-begun gap wide)
