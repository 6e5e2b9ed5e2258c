-- A frame that is read is kept: as the next one to begin, or in the queue.
use Rattle.device_model.specs.Frames.{FrameRead}
use Rattle.line_spacer.{proofs.Arriving.kept-sent, specs.Spacing.Spaced}
use Rattle.line_spacer.specs.Stands.{HasSent, taken_in, unsent_of, with_next}
use Rattle.std.proofs.Common.{◌≡◌, ◌∙◌, ℕ, ◌+◌, ◌-◌, ◌<◌, ◌≤◌, List, [], ◌∷◌, ◌++◌, length}
use Rattle.std.proofs.Common.{take, drop, refl, sym, ap, subst, arith, Bool, true, false}
use Rattle.std.proofs.lemmas.List.{drop_all, length-take-le, nil_from_length}

-- how many frames wait
pub one-more : (ready : Bool) (frame : List ℕ) (queue : List (List ℕ)) (n : ℕ) → ready ≡ true
    → n ≡ length queue → n + 1 ≡ length (with_next ready frame queue)
one-more true frame queue n is many = omega (arith, many)
one-more false frame queue n is many = cc

pub no-more : (ready : Bool) (frame : List ℕ) (queue : List (List ℕ)) (n : ℕ) → ready ≡ false
    → n ≡ length queue → n ≡ length (with_next ready frame queue)
no-more true frame queue n is many = cc
no-more false frame queue n is many = many

pub next-append : (ready : Bool) (frame lent : List ℕ) (queue : List (List ℕ))
    → with_next ready frame (queue ++ lent ∷ []) ≡ with_next ready frame queue ++ lent ∷ []
next-append true frame lent queue = refl
next-append false frame lent queue = refl

none-next : (ready : Bool) (frame : List ℕ) (queue : List (List ℕ))
    → length (with_next ready frame queue) ≤ 0 → (ready ≡ false) × (queue ≡ [])
none-next true frame queue none = absurd (omega arith)
none-next false frame queue none = (refl, nil_from_length queue (omega arith))

module _ (gap cap step : ℕ) (s : Spaced) (read : FrameRead) (ready : Bool) (size sent pause : ℕ)
    (room : List ℕ) (queue : List (List ℕ)) (fits : size ≤ length room)
    (has : HasSent gap (step + 1) s.accepted (unsent_of ready sent (take size room)) pause
    (with_next ready (take size room) queue)) where
  -- A frame is added to the queue.
  pub queued-sent : length (with_next ready (take size room) queue) < cap
      → (new : List (List ℕ)) → new ≡ queue ++ read.frame ∷ []
      → HasSent gap (step + 1) (taken_in gap cap step s (read ∷ [])).accepted
      (unsent_of ready sent (take size room)) pause (with_next ready (take size room) new)
  queued-sent few new is =
      subst (λ x. HasSent gap (step + 1) (taken_in gap cap step s (read ∷ [])).accepted
      (unsent_of ready sent (take size room)) pause x)
      (sym (ap (λ q. with_next ready (take size room) q) is
      ∙ next-append ready (take size room) read.frame queue))
      (kept-sent gap cap step s read (unsent_of ready sent (take size room)) pause
      (with_next ready (take size room) queue) has few)

  -- A frame becomes the next one to begin.
  pub held-sent : length (with_next ready (take size room) queue) < cap
      → length (with_next ready (take size room) queue) ≤ 0 → size ≤ sent
      → (new : List ℕ) → new ≡ read.frame
      → HasSent gap (step + 1) (taken_in gap cap step s (read ∷ [])).accepted [] pause
      (new ∷ queue)
  held-sent few none over new is =
      let frame : List ℕ = take size room in
      let long : length frame ≡ size = length-take-le size room fits in
      let empty = none-next ready frame queue none in
      let gone : drop sent frame ≡ [] = drop_all sent frame (omega arith) in
      let start : HasSent gap (step + 1) s.accepted (drop sent frame) pause queue =
      subst (λ r. HasSent gap (step + 1) s.accepted (unsent_of r sent frame) pause
      (with_next r frame queue)) empty.0 has in
      let bare : HasSent gap (step + 1) s.accepted [] pause [] =
      subst (λ q. HasSent gap (step + 1) s.accepted [] pause q) empty.1
      (subst (λ x. HasSent gap (step + 1) s.accepted x pause queue) gone start) in
      let some : length (with_next ready frame queue) < cap = few in
      let two : HasSent gap (step + 1) (taken_in gap cap step s (read ∷ [])).accepted [] pause
      (read.frame ∷ []) = kept-sent gap cap step s read [] pause [] bare (omega arith) in
      subst (λ x. HasSent gap (step + 1) (taken_in gap cap step s (read ∷ [])).accepted [] pause
      (x ∷ queue)) (sym is)
      (subst (λ q. HasSent gap (step + 1) (taken_in gap cap step s (read ∷ [])).accepted [] pause
      (read.frame ∷ q)) (sym empty.1) two)

-- If all of a frame had been sent before these ticks, no byte of it leaves in them.
pub none-left : (before sent size : ℕ) (room new : List ℕ) → before ≤ sent → sent ≤ size
    → size ≤ before → take (0 - 0) (drop 0 new) ≡ take (sent - before) (drop before room)
none-left before sent size room new low high over =
    let none : sent - before ≡ 0 = omega arith in
    ap (λ k. take k (drop before room)) (sym none)
