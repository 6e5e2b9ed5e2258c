-- A run of ticks of a spacer, by the fields of the spacer: the bytes of a frame in a room, how many
-- of them have been sent, and whether the frame is still to begin.
use Rattle.{frame_ending.specs.Answered.answered, line_spacer.proofs.Runs.bytes-leave}
use Rattle.line_spacer.{proofs.Runs.silence-leaves, proofs.Runs.frame-leaves, specs.Runs.SendsRun}
use Rattle.line_spacer.specs.Stands.{HasSent, unsent_of, with_next, rest_behind, tick_of}
use Rattle.std.proofs.Common.{◌≡◌, ◌∙◌, ℕ, ◌+◌, ◌-◌, ◌<◌, ◌≤◌, List, [], ◌∷◌, length, take}
use Rattle.std.proofs.Common.{drop, min, max, refl, sym, ap, subst, arith, length-drop, Bool, true}
use Rattle.std.proofs.{Common.false, Common.⊎_elim, lemmas.Bool.cases_lt}
use Rattle.std.proofs.lemmas.List.{drop_all, drop-drop, drop-take, length-take-le, take-take}
use Rattle.std.proofs.lemmas.List.{take_all, length-map, length-replicate}
use Rattle.yasir_ticks.specs.Bursts.{Burst}
use Rattle.yasir_ticks.specs.declared.tick.Tick.TheVariants.{Silent, Byte}

-- ---- the answer is as long as the run

answered-long : (n : ℕ) (x : List ℕ) → 0 < n → length x ≡ n → length (answered n x) ≡ n
answered-long n [] some long = absurd (omega arith)
answered-long n (b ∷ x) some long = length-map (b ∷ x) (λ c. Byte c) ∙ long

answered-silent : (n : ℕ) (x : List ℕ) → x ≡ [] → length (answered n x) ≡ n
answered-silent n x none = ap (λ y. length (answered n y)) none ∙ length-replicate n Silent

-- If one tick is answered, the answer is that tick.
pub answered-one : (n : ℕ) (x : List ℕ) → n ≡ 1 → length (answered n x) ≡ n
    → answered n x ≡ tick_of 0 x 0 ∷ []
answered-one n [] one long = ap (λ k. answered k []) one
answered-one n (b ∷ []) one long = refl
answered-one n (b ∷ d ∷ x) one long = absurd (omega arith)

-- ---- parts of the room of a frame

none-between : (n : ℕ) (room : List ℕ) → take (n - n) (drop n room) ≡ []
none-between n room =
    let none : n - n ≡ 0 = omega arith in ap (λ k. take k (drop n room)) none

some-between : (sent n size : ℕ) (room : List ℕ) → sent + n ≤ size
    → take (sent + n - sent) (drop sent room) ≡ take n (drop sent (take size room))
some-between sent n size room within =
    let count : sent + n - sent ≡ n = omega arith in
    let whole : size ≡ sent + (size - sent) = omega arith in
    let few : n ≤ size - sent = omega arith in
    ap (λ k. take k (drop sent room)) count
    ∙ (sym (take-take n (size - sent) (drop sent room) few)
    ∙ ap (take n) (sym (ap (λ k. drop sent (take k room)) whole
    ∙ drop-take sent (size - sent) room)))

-- Up to n bytes at the front of the room are the first n bytes of its frame, or all of them if the
-- frame is shorter.
front-between : (n size : ℕ) (room : List ℕ) → size ≤ length room
    → take (min n size - 0) (drop 0 room) ≡ take n (take size room)
front-between n size room fits =
    let count : min n size - 0 ≡ min n size = omega arith in
    let few : min n size ≤ size = grind arith in
    let long : length (take size room) ≡ size = length-take-le size room fits in
    ap (λ k. take k room) count
    ∙ (sym (take-take (min n size) size room few)
    ∙ ⊎_elim
    (λ more. let same : min n size ≡ size = grind arith in
    ap (λ k. take k (take size room)) same
    ∙ (take_all size (take size room) (omega arith)
    ∙ sym (take_all n (take size room) (omega arith))))
    (λ within. let same : min n size ≡ n = grind arith in
    ap (λ k. take k (take size room)) same)
    (cases_lt size n))

front-behind : (n size : ℕ) (room : List ℕ) → size ≤ length room
    → drop n (take size room) ≡ drop (min n size) (take size room)
front-behind n size room fits =
    let long : length (take size room) ≡ size = length-take-le size room fits in
    ⊎_elim
    (λ more. let same : min n size ≡ size = grind arith in
    drop_all n (take size room) (omega arith)
    ∙ (sym (drop_all size (take size room) (omega arith))
    ∙ ap (λ k. drop k (take size room)) (sym same)))
    (λ within. let same : min n size ≡ n = grind arith in
    ap (λ k. drop k (take size room)) (sym same))
    (cases_lt size n)

-- ---- a run

module _ (gap m : ℕ) (accepted : List Burst) (ready : Bool) (size sent pause n : ℕ)
    (room : List ℕ) (queued : List (List ℕ)) (some : 0 < n) (fits : size ≤ length room)
    (has : HasSent gap m accepted (unsent_of ready sent (take size room)) pause
    (with_next ready (take size room) queued)) where
  abbrev frame : List ℕ
  frame = take size room

  begun : ready ≡ false → HasSent gap m accepted (drop sent frame) pause queued
  begun is = subst (λ r. HasSent gap m accepted (unsent_of r sent frame) pause
      (with_next r frame queued)) is has

  waits : ready ≡ true → HasSent gap m accepted [] pause (frame ∷ queued)
  waits is = subst (λ r. HasSent gap m accepted (unsent_of r sent frame) pause
      (with_next r frame queued)) is has

  -- Bytes of the frame that has begun leave.
  pub bytes-go-on : ready ≡ false → sent + n ≤ size
      → SendsRun gap m accepted (unsent_of ready (sent + n) frame) pause
      (with_next ready frame queued) (answered n (take (sent + n - sent) (drop sent room)))
  bytes-go-on is within =
      let long : length frame ≡ size = length-take-le size room fits in
      let count = length-drop sent frame in
      subst (λ r. SendsRun gap m accepted (unsent_of r (sent + n) frame) pause
      (with_next r frame queued) (answered n (take (sent + n - sent) (drop sent room)))) (sym is)
      (subst (λ x. SendsRun gap m accepted (drop (sent + n) frame) pause queued (answered n x))
      (sym (some-between sent n size room within))
      (subst (λ x. SendsRun gap m accepted x pause queued (answered n (take n (drop sent frame))))
      (drop-drop n sent frame)
      (bytes-leave gap m accepted n (drop sent frame) pause queued some (omega arith) (begun is))))

  -- Silence leaves after the frame, or if no frame waits.
  pub rest-goes-on : ready ≡ false → size ≤ sent → (0 < pause → n ≤ pause)
      → (pause ≤ 0 → queued ≡ [])
      → SendsRun gap m accepted (unsent_of ready sent frame) (pause - n)
      (with_next ready frame queued) (answered n (take (sent - sent) (drop sent room)))
  rest-goes-on is over quiet idle =
      let long : length frame ≡ size = length-take-le size room fits in
      let none : drop sent frame ≡ [] = drop_all sent frame (omega arith) in
      subst (λ r. SendsRun gap m accepted (unsent_of r sent frame) (pause - n)
      (with_next r frame queued) (answered n (take (sent - sent) (drop sent room)))) (sym is)
      (subst (λ x. SendsRun gap m accepted (drop sent frame) (pause - n) queued (answered n x))
      (sym (none-between sent room))
      (subst (λ x. SendsRun gap m accepted x (pause - n) queued (answered n [])) (sym none)
      (silence-leaves gap m accepted n pause queued some quiet idle
      (subst (λ x. HasSent gap m accepted x pause queued) none (begun is)))))

  -- Silence leaves before the next frame.
  pub next-waits : ready ≡ true → 0 < pause → n ≤ pause
      → SendsRun gap m accepted (unsent_of ready sent frame) (pause - n)
      (with_next ready frame queued) (answered n (take (sent - sent) (drop sent room)))
  next-waits is more quiet =
      subst (λ r. SendsRun gap m accepted (unsent_of r sent frame) (pause - n)
      (with_next r frame queued) (answered n (take (sent - sent) (drop sent room)))) (sym is)
      (subst (λ x. SendsRun gap m accepted [] (pause - n) (frame ∷ queued) (answered n x))
      (sym (none-between sent room))
      (silence-leaves gap m accepted n pause (frame ∷ queued) some (λ _. quiet)
      (λ none. absurd (omega arith)) (waits is)))

  -- The first bytes of the next frame leave.
  next-begins : ready ≡ true → pause ≤ 0 → n ≤ max size 1
      → SendsRun gap m accepted (drop (min n size) frame) (rest_behind gap frame) queued
      (answered n (take (min n size - 0) (drop 0 room)))
  next-begins is done within =
      let long : length frame ≡ size = length-take-le size room fits in
      let none : pause ≡ 0 = omega arith in
      subst (λ x. SendsRun gap m accepted (drop (min n size) frame) (rest_behind gap frame) queued
      (answered n x)) (sym (front-between n size room fits))
      (subst (λ x. SendsRun gap m accepted x (rest_behind gap frame) queued
      (answered n (take n frame))) (front-behind n size room fits)
      (frame-leaves gap m accepted n frame queued some
      (subst (λ k. n ≤ max k 1) (sym long) within)
      (subst (λ k. HasSent gap m accepted [] k (frame ∷ queued)) none (waits is))))

  rest-some : (x : List ℕ) → 0 < length x → rest_behind gap x ≡ gap
  rest-some [] some = absurd (omega arith)
  rest-some (b ∷ x) some = refl

  rest-none : (x : List ℕ) → length x ≤ 0 → rest_behind gap x ≡ gap - 1
  rest-none [] none = refl
  rest-none (b ∷ x) none = absurd (omega arith)

  pub some-begin : ready ≡ true → pause ≤ 0 → n ≤ max size 1 → 0 < size → (k : ℕ) → k ≡ min n size
      → SendsRun gap m accepted (drop k frame) gap queued (answered n (take (k - 0) (drop 0 room)))
  some-begin is done within there k sum =
      let long : length frame ≡ size = length-take-le size room fits in
      subst (λ x. SendsRun gap m accepted (drop x frame) gap queued
      (answered n (take (x - 0) (drop 0 room)))) (sym sum)
      (subst (λ x. SendsRun gap m accepted (drop (min n size) frame) x queued
      (answered n (take (min n size - 0) (drop 0 room)))) (rest-some frame (omega arith))
      (next-begins is done within))

  pub none-begin : ready ≡ true → pause ≤ 0 → n ≤ max size 1 → size ≤ 0 → (k : ℕ) → k ≡ min n size
      → SendsRun gap m accepted (drop k frame) (gap - 1) queued
      (answered n (take (k - 0) (drop 0 room)))
  none-begin is done within there k sum =
      let long : length frame ≡ size = length-take-le size room fits in
      subst (λ x. SendsRun gap m accepted (drop x frame) (gap - 1) queued
      (answered n (take (x - 0) (drop 0 room)))) (sym sum)
      (subst (λ x. SendsRun gap m accepted (drop (min n size) frame) x queued
      (answered n (take (min n size - 0) (drop 0 room)))) (rest-none frame (omega arith))
      (next-begins is done within))

-- As many ticks leave as the run has.
module _ (size sent n : ℕ) (room : List ℕ) (some : 0 < n) (fits : size ≤ length room) where
  pub bytes-long : sent + n ≤ size
      → length (answered n (take (sent + n - sent) (drop sent room))) ≡ n
  bytes-long within =
      let count = length-drop sent room in
      let same : sent + n - sent ≡ n = omega arith in
      answered-long n (take (sent + n - sent) (drop sent room)) some
      (length-take-le (sent + n - sent) (drop sent room) (omega arith) ∙ same)

  pub silence-long : length (answered n (take (sent - sent) (drop sent room))) ≡ n
  silence-long = answered-silent n (take (sent - sent) (drop sent room)) (none-between sent room)

  pub some-long : n ≤ max size 1 → 0 < size → (k : ℕ) → k ≡ min n size
      → length (answered n (take (k - 0) (drop 0 room))) ≡ n
  some-long within there k sum =
      let same : k - 0 ≡ n = grind (arith, sum) in
      answered-long n (take (k - 0) (drop 0 room)) some
      (length-take-le (k - 0) (drop 0 room) (grind arith) ∙ same)

  pub none-long : n ≤ max size 1 → size ≤ 0 → (k : ℕ) → k ≡ min n size
      → length (answered n (take (k - 0) (drop 0 room))) ≡ n
  none-long within there k sum =
      let same : k - 0 ≡ 0 = grind (arith, sum) in
      answered-silent n (take (k - 0) (drop 0 room)) (ap (λ x. take x (drop 0 room)) same)
