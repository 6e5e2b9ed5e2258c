-- What a spacer does in a tick: it goes on with the frame that has begun, rests after it, has
-- nothing to send, or begins with the next frame.
use Rattle.frame_ending.proofs.Emissions.{tick_at-none, tick_at-front, tick_at-before, tick_at-from}
use Rattle.frame_ending.specs.Laid.{tick_at}
use Rattle.line_spacer.specs.Spacing.{count_from, free_from, sent_from}
use Rattle.line_spacer.specs.Stands.{tick_of, HaveBegun, AreDue, HasSent, Sends, rest_behind}
use Rattle.std.proofs.Common.{◌≡◌, ◌∙◌, ℕ, suc, ◌+◌, ◌-◌, ◌<◌, ◌≤◌, List, [], ◌∷◌, ◌++◌, length}
use Rattle.std.proofs.Common.{map, drop, max, refl, sym, ap, subst, arith, append_assoc, get_or}
use Rattle.std.proofs.Common.{nat_le, nat_lt, ◌&&◌, true, false}
use Rattle.std.proofs.lemmas.List.{append-nil, map-append, length-map, Elements.filter-append}
use Rattle.{std.specs.List.filter, yasir_ticks.specs.Bursts.Burst, yasir_ticks.specs.Bursts.end_of}
use Rattle.yasir_ticks.specs.declared.tick.Tick.{Tick, TheVariants.Silent, TheVariants.Byte}

abbrev pub on_line : List ℕ → List Tick
on_line x = map (λ b. Byte b) x

-- ---- bursts that are due

-- Before tick n, bursts that are due from tick n on are silent.
pub due-silent : (gap n : ℕ) (ds : List Burst) (i : ℕ) → AreDue gap n ds → i < n
    → tick_at ds i ≡ Silent
due-silent gap n [] i due before = tick_at-none i
due-silent gap n (d ∷ ds) i due before =
    let start : d.start ≡ n = due.0 in
    let early : i < d.start = omega arith in
    let later : i < end_of d + gap = omega arith in
    tick_at-front (d ∷ []) ds [] i
    (due-silent gap (end_of d + gap) ds i due.1 later ∙ sym (tick_at-none i))
    ∙ tick_at-before d i early

-- So before tick n they hide nothing of the bursts in front of them.
pub due-hidden : (gap n : ℕ) (front ds : List Burst) (i : ℕ) → AreDue gap n ds → i < n
    → tick_at (front ++ ds) i ≡ tick_at front i
due-hidden gap n front ds i due before =
    tick_at-front front ds [] i (due-silent gap n ds i due before ∙ sym (tick_at-none i))
    ∙ ap (λ x. tick_at x i) (append-nil front)

-- ---- bursts that have begun

begun-later : (m n k l : ℕ) (ds : List Burst) → m ≤ k → n ≤ l → HaveBegun m n ds → HaveBegun k l ds
begun-later m n k l [] more longer begun = tt
begun-later m n k l (d ∷ ds) more longer begun =
    let start : d.start < m = begun.0 in
    let end : end_of d ≤ n = begun.1 in
    (omega arith, omega arith, begun-later m n k l ds more longer begun.2)

begun-append : (m n : ℕ) (ds es : List Burst) → HaveBegun m n ds → HaveBegun m n es
    → HaveBegun m n (ds ++ es)
begun-append m n [] es first second = second
begun-append m n (d ∷ ds) es first second =
    (first.0, first.1, begun-append m n ds es first.2 second)

past-end : (a b i : ℕ) → b ≤ i → (nat_le a i && nat_lt i b) ≡ false
past-end a b i past = grind arith

behind-one : (d : Burst) (ds : List Burst) (i : ℕ) → end_of d ≤ i → tick_at (d ∷ ds) i
    ≡ tick_at ds i
unfolding tick_at
behind-one d ds i past = rw (past-end d.start (end_of d) i past) refl

-- After the end of bursts that have begun, only those that follow them show.
begun-over : (m n : ℕ) (ds es : List Burst) (i : ℕ) → HaveBegun m n ds → n ≤ i
    → tick_at (ds ++ es) i ≡ tick_at es i
begun-over m n [] es i begun over = refl
begun-over m n (d ∷ ds) es i begun over =
    let end : end_of d ≤ n = begun.1 in
    let past : end_of d ≤ i = omega arith in
    behind-one d (ds ++ es) i past ∙ begun-over m n ds es i begun.2 over

-- ---- when the next frame may begin

pub free_from-append : (gap n : ℕ) (ds es : List Burst)
    → free_from gap n (ds ++ es) ≡ free_from gap (free_from gap n ds) es
free_from-append gap n [] es = refl
free_from-append gap n (d ∷ ds) es = free_from-append gap (end_of d + gap) ds es

pub due-grows : (gap n : ℕ) (ds : List Burst) → AreDue gap n ds → n ≤ free_from gap n ds
due-grows gap n [] due = omega arith
due-grows gap n (d ∷ ds) due =
    let start : d.start ≡ n = due.0 in
    let more = due-grows gap (end_of d + gap) ds due.1 in
    omega arith

due-append : (gap n : ℕ) (ds : List Burst) (e : Burst) → AreDue gap n ds
    → e.start ≡ free_from gap n ds → AreDue gap n (ds ++ e ∷ [])
due-append gap n [] e due start = (start, tt)
due-append gap n (d ∷ ds) e due start = (due.0, due-append gap (end_of d + gap) ds e due.1 start)

-- ---- a tick

module _ (gap m : ℕ) (accepted : List Burst) where
  -- A byte of the frame that has begun leaves.
  pub byte-sent : (b : ℕ) (more : List ℕ) (pause : ℕ) (queued : List (List ℕ))
      → HasSent gap m accepted (b ∷ more) pause queued
      → Sends gap m accepted more pause queued (Byte b)
  byte-sent b more pause queued has =
      let from : m ≤ m = omega arith in
      let here : m - m ≡ 0 = omega arith in
      let free = has.free in
      let late : m < m + length (b ∷ more) + pause = omega arith in
      let due : AreDue gap (m + length (b ∷ more) + pause) has.waiting = has.due in
      let same : m + length (b ∷ more) + pause ≡ m + 1 + length more + pause = omega arith in
      record {
        leaves = ap (λ x. tick_at x m) has.is
            ∙ (due-hidden gap (m + length (b ∷ more) + pause) has.begun has.waiting m due late
            ∙ (has.sends m from ∙ ap (λ k. get_or (on_line (b ∷ more)) k Silent) here));
        sent = record {
          wide = has.wide;
          begun = has.begun;
          waiting = has.waiting;
          is = has.is;
          have_begun = begun-later m (m + length (b ∷ more)) (m + 1) (m + 1 + length more) has.begun
              (omega arith) (omega arith) has.have_begun;
          sends = λ i past.
              let before : m ≤ i = omega arith in
              let next : i - m ≡ suc (i - (m + 1)) = omega arith in
              has.sends i before ∙ ap (λ k. get_or (on_line (b ∷ more)) k Silent) next;
          free = omega arith;
          due = subst (λ k. AreDue gap k has.waiting) same due;
          queue = has.queue;
        };
      }

  -- A silent tick after the frame passes.
  pub rest-passes : (pause : ℕ) (queued : List (List ℕ)) → HasSent gap m accepted []
      (suc pause) queued
      → Sends gap m accepted [] pause queued Silent
  rest-passes pause queued has =
      let from : m ≤ m = omega arith in
      let free = has.free in
      let late : m < m + 0 + suc pause = omega arith in
      let due : AreDue gap (m + 0 + suc pause) has.waiting = has.due in
      let same : m + 0 + suc pause ≡ m + 1 + 0 + pause = omega arith in
      record {
        leaves = ap (λ x. tick_at x m) has.is
            ∙ (due-hidden gap (m + 0 + suc pause) has.begun has.waiting m due late
            ∙ has.sends m from);
        sent = record {
          wide = has.wide;
          begun = has.begun;
          waiting = has.waiting;
          is = has.is;
          have_begun = begun-later m (m + 0) (m + 1) (m + 1 + 0) has.begun
              (omega arith) (omega arith) has.have_begun;
          sends = λ i past. let before : m ≤ i = omega arith in has.sends i before;
          free = omega arith;
          due = subst (λ k. AreDue gap k has.waiting) same due;
          queue = has.queue;
        };
      }

  none-waits : (ds : List Burst) → map (λ d. d.body) ds ≡ [] → ds ≡ []
  none-waits [] none = refl
  none-waits (d ∷ ds) none = cc

  -- Nothing is to be sent, and silence leaves.
  pub nothing-sent : HasSent gap m accepted [] 0 [] → Sends gap m accepted [] 0 [] Silent
  nothing-sent has =
      let from : m ≤ m = omega arith in
      let free = has.free in
      let none : has.waiting ≡ [] = none-waits has.waiting has.queue in
      record {
        leaves = ap (λ x. tick_at x m) has.is
            ∙ (ap (λ x. tick_at (has.begun ++ x) m) none
            ∙ (ap (λ x. tick_at x m) (append-nil has.begun) ∙ has.sends m from));
        sent = record {
          wide = has.wide;
          begun = has.begun;
          waiting = has.waiting;
          is = has.is;
          have_begun = begun-later m (m + 0) (m + 1) (m + 1 + 0) has.begun
              (omega arith) (omega arith) has.have_begun;
          sends = λ i past. let before : m ≤ i = omega arith in has.sends i before;
          free = omega arith;
          due = subst (λ x. AreDue gap (m + 1 + 0 + 0) x) (sym none) tt;
          queue = has.queue;
        };
      }

  -- The next frame begins.
  module _ (frame : List ℕ) (queued : List (List ℕ)) (d : Burst) (ds begun : List Burst)
      (wide : 0 < gap) (is : accepted ≡ begun ++ (d ∷ ds)) (have_begun : HaveBegun m (m + 0) begun)
      (due : AreDue gap (m + 0 + 0) (d ∷ ds))
      (queue : map (λ e. e.body) (d ∷ ds) ≡ map on_line (frame ∷ queued)) where
    start : d.start ≡ m
    start = let at : d.start ≡ m + 0 + 0 = due.0 in omega arith

    body : d.body ≡ on_line frame
    body = cc

    others : map (λ e. e.body) ds ≡ map on_line queued
    others = cc

    -- A frame and its gap take one tick for the first byte, one for each other byte, and the
    -- silence after it.
    counts : (x : List ℕ) → length x + gap ≡ 1 + (length (drop 1 x) + rest_behind gap x)
    counts [] = omega arith
    counts (b ∷ x) = omega arith

    one-less : (x : List ℕ) → length x ≤ 1 + length (drop 1 x)
    one-less [] = omega arith
    one-less (b ∷ x) = omega arith

    first : (x : List ℕ) → d.body ≡ on_line x → tick_at (d ∷ ds) m ≡ tick_of 0 x 0
    first [] at =
        let none : length d.body ≡ 0 = ap length at in
        let past : end_of d ≤ m = omega arith in
        let late : m < end_of d + gap = omega arith in
        behind-one d ds m past ∙ due-silent gap (end_of d + gap) ds m due.1 late
    first (b ∷ x) at =
        let some : length d.body ≡ suc (length (on_line x)) = ap length at in
        let late : m < end_of d + gap = omega arith in
        let from : d.start ≤ m = omega arith in
        let here : m - d.start ≡ 0 = omega arith in
        due-hidden gap (end_of d + gap) (d ∷ []) ds m due.1 late
        ∙ (tick_at-from d m from
        ∙ (ap (λ k. get_or d.body k Silent) here ∙ ap (λ y. get_or y 0 Silent) at))

    behind : (x : List ℕ) (i : ℕ) → m + 1 ≤ i
        → get_or (on_line x) (i - m) Silent ≡ tick_of (m + 1) (drop 1 x) i
    behind [] i past = refl
    behind (b ∷ x) i past =
        let next : i - m ≡ suc (i - (m + 1)) = omega arith in
        ap (λ k. get_or (on_line (b ∷ x)) k Silent) next

    begins : Sends gap m accepted (drop 1 frame) (rest_behind gap frame) queued
        (tick_of 0 frame 0)
    begins =
        let from : m ≤ m = omega arith in
        let long : length d.body ≡ length frame = ap length body ∙ length-map frame (λ b. Byte b) in
        let count = counts frame in
        let few = one-less frame in
        let at = start in
        let end : end_of d ≤ m + 1 + length (drop 1 frame) = omega arith in
        let over : m + 0 ≤ m = omega arith in
        let same : end_of d + gap
        ≡ m + 1 + length (drop 1 frame) + rest_behind gap frame = omega arith in
        let free : free_from gap 0 (begun ++ d ∷ []) ≡ end_of d + gap =
        free_from-append gap 0 begun (d ∷ []) in
        record {
          leaves = ap (λ x. tick_at x m) is
              ∙ (begun-over m (m + 0) begun (d ∷ ds) m have_begun over ∙ first frame body);
          sent = record {
            wide = wide;
            begun = begun ++ d ∷ [];
            waiting = ds;
            is = is ∙ sym (append_assoc begun (d ∷ []) ds);
            have_begun = begun-append (m + 1) (m + 1 + length (drop 1 frame)) begun (d ∷ [])
                (begun-later m (m + 0) (m + 1) (m + 1 + length (drop 1 frame)) begun
                (omega arith) (omega arith) have_begun)
                (omega arith, end, tt);
            sends = λ i past.
                let later : m + 0 ≤ i = omega arith in
                let after : d.start ≤ i = omega arith in
                let place : i - d.start ≡ i - m = omega arith in
                begun-over m (m + 0) begun (d ∷ []) i have_begun later
                ∙ (tick_at-from d i after
                ∙ (ap (λ k. get_or d.body k Silent) place
                ∙ (ap (λ y. get_or y (i - m) Silent) body ∙ behind frame i past)));
            free = omega arith;
            due = subst (λ k. AreDue gap k ds) same due.1;
            queue = others;
          };
        }

  begins-with : (frame : List ℕ) (queued : List (List ℕ)) (waiting begun : List Burst) → 0 < gap
      → accepted ≡ begun ++ waiting → HaveBegun m (m + 0) begun → AreDue gap (m + 0 + 0) waiting
      → map (λ e. e.body) waiting ≡ map on_line (frame ∷ queued)
      → Sends gap m accepted (drop 1 frame) (rest_behind gap frame) queued (tick_of 0 frame 0)
  begins-with frame queued [] begun wide is have_begun due queue = cc
  begins-with frame queued (d ∷ ds) begun wide is have_begun due queue =
      begins frame queued d ds begun wide is have_begun due queue

  -- the next frame begins
  pub frame-begins : (frame : List ℕ) (queued : List (List ℕ))
      → HasSent gap m accepted [] 0 (frame ∷ queued)
      → Sends gap m accepted (drop 1 frame) (rest_behind gap frame) queued (tick_of 0 frame 0)
  frame-begins frame queued has =
      begins-with frame queued has.waiting has.begun has.wide has.is has.have_begun has.due
      has.queue

-- ---- a frame that is read

module _ (gap m : ℕ) (accepted : List Burst) (unsent : List ℕ) (pause : ℕ)
    (queued : List (List ℕ)) where
  -- when a frame that is read may begin, after all that are accepted
  pub earliest : (begun waiting : List Burst) → free_from gap 0 begun - m ≡ length unsent + pause
      → AreDue gap (m + length unsent + pause) waiting
      → max m (free_from gap 0 (begun ++ waiting))
      ≡ free_from gap (m + length unsent + pause) waiting
  earliest begun [] free due =
      ap (λ x. max m (free_from gap 0 x)) (append-nil begun) ∙ grind arith
  earliest begun (d ∷ ds) free due =
      let start : d.start ≡ m + length unsent + pause = due.0 in
      let more = due-grows gap (end_of d + gap) ds due.1 in
      ap (λ n. max m n) (free_from-append gap 0 begun (d ∷ ds))
      ∙ omega arith

  -- The frame waits behind the others.
  pub frame-waits : (frame : List ℕ) → HasSent gap m accepted unsent pause queued
      → HasSent gap m
      (accepted ++ sent_from (max m (free_from gap 0 accepted)) frame ∷ []) unsent pause
      (queued ++ frame ∷ [])
  frame-waits frame has =
      let at : ℕ = max m (free_from gap 0 accepted) in
      let d : Burst = sent_from at frame in
      let due : AreDue gap (m + length unsent + pause) has.waiting = has.due in
      record {
        wide = has.wide;
        begun = has.begun;
        waiting = has.waiting ++ d ∷ [];
        is = ap (λ x. x ++ d ∷ []) has.is ∙ append_assoc has.begun has.waiting (d ∷ []);
        have_begun = has.have_begun;
        sends = has.sends;
        free = has.free;
        due = due-append gap (m + length unsent + pause) has.waiting d due
            (ap (λ x. max m (free_from gap 0 x)) has.is
            ∙ earliest has.begun has.waiting has.free due);
        queue = map-append (λ e. e.body) has.waiting (d ∷ [])
            ∙ (ap (λ x. x ++ on_line frame ∷ []) has.queue
            ∙ sym (map-append on_line queued (frame ∷ [])));
      }

  none-from : (n : ℕ) (ds : List Burst) → HaveBegun m n ds → filter (λ d. nat_le m d.start) ds ≡ []
  none-from n [] begun = refl
  none-from n (d ∷ ds) begun =
      let before : d.start < m = begun.0 in
      let no : nat_le m d.start ≡ false = grind arith in
      rw no (none-from n ds begun.2)

  all-from : (n : ℕ) (ds : List Burst) → m ≤ n → AreDue gap n ds
      → filter (λ d. nat_le m d.start) ds ≡ ds
  all-from n [] from due = refl
  all-from n (d ∷ ds) from due =
      let start : d.start ≡ n = due.0 in
      let later : m ≤ end_of d + gap = omega arith in
      let yes : nat_le m d.start ≡ true = grind arith in
      rw yes (ap (λ x. d ∷ x) (all-from (end_of d + gap) ds later due.1))

  -- As many accepted frames wait as are queued.
  pub waiting-count : HasSent gap m accepted unsent pause queued → count_from m accepted
      ≡ length queued
  waiting-count has =
      let from : m ≤ m + length unsent + pause = omega arith in
      ap (λ x. length (filter (λ d. nat_le m d.start) x)) has.is
      ∙ (ap length (filter-append (λ d. nat_le m d.start) has.begun has.waiting)
      ∙ (ap (λ x. length (x ++ filter (λ d. nat_le m d.start) has.waiting))
      (none-from (m + length unsent) has.begun has.have_begun)
      ∙ (ap length (all-from (m + length unsent + pause) has.waiting from has.due)
      ∙ (sym (length-map has.waiting (λ d. d.body))
      ∙ (ap length has.queue ∙ length-map queued on_line)))))
