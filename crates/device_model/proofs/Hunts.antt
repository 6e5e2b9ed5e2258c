-- The hunt: what it does with bytes that are taken together, and with too few bytes.
use Rattle.device_model.proofs.Heads.{good-long, bad-long, short-short, header-more, head-more}
use Rattle.device_model.specs.Frames.{FrameRead}
use Rattle.device_model.specs.Hunt.{Timed, timed_bytes, header_hunted, taken_by, frame_hunted, found_by}
use Rattle.device_model.specs.Hunt.{begins, bytes_taken, found, passed_over, hunt}
use Rattle.line_rules.specs.{Rules.Rules, Rules.head_of, declared.head.Head.Head}
use Rattle.line_rules.specs.declared.head.Head.TheVariants.{Short, Good, Bad}
use Rattle.std.proofs.Common.{◌≡◌, ◌∙◌, ℕ, zero, suc, ◌-◌, ◌<◌, ◌≤◌, nat_le, true, false, ◌&&◌}
use Rattle.std.proofs.Common.{◌==◌, cond, List, [], ◌∷◌, ◌++◌, length, take, drop, refl, sym, ap}
use Rattle.std.proofs.Common.{arith, length-append}
use Rattle.std.proofs.lemmas.Bool.{cond-true, cond-false, le-leb, lt-leb, and_left, and_right}
use Rattle.std.proofs.lemmas.{Bool.ne_eqb, List.map-append}
use Rattle.std.proofs.lemmas.List.{length-map, take-append-le, length-take-le, take-append-drop}

pub timed_bytes-append : (x z : List Timed)
    → timed_bytes (x ++ z) ≡ timed_bytes x ++ timed_bytes z
timed_bytes-append x z = map-append (λ (t : Timed). t.byte) x z

pub timed_bytes-length : (x : List Timed) → length (timed_bytes x) ≡ length x
timed_bytes-length x = length-map x (λ (t : Timed). t.byte)

module _ (first second : ℕ) where
  -- If a header begins with some bytes, it does so whatever follows.
  pub begins-more : (x z : List ℕ) → begins first second x ≡ true
      → begins first second (x ++ z) ≡ true
  begins-more [] z is = cc
  begins-more (a ∷ []) z is = cc
  begins-more (a ∷ b ∷ x) z is = is

  -- Whether a header begins depends only on the first two bytes.
  pub begins-front : (x z : List ℕ) → 2 ≤ length x → begins first second (x ++ z) ≡ true
      → begins first second x ≡ true
  begins-front [] z long is = absurd (omega arith)
  begins-front (a ∷ []) z long is = absurd (omega arith)
  begins-front (a ∷ b ∷ x) z long is = is

  pub begins-two : (x : List ℕ) → begins first second x ≡ true → 2 ≤ length x
  begins-two [] is = cc
  begins-two (a ∷ []) is = cc
  begins-two (a ∷ b ∷ x) is = omega arith

  -- No header begins with another byte than the first one, or if another byte than the second one
  -- follows.
  pub begins-other : (a : ℕ) (x : List ℕ) → (a ≡ first → ⊥) → begins first second (a ∷ x) ≡ false
  begins-other a [] other = refl
  begins-other a (b ∷ x) other = and_left (a == first) (b == second) (ne_eqb a first other)

  pub begins-before : (a b : ℕ) (x : List ℕ) → (b ≡ second → ⊥)
      → begins first second (a ∷ b ∷ x) ≡ false
  begins-before a b x other = and_right (a == first) (b == second) (ne_eqb b second other)

module _ (first second : ℕ) (rules : Rules) where
  abbrev hunts : ℕ → List Timed → List FrameRead
  hunts k x = hunt first second rules k x

  pub hunt-none : (k : ℕ) → hunts k [] ≡ []
  unfolding hunt
  hunt-none k = refl

  hunt-over : (k : ℕ) (t : Timed) (x : List Timed) → hunts (suc k) (t ∷ x) ≡ hunts k x
  unfolding hunt
  hunt-over k t x = refl

  hunt-here : (t : Timed) (x : List Timed) → hunts 0 (t ∷ x)
      ≡ found first second rules t.tick (timed_bytes (t ∷ x))
      ++ hunts (passed_over first second rules (timed_bytes (t ∷ x))) x
  unfolding hunt
  hunt-here t x = refl

  -- The first `k` bytes are passed over.
  pub hunt-drop : (k : ℕ) (x z : List Timed) → length x ≡ k → hunts k (x ++ z) ≡ hunts 0 z
  hunt-drop k [] z is = ap (λ n. hunts n z) (sym is)
  hunt-drop zero (t ∷ x) z is = absurd (omega arith)
  hunt-drop (suc k) (t ∷ x) z is =
      let less : length x ≡ k = omega arith in hunt-over k t (x ++ z) ∙ hunt-drop k x z less

  pub hunt-all : (k : ℕ) (x : List Timed) → length x ≤ k → hunts k x ≡ []
  hunt-all k [] few = hunt-none k
  hunt-all zero (t ∷ x) few = absurd (omega arith)
  hunt-all (suc k) (t ∷ x) few =
      let less : length x ≤ k = omega arith in hunt-over k t x ∙ hunt-all k x less

  -- If no header begins, one byte is dropped.
  pub hunt-no_start : (t : Timed) (x : List Timed)
      → begins first second (timed_bytes (t ∷ x)) ≡ false → hunts 0 (t ∷ x) ≡ hunts 0 x
  hunt-no_start t x none =
      hunt-here t x
      ∙ (ap (λ f. f ++ hunts (passed_over first second rules (timed_bytes (t ∷ x))) x)
      (cond-false _ _ _ none)
      ∙ ap (λ n. hunts (n - 1) x) (cond-false _ _ _ none))

  -- ---- if a header begins

  pub taken-is : (head : Head) (x : List ℕ) → begins first second x ≡ true
      → head_of rules x ≡ head → bytes_taken first second rules x ≡ taken_by rules head x
  taken-is head x starts is = cond-true _ _ _ starts ∙ ap (λ h. taken_by rules h x) is

  pub found-is : (head : Head) (start : ℕ) (x : List ℕ) → begins first second x ≡ true
      → head_of rules x ≡ head
      → found first second rules start x ≡ found_by rules head start x
  found-is head start x starts is =
      cond-true _ _ _ starts ∙ ap (λ h. found_by rules h start x) is

  -- Fewer bytes than a frame has give no frame.
  frame_of-few : (start n : ℕ) (x : List ℕ) → length x < n → frame_hunted rules start n x ≡ []
  frame_of-few start n x few =
      cond-false _ _ _ (and_left (nat_le n (length x)) (rules.is_frame (take n x))
      (lt-leb n (length x) few))

  found_by-few : (head : Head) (start : ℕ) (x : List ℕ) → length x < taken_by rules head x
      → found_by rules head start x ≡ []
  found_by-few Good start x few = frame_of-few start (rules.size (header_hunted rules x)) x few
  found_by-few Short start x few = refl
  found_by-few Bad start x few = refl

  -- As long as fewer bytes have come than are taken, nothing is read.
  pub hunt-few : (x : List Timed) → begins first second (timed_bytes x) ≡ true
      → length x < bytes_taken first second rules (timed_bytes x) → hunts 0 x ≡ []
  hunt-few [] starts few = hunt-none 0
  hunt-few (t ∷ x) starts few =
      let bytes : List ℕ = timed_bytes (t ∷ x) in
      let head : Head = head_of rules bytes in
      let n : ℕ = bytes_taken first second rules bytes in
      let is : n ≡ taken_by rules head bytes = taken-is head bytes starts refl in
      let long : length bytes ≡ length (t ∷ x) = timed_bytes-length (t ∷ x) in
      let none : found first second rules t.tick bytes ≡ [] =
      found-is head t.tick bytes starts refl ∙ found_by-few head t.tick bytes (omega arith) in
      let rest : length x ≤ n - 1 = omega arith in
      hunt-here t x
      ∙ (ap (λ f. f ++ hunts (n - 1) x) none ∙ hunt-all (n - 1) x rest)

  -- ---- bytes that are taken

  hunt-skip : (n : ℕ) (x : List Timed) → n ≤ length x → hunts n x ≡ hunts 0 (drop n x)
  hunt-skip n x fits =
      ap (λ y. hunts n y) (sym (take-append-drop n x))
      ∙ hunt-drop n (take n x) (drop n x) (length-take-le n x fits)

  -- As many bytes are passed over as are taken.
  pub hunt-taken : (t : Timed) (x : List Timed) (n : ℕ)
      → bytes_taken first second rules (timed_bytes (t ∷ x)) ≡ suc n → n ≤ length x
      → hunts 0 (t ∷ x)
      ≡ found first second rules t.tick (timed_bytes (t ∷ x)) ++ hunts 0 (drop n x)
  hunt-taken t x n is fits =
      let over : passed_over first second rules (timed_bytes (t ∷ x)) ≡ n = omega arith in
      hunt-here t x
      ∙ ap (λ y. found first second rules t.tick (timed_bytes (t ∷ x)) ++ y)
      (ap (λ k. hunts k x) over ∙ hunt-skip n x fits)

  -- ---- as many bytes as are taken

  pub taken_by-more : (head : Head) (x z : List ℕ) → rules.header_len ≤ length x
      → taken_by rules head (x ++ z) ≡ taken_by rules head x
  taken_by-more Good x z long = ap rules.size (header-more rules x z long)
  taken_by-more Short x z long = refl
  taken_by-more Bad x z long = refl

  frame_of-more : (start n : ℕ) (x z : List ℕ) → n ≤ length x
      → frame_hunted rules start n (x ++ z) ≡ frame_hunted rules start n x
  frame_of-more start n x z fits =
      let sum = length-append x z in
      let more : n ≤ length (x ++ z) = omega arith in
      let frame : List ℕ → List FrameRead =
      λ y. cond (rules.is_frame y) (let r : FrameRead = record { start = start; frame = y } in
      r ∷ []) [] in
      ap (λ b. cond (b && rules.is_frame (take n (x ++ z)))
      (let r : FrameRead = record { start = start; frame = take n (x ++ z) } in r ∷ []) [])
      (le-leb n (length (x ++ z)) more)
      ∙ (ap frame (take-append-le n x z fits)
      ∙ sym (ap (λ b. cond (b && rules.is_frame (take n x))
      (let r : FrameRead = record { start = start; frame = take n x } in r ∷ []) [])
      (le-leb n (length x) fits)))

  found_by-more : (head : Head) (start : ℕ) (x z : List ℕ) → rules.header_len ≤ length x
      → taken_by rules head x ≤ length x
      → found_by rules head start (x ++ z) ≡ found_by rules head start x
  found_by-more Good start x z long fits =
      ap (λ n. frame_hunted rules start n (x ++ z)) (taken_by-more Good x z long)
      ∙ frame_of-more start (rules.size (header_hunted rules x)) x z fits
  found_by-more Short start x z long fits = refl
  found_by-more Bad start x z long fits = refl

  -- Bytes that are all that is taken have a whole header.
  whole-header : (head : Head) (x : List ℕ) → head_of rules x ≡ head
      → taken_by rules head x ≡ length x → rules.header_len ≤ length x
  whole-header Good x is whole = good-long rules x is
  whole-header Short x is whole =
      let short = short-short rules x is in absurd (omega arith)
  whole-header Bad x is whole = bad-long rules x is

  -- Bytes that are taken together are passed over, and their frame is read.
  pub hunt-whole : (t : Timed) (x z : List Timed)
      → begins first second (timed_bytes (t ∷ x)) ≡ true
      → bytes_taken first second rules (timed_bytes (t ∷ x)) ≡ length (t ∷ x)
      → hunts 0 (t ∷ x ++ z)
      ≡ found first second rules t.tick (timed_bytes (t ∷ x)) ++ hunts 0 z
  hunt-whole t x z starts whole =
      let bytes : List ℕ = timed_bytes (t ∷ x) in
      let more : List ℕ = timed_bytes z in
      let head : Head = head_of rules bytes in
      let long : length bytes ≡ length (t ∷ x) = timed_bytes-length (t ∷ x) in
      let is : taken_by rules head bytes ≡ length bytes =
      sym (taken-is head bytes starts refl) ∙ (whole ∙ sym long) in
      let header = whole-header head bytes refl is in
      let joined : timed_bytes (t ∷ x ++ z) ≡ bytes ++ more = timed_bytes-append (t ∷ x) z in
      let still : begins first second (bytes ++ more) ≡ true =
      begins-more first second bytes more starts in
      let same : head_of rules (bytes ++ more) ≡ head = head-more rules bytes more header in
      let fits : taken_by rules head bytes ≤ length bytes = omega arith in
      let frame : found first second rules t.tick (bytes ++ more)
      ≡ found first second rules t.tick bytes =
      found-is head t.tick (bytes ++ more) still same
      ∙ (found_by-more head t.tick bytes more header fits
      ∙ sym (found-is head t.tick bytes starts refl)) in
      let count : bytes_taken first second rules (bytes ++ more) ≡ length (t ∷ x) =
      taken-is head (bytes ++ more) still same
      ∙ (taken_by-more head bytes more header ∙ (is ∙ long)) in
      let over : bytes_taken first second rules (bytes ++ more) - 1 ≡ length x = omega arith in
      let after : ℕ → List FrameRead = λ n. hunts n (x ++ z) in
      hunt-here t (x ++ z)
      ∙ (ap (λ y. found first second rules t.tick y
      ++ after (passed_over first second rules y)) joined
      ∙ (ap (λ f. f ++ after (passed_over first second rules (bytes ++ more))) frame
      ∙ ap (λ y. found first second rules t.tick bytes ++ y)
      (ap after over ∙ hunt-drop (length x) x z refl)))
