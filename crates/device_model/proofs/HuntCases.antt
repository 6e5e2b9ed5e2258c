-- The hunt by cases, and bytes that are undecided.
use Rattle.device_model.proofs.Heads.{head-short, head-good, head-bad, good-long, good-header}
use Rattle.device_model.proofs.{Heads.short-short, Heads.head-more, Hunts.timed_bytes-length}
use Rattle.device_model.proofs.Hunts.{begins-more, begins-front, hunt-none, hunt-no_start, taken-is}
use Rattle.device_model.proofs.Hunts.{found-is, hunt-few, hunt-taken, taken_by-more}
use Rattle.device_model.specs.{Frames.FrameRead, Hunt.Timed, Hunt.timed_bytes, Hunt.header_hunted}
use Rattle.device_model.specs.Hunt.{taken_by, frame_hunted, found_by, begins, bytes_taken, found, hunt}
use Rattle.device_model.specs.HuntLaws.{IsHunted, whole_frame, HuntsByCases}
use Rattle.device_model.specs.HuntingDevice.{IsUndecided, nothing, first_byte, header_begun}
use Rattle.device_model.specs.HuntingDevice.{frame_at}
use Rattle.line_rules.specs.{Bytes.AreBytes, Rules.Rules, Rules.head_of, RulesLaws.IsLawful}
use Rattle.line_rules.specs.{RulesLaws.IsHeaded, RulesLaws.IsFramed, declared.head.Head.Head}
use Rattle.line_rules.specs.declared.head.Head.TheVariants.{Short, Good, Bad}
use Rattle.std.proofs.Common.{◌≡◌, ◌∙◌, ℕ, zero, suc, ◌<◌, ◌≤◌, true, false, ◌==◌, ◌&&◌, cond, List}
use Rattle.std.proofs.Common.{[], ◌∷◌, ◌++◌, length, take, drop, refl, sym, ap, subst, arith}
use Rattle.std.proofs.{Common.⊎_elim, Common.length-append, lemmas.Bool.cond-false}
use Rattle.std.proofs.lemmas.Bool.{cases_lt, cases_Bool, le-leb, and_parts, eqb-true, false≢true}
use Rattle.std.proofs.lemmas.List.{append-nil, take_all, take-append-drop, length-take-le, take-map}

module _ (first second : ℕ) (rules : Rules) (headed : IsHeaded rules)
    (hunted : IsHunted first second rules) where
  abbrev hunts : List Timed → List FrameRead
  hunts x = hunt first second rules 0 x

  -- ---- headers

  -- A good header begins as each header does.
  pub good-starts : (x : List ℕ) → rules.is_good_header (header_hunted rules x) ≡ true
      → begins first second x ≡ true
  good-starts x good =
      ap (begins first second) (sym (take-append-drop rules.header_len x))
      ∙ begins-more first second (header_hunted rules x) (drop rules.header_len x)
      (hunted.starts (header_hunted rules x) good)

  -- A good header says how many bytes there is room for, and the size of a frame that begins with
  -- it.
  pub good-room : (x : List ℕ) → rules.header_len ≤ length x
      → rules.is_good_header (header_hunted rules x) ≡ true
      → rules.room x ≡ rules.size (header_hunted rules x)
  good-room x long good =
      ap rules.room (sym (take-append-drop rules.header_len x))
      ∙ hunted.says_room (header_hunted rules x) (drop rules.header_len x)
      (length-take-le rules.header_len x long) good

  pub good-size : (x : List ℕ) → rules.header_len ≤ length x
      → rules.is_good_header (header_hunted rules x) ≡ true
      → rules.size x ≡ rules.size (header_hunted rules x)
  good-size x long good =
      ap rules.size (sym (take-append-drop rules.header_len x))
      ∙ hunted.says_size (header_hunted rules x) (drop rules.header_len x)
      (length-take-le rules.header_len x long) good

  -- At least a header is taken, and there is room for what is taken.
  pub taken-header : (head : Head) (x : List ℕ) → head_of rules x ≡ head
      → rules.header_len ≤ taken_by rules head x
  taken-header Good x is =
      let room = good-room x (good-long rules x is) (good-header rules x is) in
      let fits = headed.room_for_header x in
      omega arith
  taken-header Short x is = omega arith
  taken-header Bad x is = omega arith

  pub taken-room : (head : Head) (x : List ℕ) → head_of rules x ≡ head
      → taken_by rules head x ≤ rules.room x
  taken-room Good x is =
      let room = good-room x (good-long rules x is) (good-header rules x is) in omega arith
  taken-room Short x is = headed.room_for_header x
  taken-room Bad x is = headed.room_for_header x

  -- ---- by cases

  few-read : (x : List Timed) → length x < 2 → hunts x ≡ []
  few-read [] few = hunt-none first second rules 0
  few-read (t ∷ []) few =
      hunt-no_start first second rules t [] refl ∙ hunt-none first second rules 0
  few-read (t ∷ u ∷ x) few = absurd (omega arith)

  dropped-one : (x : List Timed) → begins first second (timed_bytes x) ≡ false
      → hunts x ≡ hunts (drop 1 x)
  dropped-one [] none = refl
  dropped-one (t ∷ x) none = hunt-no_start first second rules t x none

  -- Bytes that are taken together are dropped together.
  taken-dropped : (n : ℕ) (t : Timed) (x : List Timed) → 0 < n → n ≤ length (t ∷ x)
      → bytes_taken first second rules (timed_bytes (t ∷ x)) ≡ n
      → hunts (t ∷ x) ≡ found first second rules t.tick (timed_bytes (t ∷ x))
      ++ hunts (drop n (t ∷ x))
  taken-dropped zero t x some fits is = absurd (omega arith)
  taken-dropped (suc n) t x some fits is =
      hunt-taken first second rules t x n is (omega arith)

  header-dropped : (x : List Timed) → begins first second (timed_bytes x) ≡ true
      → rules.header_len ≤ length x
      → rules.is_good_header (header_hunted rules (timed_bytes x)) ≡ false
      → hunts x ≡ hunts (drop rules.header_len x)
  header-dropped [] starts long bad = cc
  header-dropped (t ∷ x) starts long bad =
      let bytes : List ℕ = timed_bytes (t ∷ x) in
      let count = timed_bytes-length (t ∷ x) in
      let within = hunted.start_within in
      let is : head_of rules bytes ≡ Bad = head-bad rules bytes (omega arith) bad in
      taken-dropped rules.header_len t x (omega arith) long
      (taken-is first second rules Bad bytes starts is)
      ∙ ap (λ f. f ++ hunts (drop rules.header_len (t ∷ x)))
      (found-is first second rules Bad t.tick bytes starts is)

  -- If all bytes of a frame have come, it is the frame of these bytes.
  whole-read : (n : ℕ) (t : Timed) (x : List Timed) → 0 < n → n ≤ length (t ∷ x)
      → frame_hunted rules t.tick n (timed_bytes (t ∷ x)) ≡ whole_frame rules (take n (t ∷ x))
  whole-read zero t x some fits = absurd (omega arith)
  whole-read (suc n) t x some fits =
      let bytes : List ℕ = timed_bytes (t ∷ x) in
      let count = timed_bytes-length (t ∷ x) in
      let y : List ℕ = take (suc n) bytes in
      let read : List ℕ → List FrameRead = λ f. cond (rules.is_frame f)
      (let r : FrameRead = record { start = t.tick; frame = f } in r ∷ []) [] in
      ap (λ b. cond (b && rules.is_frame y)
      (let r : FrameRead = record { start = t.tick; frame = y } in r ∷ []) [])
      (le-leb (suc n) (length bytes) (omega arith))
      ∙ ap read (take-map (λ (u : Timed). u.byte) (suc n) (t ∷ x))

  frame-taken : (x : List Timed) → rules.header_len ≤ length x
      → rules.is_good_header (header_hunted rules (timed_bytes x)) ≡ true
      → (n : ℕ) → n ≡ rules.size (header_hunted rules (timed_bytes x)) → n ≤ length x
      → hunts x ≡ whole_frame rules (take n x) ++ hunts (drop n x)
  frame-taken [] long good n size fits =
      let within = hunted.start_within in absurd (omega arith)
  frame-taken (t ∷ x) long good n size fits =
      let bytes : List ℕ = timed_bytes (t ∷ x) in
      let count = timed_bytes-length (t ∷ x) in
      let within = hunted.start_within in
      let header : rules.header_len ≤ length bytes = omega arith in
      let is : head_of rules bytes ≡ Good = head-good rules bytes header good in
      let starts = good-starts bytes good in
      let least = taken-header Good bytes is in
      let some : 0 < n = omega arith in
      taken-dropped n t x some fits (taken-is first second rules Good bytes starts is ∙ sym size)
      ∙ ap (λ f. f ++ hunts (drop n (t ∷ x)))
      (found-is first second rules Good t.tick bytes starts is
      ∙ (ap (λ k. frame_hunted rules t.tick k bytes) (sym size) ∙ whole-read n t x some fits))

  short-read : (x : List Timed) → begins first second (timed_bytes x) ≡ true
      → length x < rules.header_len → hunts x ≡ []
  short-read x starts short =
      let bytes : List ℕ = timed_bytes x in
      let count = timed_bytes-length x in
      let is : head_of rules bytes ≡ Short = head-short rules bytes (omega arith) in
      let taken = taken-is first second rules Short bytes starts is in
      hunt-few first second rules x starts (omega arith)

  cut-read : (x : List Timed) → rules.header_len ≤ length x
      → rules.is_good_header (header_hunted rules (timed_bytes x)) ≡ true
      → length x < rules.size (header_hunted rules (timed_bytes x)) → hunts x ≡ []
  cut-read x long good few =
      let bytes : List ℕ = timed_bytes x in
      let count = timed_bytes-length x in
      let header : rules.header_len ≤ length bytes = omega arith in
      let is : head_of rules bytes ≡ Good = head-good rules bytes header good in
      let starts = good-starts bytes good in
      let taken = taken-is first second rules Good bytes starts is in
      hunt-few first second rules x starts (omega arith)

  pub by_cases : (x : List Timed) → HuntsByCases first second rules x
  by_cases x = record {
    few = few-read x;
    no_start = dropped-one x;
    short_header = short-read x;
    bad_header = header-dropped x;
    cut = cut-read x;
    whole = frame-taken x;
  }

  -- ---- what is undecided

  undecided-quiet : (y : List ℕ) → IsUndecided first second rules y → (x : List Timed)
      → timed_bytes x ≡ y → hunts x ≡ []
  undecided-quiet y nothing [] is = few-read [] (omega arith)
  undecided-quiet y nothing (t ∷ x) is = cc
  undecided-quiet y first_byte [] is = cc
  undecided-quiet y first_byte (t ∷ []) is = few-read (t ∷ []) (omega arith)
  undecided-quiet y first_byte (t ∷ u ∷ x) is = cc
  undecided-quiet y (header_begun z starts few) x is =
      let count = timed_bytes-length x in
      let same : length x ≡ length z = sym count ∙ ap length is in
      hunt-few first second rules x (ap (begins first second) is ∙ starts)
      (let taken = ap (bytes_taken first second rules) is in omega arith)

  -- Nothing is read from bytes that are undecided.
  pub quiet : (x : List Timed) → IsUndecided first second rules (timed_bytes x) → hunts x ≡ []
  quiet x undecided = undecided-quiet (timed_bytes x) undecided x refl

  pub undecided-room : IsLawful rules → (x : List ℕ) → IsUndecided first second rules x
      → length x < rules.room x
  undecided-room lawful x nothing = lawful.some_room
  undecided-room lawful x first_byte =
      let room = headed.room_for_header (first ∷ []) in
      let within = hunted.start_within in
      omega arith
  undecided-room lawful x (header_begun y starts few) =
      let taken = taken-is first second rules (head_of rules y) y starts refl in
      let room = taken-room (head_of rules y) y refl in
      omega arith

  -- ---- how many bytes are taken

  -- If the header isn't whole, as many bytes are taken as a header has.
  pub taken-short : (x : List ℕ) → begins first second x ≡ true → length x < rules.header_len
      → bytes_taken first second rules x ≡ rules.header_len
  taken-short x starts short =
      taken-is first second rules Short x starts (head-short rules x short)

  -- If the header is whole, the bytes after it don't change how many are taken.
  pub taken-long : (x z : List ℕ) → begins first second x ≡ true → rules.header_len ≤ length x
      → bytes_taken first second rules (x ++ z) ≡ bytes_taken first second rules x
  taken-long x z starts long =
      taken-is first second rules (head_of rules x) (x ++ z) (begins-more first second x z starts)
      (head-more rules x z long)
      ∙ (taken_by-more first second rules (head_of rules x) x z long
      ∙ sym (taken-is first second rules (head_of rules x) x starts refl))

  -- As long as fewer bytes have come than are taken, more bytes don't change how many are taken.
  pub taken-stays : (x z : List ℕ) → begins first second x ≡ true
      → length (x ++ z) < bytes_taken first second rules x
      → bytes_taken first second rules (x ++ z) ≡ bytes_taken first second rules x
  taken-stays x z starts few =
      let sum = length-append x z in
      ⊎_elim
      (λ short.
      let was = taken-short x starts short in
      taken-short (x ++ z) (begins-more first second x z starts) (omega arith) ∙ sym was)
      (λ long. taken-long x z starts long)
      (cases_lt (length x) rules.header_len)

  -- A whole header with which more bytes are taken is good.
  pub begun-good : (x : List ℕ) → begins first second x ≡ true → rules.header_len ≤ length x
      → length x < bytes_taken first second rules x → head_of rules x ≡ Good
  begun-good x starts long few =
      ⊎_elim
      (λ good. head-good rules x long good)
      (λ bad.
      let taken = taken-is first second rules Bad x starts (head-bad rules x long bad) in
      absurd (omega arith))
      (cases_Bool (rules.is_good_header (header_hunted rules x)))

  -- A good header says the size of a frame for which a device has room.
  pub size-readable : IsLawful rules → (h : List ℕ) → AreBytes h → length h ≡ rules.header_len
      → rules.is_good_header h ≡ true → rules.size h ≤ 292
  size-readable lawful h bytes long good =
      let room : rules.room h ≡ rules.size h =
      ap rules.room (sym (append-nil h)) ∙ hunted.says_room h [] long good in
      let bound = lawful.bounded h bytes in
      let readable = hunted.readable in
      omega arith

  -- The first bytes are undecided as long as more are taken.
  fronts-are : (x z : List ℕ) → begins first second (x ++ z) ≡ true
      → length x < bytes_taken first second rules (x ++ z) → IsUndecided first second rules x
  fronts-are [] z starts few = nothing
  fronts-are (a ∷ []) [] starts few = absurd (false≢true starts)
  fronts-are (a ∷ []) (b ∷ z) starts few =
      let is : (a == first ≡ true) × (b == second ≡ true) = and_parts _ _ starts in
      subst (λ c. IsUndecided first second rules (c ∷ [])) (sym (eqb-true a first is.0)) first_byte
  fronts-are (a ∷ b ∷ x) z starts few =
      let all : List ℕ = a ∷ b ∷ x in
      let two : 2 ≤ length all = omega arith in
      let begun : begins first second all ≡ true = begins-front first second all z two starts in
      let taken = taken-is first second rules (head_of rules all) all begun refl in
      header_begun all begun
      (⊎_elim
      (λ short.
      let least = taken-header (head_of rules all) all refl in
      let e : length all < bytes_taken first second rules all = omega arith in e)
      (λ long.
      let same = taken-long all z begun long in
      let e : length all < bytes_taken first second rules all = omega arith in e)
      (cases_lt (length all) rules.header_len))

  pub front-undecided : (x : List ℕ) (n : ℕ) → begins first second x ≡ true → n ≤ length x
      → n < bytes_taken first second rules x → IsUndecided first second rules (take n x)
  front-undecided x n starts within few =
      let joined = take-append-drop n x in
      let count = length-take-le n x within in
      let same = ap (bytes_taken first second rules) joined in
      fronts-are (take n x) (drop n x) (ap (begins first second) joined ∙ starts) (omega arith)

  -- ---- bytes that are taken together

  module _ (framed : IsFramed rules) (x : List ℕ) (starts : begins first second x ≡ true) where
    -- No frame has a bad header.
    bad-frame : (start : ℕ) → head_of rules x ≡ Bad → frame_at rules start x ≡ []
    bad-frame start bad =
        ⊎_elim
        (λ is. let same : Bad ≡ Good = sym bad ∙ framed.good_header x is in cc)
        (λ none. cond-false _ _ _ none)
        (cases_Bool (rules.is_frame x))

    found-by : (head : Head) → head_of rules x ≡ head → taken_by rules head x ≡ length x
        → (start : ℕ) → found_by rules head start x ≡ frame_at rules start x
    found-by Good is whole start =
        let n : ℕ = rules.size (header_hunted rules x) in
        ap (λ b. cond (b && rules.is_frame (take n x))
        (let r : FrameRead = record { start = start; frame = take n x } in r ∷ []) [])
        (le-leb n (length x) (omega arith))
        ∙ ap (frame_at rules start) (take_all n x (omega arith))
    found-by Short is whole start =
        let short = short-short rules x is in absurd (omega arith)
    found-by Bad is whole start = sym (bad-frame start is)

    -- If all bytes that are taken have come, what is found is their frame.
    pub found-whole : bytes_taken first second rules x ≡ length x → (start : ℕ)
        → found first second rules start x ≡ frame_at rules start x
    found-whole whole start =
        found-is first second rules (head_of rules x) start x starts refl
        ∙ found-by (head_of rules x) refl
        (sym (taken-is first second rules (head_of rules x) x starts refl) ∙ whole) start

  -- Nothing is read from the first bytes of those that are taken together.
  pub hunt-cut : (x : List Timed) (rest : List ℕ) → 0 < length rest
      → begins first second (timed_bytes x ++ rest) ≡ true
      → bytes_taken first second rules (timed_bytes x ++ rest) ≡ length (timed_bytes x ++ rest)
      → hunts x ≡ []
  hunt-cut x rest some starts whole =
      let bytes : List ℕ = timed_bytes x in
      let all : List ℕ = bytes ++ rest in
      let count = timed_bytes-length x in
      let sum = length-append bytes rest in
      ⊎_elim
      (λ few. few-read x few)
      (λ two.
      let two_bytes : 2 ≤ length bytes = omega arith in
      let begun = begins-front first second bytes rest two_bytes starts in
      let taken = taken-is first second rules (head_of rules bytes) bytes begun refl in
      ⊎_elim
      (λ short.
      let least = taken-header (head_of rules bytes) bytes refl in
      hunt-few first second rules x begun (omega arith))
      (λ long.
      let same = head-more rules bytes rest long in
      let still = taken_by-more first second rules (head_of rules bytes) bytes rest long in
      let now = taken-is first second rules (head_of rules bytes) all starts same in
      hunt-few first second rules x begun (omega arith))
      (cases_lt (length bytes) rules.header_len))
      (cases_lt (length x) 2)
