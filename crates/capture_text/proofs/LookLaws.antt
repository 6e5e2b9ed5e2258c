-- Whoever looks at a wire of a dump within a bit sees the level of this bit.
use Rattle.capture_text.proofs.ChangeLaws.{changes_none, changes_one, changes_more, length_padded}
use Rattle.capture_text.proofs.LevelLaws.{length_line, level_in_line}
use Rattle.capture_text.specs.Changes.{bit_start, quiet_rows, change_if, changes_at, changes_from, padded_rows}
use Rattle.capture_text.specs.{Changes.dump_changes, Levels.tick_levels, Levels.line_levels}
use Rattle.capture_text.specs.Looks.{same_way, is_past, level_at, IsWithin}
use Rattle.capture_text.specs.declared.changes.{BothLevels.BothLevels, Change.Change}
use Rattle.line_stamps.specs.Parts.{rounded}
use Rattle.line_stamps.specs.declared.capture.Way.{Way, TheVariants.A, TheVariants.B}
use Rattle.line_stamps.specs.declared.rate.Rate.{Rate}
use Rattle.std.proofs.Common.{◌≡◌, ◌∙◌, ℕ, zero, suc, ◌+◌, ◌-◌, ◌*◌, ◌<◌, ◌≤◌, ◌&&◌, if◌then◌else◌}
use Rattle.std.proofs.Common.{Bool, true, false, List, [], ◌∷◌, ◌++◌, length, get_or, replicate}
use Rattle.std.proofs.Common.{refl, ap, sym, arith, lt-ltb}
use Rattle.std.proofs.Math.Nat.{div-mul-le_self, mul-le-mul_right}
use Rattle.std.proofs.lemmas.{Bool.le-ltb, List.length-append, List.length-replicate, Nat.le-div}
use Rattle.yasir_ticks.specs.declared.tick.Tick.{Tick, TheVariants.Silent}

-- ---- bits start in their order

rounded_rises : (unit first second : ℕ) → 0 < unit → first ≤ second
    → rounded first unit ≤ rounded second unit
rounded_rises unit first second some h =
    let low = div-mul-le_self (2 * first + unit) (2 * unit) in
    le-div (rounded first unit) (2 * second + unit) (2 * unit) (omega arith) (omega (arith, low))

start_rises : (rate : Rate) (first second : ℕ) → first ≤ second
    → bit_start rate first ≤ bit_start rate second
start_rises rate first second h =
    let few : 300 ≤ rate.baud = rate.slowest in
    rounded_rises rate.baud (first * 1000000000) (second * 1000000000) (omega arith) (omega arith)

-- ---- what a change means at a time before it, and at a time after it

looked_both : (way : Way) (time : ℕ) (before : Bool) (first second : List Change)
    → level_at way time before (first ++ second)
    ≡ level_at way time (level_at way time before first) second
unfolding level_at
looked_both way time before [] second = refl
looked_both way time before (change ∷ first) second =
    looked_both way time (if is_past way time change then change.high else before) first second

and_false : (t : Bool) → (t && false) ≡ false
and_false true = refl
and_false false = refl

not_past : (way : Way) (time : ℕ) (change : Change) → time < change.time
    → is_past way time change ≡ false
not_past way time change h = rw (lt-ltb time change.time h) (and_false (same_way change.way way))

ahead : (way wire : Way) (time at : ℕ) (before first now : Bool) → time < at
    → level_at way time before (change_if at wire first now) ≡ before
unfolding level_at
ahead way wire time at before true true h = refl
ahead way wire time at before true false h =
    rw (not_past way time (record { time = at; way = wire; high = false }) h) refl
ahead way wire time at before false true h =
    rw (not_past way time (record { time = at; way = wire; high = true }) h) refl
ahead way wire time at before false false h = refl

-- the level of a wire
abbrev level_of : Way → BothLevels → Bool
level_of A levels = levels.a
level_of B levels = levels.b

-- the levels of a wire
abbrev wire_of : Way → List Bool → List Bool → List Bool
wire_of A xs ys = xs
wire_of B xs ys = ys

passed : (way : Way) (time at : ℕ) (before now : Bool) → at ≤ time
    → level_at way time before (change_if at way before now) ≡ now
unfolding level_at
passed A time at true true h = refl
passed A time at true false h = rw (le-ltb time at h) refl
passed A time at false true h = rw (le-ltb time at h) refl
passed A time at false false h = refl
passed B time at true true h = refl
passed B time at true false h = rw (le-ltb time at h) refl
passed B time at false true h = rw (le-ltb time at h) refl
passed B time at false false h = refl

of_a_alone : (time at : ℕ) (before first now : Bool)
    → level_at A time before (change_if at B first now) ≡ before
unfolding level_at
of_a_alone time at before true true = refl
of_a_alone time at before true false = refl
of_a_alone time at before false true = refl
of_a_alone time at before false false = refl

of_b_alone : (time at : ℕ) (before first now : Bool)
    → level_at B time before (change_if at A first now) ≡ before
unfolding level_at
of_b_alone time at before true true = refl
of_b_alone time at before true false = refl
of_b_alone time at before false true = refl
of_b_alone time at before false false = refl

bit_ahead : (way : Way) (time at : ℕ) (level : Bool) (before : BothLevels) (a b : Bool) → time < at
    → level_at way time level (changes_at at before a b) ≡ level
bit_ahead way time at level before a b h =
    looked_both way time level (change_if at A before.a a) (change_if at B before.b b)
    ∙ ap (λ x. level_at way time x (change_if at B before.b b)) (ahead way A time at level before.a a h)
    ∙ ahead way B time at level before.b b h

bit_passed : (way : Way) (time at : ℕ) (before : BothLevels) (a b : Bool) → at ≤ time
    → level_at way time (level_of way before) (changes_at at before a b)
    ≡ level_of way (record { a = a; b = b })
bit_passed A time at before a b h =
    looked_both A time before.a (change_if at A before.a a) (change_if at B before.b b)
    ∙ ap (λ x. level_at A time x (change_if at B before.b b)) (passed A time at before.a a h)
    ∙ of_a_alone time at a before.b b
bit_passed B time at before a b h =
    looked_both B time before.b (change_if at A before.a a) (change_if at B before.b b)
    ∙ ap (λ x. level_at B time x (change_if at B before.b b)) (of_b_alone time at before.b before.a a)
    ∙ passed B time at before.b b h

-- ---- the changes from a bit on

all_ahead : (way : Way) (time : ℕ) (rate : Rate) (bit : ℕ) (level : Bool) (before : BothLevels)
    (xs ys : List Bool) → time < bit_start rate bit
    → level_at way time level (changes_from rate bit before xs ys) ≡ level
unfolding level_at
all_ahead way time rate bit level before [] ys h = rw (changes_none rate bit before ys) refl
all_ahead way time rate bit level before (a ∷ xs) [] h = rw (changes_one rate bit before a xs) refl
all_ahead way time rate bit level before (a ∷ xs) (b ∷ ys) h =
    let now : BothLevels = record { a = a; b = b } in
    let rest : List Change = changes_from rate (bit + 1) now xs ys in
    let later : time < bit_start rate (bit + 1) =
    (let rises = start_rises rate bit (bit + 1) (omega arith) in omega arith) in
    ap (level_at way time level) (changes_more rate bit before a b xs ys)
    ∙ looked_both way time level (changes_at (bit_start rate bit) before a b) rest
    ∙ ap (λ x. level_at way time x rest)
    (bit_ahead way time (bit_start rate bit) level before a b h)
    ∙ all_ahead way time rate (bit + 1) level now xs ys later

first_level : (way : Way) (a b : Bool) (xs ys : List Bool)
    → level_of way (record { a = a; b = b }) ≡ get_or (wire_of way (a ∷ xs) (b ∷ ys)) 0 true
first_level A a b xs ys = refl
first_level B a b xs ys = refl

next_level : (way : Way) (a b : Bool) (xs ys : List Bool) (k : ℕ)
    → get_or (wire_of way xs ys) k true ≡ get_or (wire_of way (a ∷ xs) (b ∷ ys)) (suc k) true
next_level A a b xs ys k = refl
next_level B a b xs ys k = refl

look : (way : Way) (time : ℕ) (rate : Rate) (bit k n : ℕ) (before : BothLevels) (xs ys : List Bool)
    → length xs ≡ length ys → k < length xs → bit + k ≡ n → bit_start rate n ≤ time
    → time < bit_start rate (n + 1)
    → level_at way time (level_of way before) (changes_from rate bit before xs ys)
    ≡ get_or (wire_of way xs ys) k true
look way time rate bit k n before [] ys e within at from to = absurd (omega arith)
look way time rate bit k n before (a ∷ xs) [] e within at from to = absurd (omega arith)
look way time rate bit zero n before (a ∷ xs) (b ∷ ys) e within at from to =
    let now : BothLevels = record { a = a; b = b } in
    let rest : List Change = changes_from rate (bit + 1) now xs ys in
    let started : bit_start rate bit ≤ time =
    (let rises = start_rises rate bit n (omega arith) in omega arith) in
    let next : time < bit_start rate (bit + 1) =
    (let rises = start_rises rate (n + 1) (bit + 1) (omega arith) in omega arith) in
    ap (level_at way time (level_of way before)) (changes_more rate bit before a b xs ys)
    ∙ looked_both way time (level_of way before) (changes_at (bit_start rate bit) before a b) rest
    ∙ ap (λ x. level_at way time x rest)
    (bit_passed way time (bit_start rate bit) before a b started)
    ∙ all_ahead way time rate (bit + 1) (level_of way now) now xs ys next
    ∙ first_level way a b xs ys
look way time rate bit (suc k) n before (a ∷ xs) (b ∷ ys) e within at from to =
    let now : BothLevels = record { a = a; b = b } in
    let rest : List Change = changes_from rate (bit + 1) now xs ys in
    let started : bit_start rate bit ≤ time =
    (let rises = start_rises rate bit n (omega arith) in omega arith) in
    ap (level_at way time (level_of way before)) (changes_more rate bit before a b xs ys)
    ∙ looked_both way time (level_of way before) (changes_at (bit_start rate bit) before a b) rest
    ∙ ap (λ x. level_at way time x rest)
    (bit_passed way time (bit_start rate bit) before a b started)
    ∙ look way time rate (bit + 1) k n now xs ys (omega arith) (omega arith) (omega arith) from to
    ∙ next_level way a b xs ys k

-- ---- a tick of a dump

module _ (rate : Rate) (a b : List Tick) (tick bit time : ℕ) (small : bit < rate.bits)
    (within : IsWithin rate tick bit time) where
  same_length : length (line_levels rate.bits (padded_rows a b))
      ≡ length (line_levels rate.bits (padded_rows b a))
  same_length =
      let long : length (padded_rows a b) ≡ length (padded_rows b a) =
      omega (arith, length_padded a b, length_padded b a) in
      length_line rate.bits (padded_rows a b) rate.fewest_bits rate.most_bits
      ∙ ap (λ k. k * rate.bits) long
      ∙ sym (length_line rate.bits (padded_rows b a) rate.fewest_bits rate.most_bits)

  below : (line : List Tick) → tick < length line
      → tick * rate.bits + bit < length (line_levels rate.bits line)
  below line h =
      let upto : suc tick * rate.bits ≤ length line * rate.bits =
      mul-le-mul_right rate.bits (omega arith) in
      let more : suc tick * rate.bits ≡ tick * rate.bits + rate.bits = omega arith in
      let long = length_line rate.bits line rate.fewest_bits rate.most_bits in
      omega (arith, upto, more, long, small)

  place : rate.bits + (tick * rate.bits + bit) ≡ (tick + 1) * rate.bits + bit
  place = let more : (tick + 1) * rate.bits ≡ tick * rate.bits + rate.bits = omega arith in
      omega (arith, more)

  pub looked_a : tick < length (padded_rows a b) → level_at A time true (dump_changes rate a b)
      ≡ get_or (tick_levels rate.bits (get_or (padded_rows a b) tick Silent)) bit true
  looked_a h =
      look A time rate rate.bits (tick * rate.bits + bit) ((tick + 1) * rate.bits + bit) quiet_rows
      (line_levels rate.bits (padded_rows a b)) (line_levels rate.bits (padded_rows b a)) same_length
      (below (padded_rows a b) h) place within.started within.open_yet
      ∙ level_in_line rate.bits rate.fewest_bits rate.most_bits (padded_rows a b) tick bit
      (tick * rate.bits + bit) refl h small

  pub looked_b : tick < length (padded_rows b a) → level_at B time true (dump_changes rate a b)
      ≡ get_or (tick_levels rate.bits (get_or (padded_rows b a) tick Silent)) bit true
  looked_b h =
      look B time rate rate.bits (tick * rate.bits + bit) ((tick + 1) * rate.bits + bit) quiet_rows
      (line_levels rate.bits (padded_rows a b)) (line_levels rate.bits (padded_rows b a)) same_length
      (let shorter = below (padded_rows b a) h in omega (arith, shorter, same_length)) place
      within.started within.open_yet
      ∙ level_in_line rate.bits rate.fewest_bits rate.most_bits (padded_rows b a) tick bit
      (tick * rate.bits + bit) refl h small
