-- The text of a dump, tick by tick.
use Rattle.capture_text.proofs.ChangeLaws.{bits_more, ticks_more, length_padded}
use Rattle.capture_text.specs.Changes.{bit_start, quiet_rows, changes_at, changes_from, padded_rows}
use Rattle.capture_text.specs.{Changes.ticks_changes, Dump.change_text, Dump.dump_front}
use Rattle.capture_text.specs.{Dump.dump_end, Dump.dump_text, Levels.tick_levels}
use Rattle.capture_text.specs.declared.changes.{BothLevels.BothLevels, Change.Change}
use Rattle.{capture_text.specs.declared.text.Wires.Wires, line_stamps.specs.declared.rate.Rate.Rate}
use Rattle.std.proofs.Common.{◌≡◌, ◌∙◌, ℕ, zero, suc, ◌+◌, ◌-◌, ◌*◌, ◌<◌, ◌≤◌, max, ⊎_elim, Bool}
use Rattle.std.proofs.Common.{false, List, [], ◌∷◌, ◌++◌, length, take, drop, get_or, replicate}
use Rattle.std.proofs.Common.{refl, ap, sym, arith, append_assoc}
use Rattle.std.proofs.lemmas.{Bool.cases_lt, Grind.flat_map-append, List.append-nil}
use Rattle.std.proofs.lemmas.List.{take_all, take_more, get_or_append_left, get_or-append_right}
use Rattle.std.specs.List.{flat_map}
use Rattle.yasir_ticks.specs.declared.tick.Tick.{Tick, TheVariants.Silent}

-- The text is that of the changes at the first bit, and that of the bits after it.
pub bits_text : (rate : Rate) (bit : ℕ) (before : BothLevels) (xs ys : List Bool)
    (old now all : List ℕ) → 1 ≤ length xs → 1 ≤ length ys
    → now ≡ old ++ flat_map change_text
    (changes_at (bit_start rate bit) before (get_or xs 0 false) (get_or ys 0 false))
    → all ≡ now ++ flat_map change_text (changes_from rate (bit + 1)
    (record { a = get_or xs 0 false; b = get_or ys 0 false })
    (take (length xs - 1) (drop 1 xs)) (take (length ys - 1) (drop 1 ys)))
    → all ≡ old ++ flat_map change_text (changes_from rate bit before xs ys)
bits_text rate bit before xs ys old now all h k first rest =
    let here : List Change =
    changes_at (bit_start rate bit) before (get_or xs 0 false) (get_or ys 0 false) in
    let behind : List Change = changes_from rate (bit + 1)
    (record { a = get_or xs 0 false; b = get_or ys 0 false })
    (take (length xs - 1) (drop 1 xs)) (take (length ys - 1) (drop 1 ys)) in
    rest ∙ ap (λ x. x ++ flat_map change_text behind) first
    ∙ append_assoc old (flat_map change_text here) (flat_map change_text behind)
    ∙ ap (λ x. old ++ x) (sym (flat_map-append change_text here behind)
    ∙ ap (flat_map change_text) (sym (bits_more rate bit before xs ys h k)))

padded_as : (line other : List Tick) → length line ≡ length other → padded_rows line other ≡ line
padded_as line other e =
    let none : length other - length line ≡ 0 = omega arith in
    ap (λ k. line ++ replicate k Silent) none ∙ append-nil line

module _ (rate : Rate) (wires : Wires) (xs ys : List Tick) (n : ℕ) (text more : List ℕ)
    (of_a : length xs ≡ n) (of_b : length ys ≡ n)
    (is : text ≡ dump_front wires ++ flat_map change_text (ticks_changes rate xs ys)) where
  pub text_more : (a b : Tick) (bit : ℕ) → bit ≡ (n + 1) * rate.bits
      → more ≡ flat_map change_text (changes_from rate bit quiet_rows (tick_levels rate.bits a)
      (tick_levels rate.bits b))
      → text ++ more
      ≡ dump_front wires ++ flat_map change_text (ticks_changes rate (xs ++ a ∷ []) (ys ++ b ∷ []))
  text_more a b bit place more_is =
      let so_far : List ℕ = flat_map change_text (ticks_changes rate xs ys) in
      let there : List Change → List ℕ = flat_map change_text in
      ap (λ x. x ++ more) is
      ∙ append_assoc (dump_front wires) so_far more
      ∙ ap (λ x. dump_front wires ++ (so_far ++ x)) (more_is
      ∙ ap (λ k. there (changes_from rate k quiet_rows (tick_levels rate.bits a)
      (tick_levels rate.bits b))) place)
      ∙ ap (λ x. dump_front wires ++ x) (sym (flat_map-append change_text (ticks_changes rate xs ys)
      (changes_from rate ((n + 1) * rate.bits) quiet_rows (tick_levels rate.bits a)
      (tick_levels rate.bits b))))
      ∙ ap (λ x. dump_front wires ++ flat_map change_text x)
      (sym (ticks_more rate xs ys a b n of_a of_b))

  pub text_ends : more ≡ dump_end rate n → text ++ more ≡ dump_text rate wires xs ys
  text_ends more_is =
      let longest : n ≡ max (length xs) (length ys) = omega arith in
      ap (λ x. x ++ more) is
      ∙ ap (λ x. (dump_front wires ++ flat_map change_text (ticks_changes rate xs ys)) ++ x)
      (more_is ∙ ap (dump_end rate) longest)
      ∙ ap (λ x. (dump_front wires ++ flat_map change_text (ticks_changes rate x ys))
      ++ dump_end rate (max (length xs) (length ys))) (sym (padded_as xs ys (omega arith)))
      ∙ ap (λ x. (dump_front wires ++ flat_map change_text (ticks_changes rate (padded_rows xs ys) x))
      ++ dump_end rate (max (length xs) (length ys))) (sym (padded_as ys xs (omega arith)))

-- ---- both lines as a whole

silent_there : (k n : ℕ) → get_or (replicate k Silent) n Silent ≡ Silent
silent_there zero n = refl
silent_there (suc k) zero = refl
silent_there (suc k) (suc n) = silent_there k n

silent_behind : (line : List Tick) (n : ℕ) → length line ≤ n → get_or line n Silent ≡ Silent
silent_behind [] n h = refl
silent_behind (tick ∷ line) zero h = absurd (omega arith)
silent_behind (tick ∷ line) (suc n) h = silent_behind line n (omega arith)

-- a tick of a line that is filled with silence
tick_of_padded : (line other : List Tick) (n : ℕ)
    → get_or (padded_rows line other) n Silent ≡ get_or line n Silent
tick_of_padded line other n =
    ⊎_elim
    (λ (within : n < length line). get_or_append_left line (replicate (length other - length line) Silent) Silent n within)
    (λ (behind : length line ≤ n). get_or-append_right line (replicate (length other - length line) Silent)
    (length line) n Silent refl behind
    ∙ silent_there (length other - length line) (n - length line)
    ∙ sym (silent_behind line n behind))
    (cases_lt n (length line))

-- The first `n` ticks of the filled line and its next tick are its first `n + 1` ticks.
pub front_more : (line other : List Tick) (n : ℕ) → n < max (length line) (length other)
    → take n (padded_rows line other) ++ get_or line n Silent ∷ [] ≡ take (n + 1) (padded_rows line other)
front_more line other n h =
    ap (λ t. take n (padded_rows line other) ++ t ∷ []) (sym (tick_of_padded line other n))
    ∙ sym (take_more (padded_rows line other) n Silent (omega (arith, length_padded line other)))

-- As many ticks as the longer line has are the whole filled line.
pub front_all : (line other : List Tick) (n : ℕ) → n ≡ max (length line) (length other)
    → take n (padded_rows line other) ≡ padded_rows line other
front_all line other n h = take_all n (padded_rows line other) (omega (arith, length_padded line other))

-- The silence after the shorter line changes nothing in the dump.
pub dump_padded : (rate : Rate) (wires : Wires) (a b : List Tick)
    → dump_text rate wires (padded_rows a b) (padded_rows b a) ≡ dump_text rate wires a b
dump_padded rate wires a b =
    let of_a = length_padded a b in
    let of_b = length_padded b a in
    let same : length (padded_rows a b) ≡ length (padded_rows b a) = omega (arith, of_a, of_b) in
    let longest : max (length (padded_rows a b)) (length (padded_rows b a)) ≡ max (length a) (length b) =
    omega (arith, of_a, of_b) in
    ap (λ x. (dump_front wires
    ++ flat_map change_text (ticks_changes rate x (padded_rows (padded_rows b a) (padded_rows a b))))
    ++ dump_end rate (max (length (padded_rows a b)) (length (padded_rows b a))))
    (padded_as (padded_rows a b) (padded_rows b a) same)
    ∙ ap (λ x. (dump_front wires ++ flat_map change_text (ticks_changes rate (padded_rows a b) x))
    ++ dump_end rate (max (length (padded_rows a b)) (length (padded_rows b a))))
    (padded_as (padded_rows b a) (padded_rows a b) (sym same))
    ∙ ap (λ n. (dump_front wires
    ++ flat_map change_text (ticks_changes rate (padded_rows a b) (padded_rows b a))) ++ dump_end rate n)
    longest
