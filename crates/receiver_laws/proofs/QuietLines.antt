-- A line in which silent ticks divide two bursts: which of its bursts are before them, and which
-- after.
use Rattle.frame_ending.proofs.Spread.{AreSpread, EndBy}
use Rattle.link_box.proofs.Spoiled.{contiguous-some}
use Rattle.receiver_laws.proofs.Parting.{bursts-parted, StartBefore, take-append-add}
use Rattle.{receiver_laws.specs.Recovery.first_quiet, std.proofs.Common.◌≡◌}
use Rattle.std.proofs.Common.{◌∙◌, ℕ, zero, suc, ◌+◌, ◌-◌, ◌<◌, ◌≤◌, List, [], ◌∷◌, ◌++◌, length}
use Rattle.std.proofs.Common.{take, drop, refl, sym, ap, arith, get_or, ⊎_elim, length-append}
use Rattle.std.proofs.{Math.Seq.take-append_seam, lemmas.Bool.cases_lt, lemmas.List.length-take}
use Rattle.std.proofs.lemmas.List.{length-drop, length-replicate, get_or-drop, take-append-drop}
use Rattle.std.proofs.lemmas.List.Elements.{All-contains, All-nil, All-cons}
use Rattle.std.specs.List.{All, Contains}
use Rattle.yasir_ticks.proofs.{BurstLaws.bursts_from-silent_end, BurstsOfLaws.bursts_from-silence}
use Rattle.yasir_ticks.specs.Bursts.{Burst, bursts, bursts_from, end_of, AreClosed}
use Rattle.yasir_ticks.specs.{BurstsOf.IsContiguous, Ticks.silent}
use Rattle.yasir_ticks.specs.declared.tick.Tick.{Tick, TheVariants.Silent}

-- ---- silent ticks by their numbers

silent-first : (j : ℕ) (l : List Tick) → j ≤ length l
    → ((i : ℕ) → i < j → get_or l i Silent ≡ Silent) → l ≡ silent j ++ drop j l
silent-first zero l long dark = refl
silent-first (suc j) [] long dark = absurd (omega arith)
silent-first (suc j) (t ∷ l) long dark =
    let here : 0 < suc j = omega arith in
    let first : t ≡ Silent = dark 0 here in
    let rest = silent-first j l (omega arith)
    (λ i below. let h : suc i < suc j = omega arith in dark (suc i) h) in
    ap (λ u. u ∷ l) first ∙ ap (λ x. Silent ∷ x) rest

no-bursts : bursts [] ≡ []
unfolding bursts_from
no-bursts = refl

module _ (tick : ℕ) where
  abbrev from : ℕ
  from = first_quiet tick

  -- how many silent ticks there are, from the first one to this one
  abbrev pub count : ℕ
  count = tick + 1 - first_quiet tick

  pub quiet-part : (l : List Tick) → tick < length l
      → ((i : ℕ) → from ≤ i → i ≤ tick → get_or l i Silent ≡ Silent)
      → drop from l ≡ silent count ++ drop count (drop from l)
  quiet-part l long dark =
      let rest = length-drop from l in
      silent-first count (drop from l) (omega arith)
      (λ i below. get_or-drop from l i Silent ∙ dark (from + i) (omega arith) (omega arith))

  -- For a line with silent ticks up to this one, and then the ticks `y`.
  module _ (l y : List Tick) (quiet : drop from l ≡ silent count ++ y) where
    abbrev front : List Tick
    front = take from l

    pub whole-line : l ≡ front ++ (silent count ++ y)
    whole-line = sym (take-append-drop from l) ∙ ap (λ x. front ++ x) quiet

    quiet-long : length (silent count ++ y) ≡ count + length y
    quiet-long = length-append (silent count) y
        ∙ ap (λ k. k + length y) (length-replicate count Silent)

    pub front-long : length front ≡ from
    front-long =
        let rest = length-drop from l in
        let some = ap length quiet ∙ quiet-long in
        let first = length-take from l in
        omega arith

    pub some-length : tick + 1 ≤ length l
    some-length =
        let rest = length-drop from l in
        let some = ap length quiet ∙ quiet-long in
        omega arith

    -- The bursts are those before the silence and those after it, if it is at the start of the
    -- line.
    line-first : from ≡ 0 → bursts l ≡ bursts front ++ bursts_from 4 (tick + 1) y
    line-first start =
        let all : 0 + count ≡ tick + 1 = omega arith in
        let none : front ≡ [] = ap (λ k. take k l) start in
        let rest : bursts (silent count ++ y) ≡ bursts_from 4 (tick + 1) y =
        bursts_from-silence 4 0 count y ∙ ap (λ k. bursts_from 4 k y) all in
        ap bursts (whole-line ∙ ap (λ x. x ++ (silent count ++ y)) none)
        ∙ (rest
        ∙ sym (ap (λ x. bursts x ++ bursts_from 4 (tick + 1) y) none
        ∙ ap (λ ds. ds ++ bursts_from 4 (tick + 1) y) no-bursts))

    -- The bursts are those before the silence and those after it, if it is four ticks long.
    line-later : count ≡ 4 → bursts l ≡ bursts front ++ bursts_from 4 (tick + 1) y
    line-later four =
        let long = front-long in
        ap bursts (whole-line ∙ ap (λ k. front ++ (silent k ++ y)) four)
        ∙ bursts-parted 4 0 (tick + 1) front y (omega arith)

    pub line-bursts : bursts l ≡ bursts front ++ bursts_from 4 (tick + 1) y
    line-bursts =
        ⊎_elim
        (λ early. let none : from ≡ 0 = omega arith in line-first none)
        (λ late. let four : count ≡ 4 = omega arith in line-later four)
        (cases_lt tick 3)

    pub front-bursts : bursts (take (tick + 1) l) ≡ bursts front
    front-bursts =
        let long = front-long in
        let place : tick + 1 ≡ length front + count = omega arith in
        let all : count ≡ length (silent count) = sym (length-replicate count Silent) in
        ap (λ k. bursts (take k l)) place
        ∙ (ap (λ x. bursts (take (length front + count) x)) whole-line
        ∙ (ap bursts (take-append-add front (silent count ++ y) count)
        ∙ (ap (λ k. bursts (front ++ take k (silent count ++ y))) all
        ∙ (ap (λ x. bursts (front ++ x)) (take-append_seam (silent count) y)
        ∙ bursts_from-silent_end 4 0 count front))))

  -- Bursts that ended before the silent ticks are closed after them.
  pub closed-by : (n : ℕ) (ds : List Burst) → AreSpread 4 n ds → EndBy from ds
      → AreClosed 4 (tick + 1) ds
  closed-by n [] spread ends = tt
  closed-by n (d ∷ ds) spread ends =
      let end = ends.0 in
      let some = contiguous-some 4 d.body spread.1 in
      (omega arith, closed-by (end_of d + 4) ds spread.2 ends.1)

pub start-before : (n m : ℕ) (ds : List Burst) → AreSpread 4 n ds → EndBy m ds → StartBefore m ds
start-before n m [] spread ends = tt
start-before n m (d ∷ ds) spread ends =
    let end = ends.0 in
    let some = contiguous-some 4 d.body spread.1 in
    (omega arith, start-before (end_of d + 4) m ds spread.2 ends.1)

pub contained-from : (n : ℕ) (ds : List Burst) (e : Burst) → AreSpread 4 n ds → Contains ds e
    → n ≤ e.start
contained-from n ds e spread there =
    All-contains (λ (d : Burst). n ≤ d.start) ds e (all-from n n ds (omega arith) spread) there
  where
    all-from : (n k : ℕ) (ds : List Burst) → n ≤ k → AreSpread 4 k ds
        → All (λ (d : Burst). n ≤ d.start) ds
    all-from n k [] le spread = All-nil (λ (d : Burst). n ≤ d.start)
    all-from n k (d ∷ ds) le spread =
        let starts = spread.0 in
        All-cons (λ (d : Burst). n ≤ d.start) d ds (omega arith)
        (all-from n (end_of d + 4) ds (omega arith) spread.2)

pub spread-at : (n : ℕ) (P : List Burst) (e : Burst) (Q : List Burst) → AreSpread 4 n (P ++ e ∷ Q)
    → IsContiguous 4 e.body
spread-at n [] e Q spread = spread.1
spread-at n (p ∷ P) e Q spread = spread-at (end_of p + 4) P e Q spread.2

pub spread-in : (n : ℕ) (P Q : List Burst) → AreSpread 4 n (P ++ Q) → (m : ℕ) × AreSpread 4 m Q
spread-in n [] Q spread = (n, spread)
spread-in n (p ∷ P) Q spread = spread-in (end_of p + 4) P Q spread.2

pub spread-front : (n : ℕ) (P Q : List Burst) → AreSpread 4 n (P ++ Q) → AreSpread 4 n P
spread-front n [] Q spread = tt
spread-front n (p ∷ P) Q spread = (spread.0, spread.1, spread-front (end_of p + 4) P Q spread.2)
