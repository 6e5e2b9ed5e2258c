-- `ends_in_check` decides `EndsInCheck`.
use Rattle.line_rules.specs.Bytes.{low_first}
use Rattle.line_rules.specs.Endings.{EndsInCheck, ends_in_check, body_of}
use Rattle.std.proofs.Common.{◌≡◌, ℕ, suc, ◌+◌, ◌-◌, ◌/◌, ◌%◌, ◌<◌, ◌≤◌, true, List, [], ◌∷◌, ◌++◌}
use Rattle.std.proofs.Common.{length, take, drop, get_or, arith, sym, ◌∙◌, ap, length-append}
use Rattle.std.proofs.Math.Seq.{drop-cons, drop-length, take-append_seam, drop-append_seam}
use Rattle.std.proofs.lemmas.Bool.{and_parts, and_from, eqb-true, eq-eqb, leb-true, le-leb}
use Rattle.std.proofs.lemmas.List.{take-append-drop}

-- the last two elements of a list of two or more
pub last_two : (x : List ℕ) → 2 ≤ length x
    → drop (length x - 2) x ≡ get_or x (length x - 2) 0 ∷ get_or x (length x - 1) 0 ∷ []
last_two x long =
    let first : length x - 2 < length x = omega arith in
    let second : suc (length x - 2) < length x = omega arith in
    let at : suc (length x - 2) ≡ length x - 1 = omega arith in
    let end : suc (length x - 1) ≡ length x = omega arith in
    drop-cons x (length x - 2) 0 first
    ∙ ap (λ y. get_or x (length x - 2) 0 ∷ y)
    (drop-cons x (suc (length x - 2)) 0 second
    ∙ (ap (λ i. get_or x i 0 ∷ drop (suc i) x) at
    ∙ ap (λ y. get_or x (length x - 1) 0 ∷ y) (ap (λ i. drop i x) end ∙ drop-length x)))

-- a list of two or more as its front and its last two elements
pub apart : (x : List ℕ) → 2 ≤ length x
    → x ≡ body_of x ++ (get_or x (length x - 2) 0 ∷ get_or x (length x - 1) 0 ∷ [])
apart x long = sym (take-append-drop (length x - 2) x) ∙ ap (λ y. body_of x ++ y) (last_two x long)

pub ending : (x : List ℕ) (body : List ℕ) (low high : ℕ) → x ≡ body ++ (low ∷ high ∷ [])
    → (body_of x ≡ body) × (get_or x (length x - 2) 0 ≡ low) × (get_or x (length x - 1) 0 ≡ high)
ending x body low high e =
    let two : length x ≡ length body + 2 = ap length e ∙ length-append body (low ∷ high ∷ []) in
    let n : length x - 2 ≡ length body = omega arith in
    let long : 2 ≤ length x = omega arith in
    let front : body_of x ≡ body = ap (λ i. take i x) n
    ∙ (ap (λ y. take (length body) y) e ∙ take-append_seam body (low ∷ high ∷ [])) in
    let back : drop (length x - 2) x ≡ low ∷ high ∷ [] =
    ap (λ i. drop i x) n ∙ (ap (λ y. drop (length body) y) e
    ∙ drop-append_seam body (low ∷ high ∷ [])) in
    let both : get_or x (length x - 2) 0 ∷ get_or x (length x - 1) 0 ∷ [] ≡ low ∷ high ∷ [] =
    sym (last_two x long) ∙ back in
    (front, cc, cc)

-- Holds if the last two bytes are the check of those before.
pub record HasCheck (check : List ℕ → ℕ) (x : List ℕ) : Type 0 where
  pub low : get_or x (length x - 2) 0 ≡ check (body_of x) % 256
  pub high : get_or x (length x - 1) 0 ≡ check (body_of x) / 256

module _ (check : List ℕ → ℕ) where
  pub EndsInCheck-long : (x : List ℕ) → EndsInCheck check x → 2 ≤ length x
  EndsInCheck-long x right =
      omega (
        arith,
        ap length right.ends,
        length-append right.body (low_first (check right.body)),
      )

  pub EndsInCheck-has : (x : List ℕ) → EndsInCheck check x → HasCheck check x
  EndsInCheck-has x right =
      let parts = ending x right.body _ _ right.ends in
      record {
        low = parts.1 ∙ ap (λ y. check y % 256) (sym parts.0);
        high = parts.2 ∙ ap (λ y. check y / 256) (sym parts.0);
      }

  pub EndsInCheck-from : (x : List ℕ) → 2 ≤ length x → HasCheck check x → EndsInCheck check x
  EndsInCheck-from x long has = record {
    body = body_of x;
    ends = apart x long
        ∙ ap (λ y. body_of x ++ y)
        (ap (λ b. b ∷ get_or x (length x - 1) 0 ∷ []) has.low
        ∙ ap (λ b. check (body_of x) % 256 ∷ b ∷ []) has.high);
  }

  pub ends_in_check-true : (x : List ℕ) → ends_in_check check x ≡ true → EndsInCheck check x
  unfolding ends_in_check
  ends_in_check-true x decided =
      let last = and_parts _ _ decided in
      let both = and_parts _ _ last.0 in
      EndsInCheck-from x (leb-true 2 (length x) both.0)
      (record { low = eqb-true _ _ both.1; high = eqb-true _ _ last.1 })

  pub ends_in_check-from : (x : List ℕ) → EndsInCheck check x → ends_in_check check x ≡ true
  unfolding ends_in_check
  ends_in_check-from x right =
      let has = EndsInCheck-has x right in
      and_from _ _
      (and_from _ _ (le-leb 2 (length x) (EndsInCheck-long x right)) (eq-eqb _ _ has.low))
      (eq-eqb _ _ has.high)
