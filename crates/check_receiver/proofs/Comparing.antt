-- Two lists of bytes are compared by gathering the bits in which they differ.
use Rattle.std.proofs.Common.{◌≡◌, ℕ, ◌+◌, ◌<◌, ◌≤◌, inl, inr, List, length, get_or, nat_eq}
use Rattle.std.proofs.Common.{bytes_eq, sym, ◌∙◌, ap, subst, arith}
use Rattle.std.proofs.lemmas.Bool.{cases_lt, Decides.same_from_decides}
use Rattle.std.proofs.lemmas.{Grind.same_number_lists, Nat.and_le_l, Nat.and_le_r, Nat.le_or_l}
use Rattle.std.proofs.lemmas.{Nat.le_or_r, Slice.Eq.bytes_eq-Decides}
use Rattle.std.specs.Cmp.{unsigned_Decides}
use Rattle.std.specs.Int.Bits.{bit_xor, bit_or, xor_self, xor_add_and, or_zero_l}

same_without_bits : (a b : ℕ) → bit_xor a b ≡ 0 → a ≡ b
same_without_bits a b none =
    let both = xor_add_and a b in
    let left = and_le_l a b in
    let right = and_le_r a b in
    omega arith

-- No bit is gathered if the lists are the same, and if no bit has been gathered, their first `n`
-- bytes are the same.
pub record IsGathered (left right : List ℕ) (n differing : ℕ) : Type 0 where
  pub none : left ≡ right → differing ≡ 0
  pub same : differing ≡ 0 → (k : ℕ) → k < n → get_or left k 0 ≡ get_or right k 0

pub gathered_more : (left right : List ℕ) (n more differing a b : ℕ) → more ≡ n + 1
    → a ≡ get_or left n 0 → b ≡ get_or right n 0
    → IsGathered left right n differing
    → IsGathered left right more (bit_or differing (bit_xor a b))
gathered_more left right n more differing a b one here there before = record {
  none = λ same.
      let alike : a ≡ b = here ∙ ap (λ l. get_or l n 0) same ∙ sym there in
      ap (λ d. bit_or d (bit_xor a b)) (before.none same)
      ∙ or_zero_l (bit_xor a b)
      ∙ ap (λ x. bit_xor x b) alike
      ∙ xor_self b;
  same = λ none k within.
      let old = le_or_l differing (bit_xor a b) in
      let new = le_or_r differing (bit_xor a b) in
      let alike : a ≡ b = same_without_bits a b (omega arith) in
      let last : get_or left n 0 ≡ get_or right n 0 = sym here ∙ alike ∙ there in
      elim (cases_lt k n) [
        | inl earlier ↦ before.same (omega arith) k earlier
        | inr later ↦ subst (λ i. get_or left i 0 ≡ get_or right i 0) (omega arith) last
      ];
}

pub gathered_all : (left right : List ℕ) (n differing : ℕ)
    → length left ≡ length right → length left ≤ n
    → IsGathered left right n differing
    → nat_eq differing 0 ≡ bytes_eq left right
gathered_all left right n differing long past done =
    same_from_decides {P = left ≡ right} (nat_eq differing 0) (bytes_eq left right) (
      λ is. same_number_lists left right long
          (λ k within. done.same ((unsigned_Decides differing 0).0 is) k (omega arith)),
      λ same. (unsigned_Decides differing 0).1 (done.none same),
    )
    (bytes_eq-Decides left right)
