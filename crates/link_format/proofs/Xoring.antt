-- A block that is xored with a pad in place, byte by byte.
use Rattle.std.proofs.Common.{◌≡◌, ℕ, ◌+◌, ◌<◌, ◌≤◌, List, [], ◌∷◌, ◌++◌, length, get_or, take}
use Rattle.std.proofs.Common.{drop, refl, sym, ◌∙◌, ap, arith, set, add-zero}
use Rattle.std.proofs.lemmas.List.{take_more, take_more_set, map-append, length-set, drop-set-lt}
use Rattle.std.proofs.lemmas.List.{drop-drop, get_or-drop, take_all}
use Rattle.std.specs.Prelude.{bit_xor}
use Rattle.link_format.specs.Hmac.{xored}

-- Holds if the first i bytes are xored with the pad, and the others are as they were.
pub record IsXoredUpTo (pad : ℕ) (old : List ℕ) (i : ℕ) (now : List ℕ) : Type 0 where
  pub len : length now ≡ length old
  pub front : take i now ≡ xored pad (take i old)
  pub rest : drop i now ≡ drop i old

pub xored_none : (pad : ℕ) (old : List ℕ) → IsXoredUpTo pad old 0 old
xored_none pad old = record { len = refl; front = refl; rest = refl }

pub xored_more : (pad : ℕ) (old : List ℕ) (i : ℕ) (now : List ℕ) → i < length now
    → IsXoredUpTo pad old i now
    → IsXoredUpTo pad old (i + 1) (set now i (bit_xor (get_or now i 0) pad))
xored_more pad old i now within done =
    let here : get_or now i 0 ≡ get_or old i 0 =
    simp add-zero at
    (sym (get_or-drop i now 0 0) ∙ ap (λ (l : List ℕ). get_or l 0 0) done.rest
    ∙ get_or-drop i old 0 0) in
    record {
      len = length-set now i (bit_xor (get_or now i 0) pad) ∙ done.len;
      front =
          take_more_set now i _ within
          ∙ ap (λ (l : List ℕ). l ++ bit_xor (get_or now i 0) pad ∷ []) done.front
          ∙ ap (λ (b : ℕ). xored pad (take i old) ++ bit_xor b pad ∷ []) here
          ∙ sym (map-append (λ b. bit_xor b pad) (take i old) (get_or old i 0 ∷ []))
          ∙ sym (ap (xored pad) (take_more old i 0 (omega arith)));
      rest =
          drop-set-lt (i + 1) now i _ (omega arith)
          ∙ sym (drop-drop 1 i now)
          ∙ ap (drop 1) done.rest
          ∙ drop-drop 1 i old;
    }

pub xored_all : (pad : ℕ) (old : List ℕ) (i : ℕ) (now : List ℕ) → length now ≤ i
    → IsXoredUpTo pad old i now → now ≡ xored pad old
xored_all pad old i now past done =
    sym (take_all i now past) ∙ done.front ∙ ap (xored pad) (take_all i old (omega arith))
