-- If a list has three to six items and a match on a slice names them, the texts of the list are
-- those of the named items, in order.
use Rattle.std.proofs.Common.{◌≡◌, ℕ, ◌<◌, ◌≤◌, List, [], ◌∷◌, length, get_or, map, arith}

module _ {X : Type 0} (f : X → List ℕ) where
  three : (xs : List X) {a b c : X} {p q r : List ℕ} → 3 ≤ length xs → length xs < 4
      → a ≡ get_or xs 0 a → b ≡ get_or xs 1 b → c ≡ get_or xs 2 c → p ≡ f a → q ≡ f b → r ≡ f c
      → map f xs ≡ p ∷ q ∷ r ∷ []
  three (u ∷ v ∷ w ∷ []) least below ai bi ci pi qi ri = cc
  three xs least below ai bi ci pi qi ri = absurd (omega arith)

  pub four : (xs : List X) {a b c d : X} {p q r s : List ℕ} → 4 ≤ length xs → length xs < 5
      → a ≡ get_or xs 0 a → b ≡ get_or xs 1 b → c ≡ get_or xs 2 c → d ≡ get_or xs 3 d
      → p ≡ f a → q ≡ f b → r ≡ f c → s ≡ f d → map f xs ≡ p ∷ q ∷ r ∷ s ∷ []
  four [] least below ai bi ci di pi qi ri si = absurd (omega arith)
  four (u ∷ xs) least below ai bi ci di pi qi ri si =
      let rest = three xs (omega arith) (omega arith) bi ci di qi ri si in cc

  pub five : (xs : List X) {a b c d e : X} {p q r s t : List ℕ} → 5 ≤ length xs → length xs < 6
      → a ≡ get_or xs 0 a → b ≡ get_or xs 1 b → c ≡ get_or xs 2 c → d ≡ get_or xs 3 d
      → e ≡ get_or xs 4 e → p ≡ f a → q ≡ f b → r ≡ f c → s ≡ f d → t ≡ f e
      → map f xs ≡ p ∷ q ∷ r ∷ s ∷ t ∷ []
  five [] least below ai bi ci di ei pi qi ri si ti = absurd (omega arith)
  five (u ∷ xs) least below ai bi ci di ei pi qi ri si ti =
      let rest = four xs (omega arith) (omega arith) bi ci di ei qi ri si ti in cc

  pub six : (xs : List X) {a b c d e g : X} {p q r s t u : List ℕ} → 6 ≤ length xs → length xs < 7
      → a ≡ get_or xs 0 a → b ≡ get_or xs 1 b → c ≡ get_or xs 2 c → d ≡ get_or xs 3 d
      → e ≡ get_or xs 4 e → g ≡ get_or xs 5 g
      → p ≡ f a → q ≡ f b → r ≡ f c → s ≡ f d → t ≡ f e → u ≡ f g
      → map f xs ≡ p ∷ q ∷ r ∷ s ∷ t ∷ u ∷ []
  six [] least below ai bi ci di ei gi pi qi ri si ti ui = absurd (omega arith)
  six (v ∷ xs) least below ai bi ci di ei gi pi qi ri si ti ui =
      let rest = five xs (omega arith) (omega arith) bi ci di ei gi qi ri si ti ui in cc
