-- How many words a command has.
use Rattle.link_replay.specs.{Words.IsCommand, declared.words.Command.Command}
use Rattle.link_replay.specs.declared.words.Command.TheVariants.{Init, Read, Vectors, Seal, Check}
use Rattle.link_replay.specs.declared.words.Command.TheVariants.{Replay, Trial, Poll, Space, Audit}
use Rattle.link_replay.specs.declared.words.Command.TheVariants.{Duplex, TwoWire, LiveSeal, LiveCheck}
use Rattle.link_replay.specs.declared.words.Command.TheVariants.{LiveLine, Help, Version}
use Rattle.command_ends.proofs.Listed.{six}
use Rattle.link_replay.proofs.LateWords.{late-count}
use Rattle.std.proofs.Common.{◌≡◌, ◌⊎◌, ◌+◌, ◌<◌, ◌≤◌, ℕ, List, [], ◌∷◌, length, map, get_or}
use Rattle.std.proofs.Common.{ap, arith, inl, inr}

-- The count is 1, 2, or 4 to 8.
abbrev IsCount : ℕ → Type 0
IsCount n = (1 ≤ n) × (n ≤ 8) × (n ≡ 3 → ⊥)

count-of : (n : ℕ) (words : List (List ℕ)) → IsCount n → length words ≡ n → IsCount (length words)
count-of n words right is = (
  omega (arith, is, right.0),
  omega (arith, is, right.1),
  λ three. right.2 (omega (arith, is, three)),
)

right-count : (n : ℕ) → 1 ≤ n → n ≤ 8 → (n < 3) ⊎ (3 < n) → IsCount n
right-count n least most other = (
  least,
  most,
  λ is. elim other [
    | inl below ↦ omega (arith, is, below)
    | inr above ↦ omega (arith, is, above)
  ],
)

pub words-count : (words : List (List ℕ)) (command : Command) → IsCommand words command
    → IsCount (length words)
words-count words (Init proto profile dir) h =
    count-of 4 words (right-count 4 (omega arith) (omega arith) (inr (omega arith))) (ap length h.2)
words-count words (Read proto) h =
    count-of 2 words (right-count 2 (omega arith) (omega arith) (inl (omega arith))) (ap length h)
words-count words Vectors h =
    count-of 1 words (right-count 1 (omega arith) (omega arith) (inl (omega arith))) (ap length h)
words-count words (Seal proto profile dir) h =
    count-of 5 words (right-count 5 (omega arith) (omega arith) (inr (omega arith))) (ap length h.4)
words-count words (Check proto profile dir) h =
    count-of 5 words (right-count 5 (omega arith) (omega arith) (inr (omega arith))) (ap length h.4)
words-count words (Replay proto profile dir) h =
    count-of 4 words (right-count 4 (omega arith) (omega arith) (inr (omega arith))) (ap length h.2)
words-count words (Trial proto profile seed count) h =
    count-of 4 words (right-count 4 (omega arith) (omega arith) (inr (omega arith))) (ap length h.3)
words-count words (Poll proto profile seed count) h =
    count-of 4 words (right-count 4 (omega arith) (omega arith) (inr (omega arith))) (ap length h.3)
words-count words (Space proto profile) h =
    count-of 2 words (right-count 2 (omega arith) (omega arith) (inl (omega arith))) (ap length h)
words-count words (Audit asked) h =
    let few = late-count asked.tolerance h.1 h.4 in
    count-of (6 + length h.1) words (right-count (6 + length h.1) (omega arith)
    (omega (arith, few)) (inr (omega arith))) (omega (arith, ap length h.5))
words-count words (Duplex proto profile dir) h =
    count-of 4 words (right-count 4 (omega arith) (omega arith) (inr (omega arith))) (ap length h.2)
words-count words (TwoWire proto profile dir side waits) h =
    count-of 7 words (right-count 7 (omega arith) (omega arith) (inr (omega arith))) (ap length h.3)
words-count words (LiveSeal proto profile dir) h =
    count-of 6 words (right-count 6 (omega arith) (omega arith) (inr (omega arith))) (ap length h.4)
words-count words (LiveCheck proto profile dir) h =
    count-of 6 words (right-count 6 (omega arith) (omega arith) (inr (omega arith))) (ap length h.4)
words-count words (LiveLine proto profile dir) h =
    count-of 7 words (right-count 7 (omega arith) (omega arith) (inr (omega arith))) (ap length h.6)
words-count words Help (inl h) =
    count-of 1 words (right-count 1 (omega arith) (omega arith) (inl (omega arith))) (ap length h)
words-count words Help (inr (inl h)) =
    count-of 1 words (right-count 1 (omega arith) (omega arith) (inl (omega arith))) (ap length h)
words-count words Help (inr (inr h)) =
    count-of 1 words (right-count 1 (omega arith) (omega arith) (inl (omega arith))) (ap length h)
words-count words Version (inl h) =
    count-of 1 words (right-count 1 (omega arith) (omega arith) (inl (omega arith))) (ap length h)
words-count words Version (inr h) =
    count-of 1 words (right-count 1 (omega arith) (omega arith) (inl (omega arith))) (ap length h)

-- The bytes of the items of a list of seven.
pub seven : {X : Type 0} (f : X → List ℕ) (xs : List X) {a b c d e g k : X} {p q r s t u v : List ℕ}
    → 7 ≤ length xs → length xs < 8
    → a ≡ get_or xs 0 a → b ≡ get_or xs 1 b → c ≡ get_or xs 2 c → d ≡ get_or xs 3 d
    → e ≡ get_or xs 4 e → g ≡ get_or xs 5 g → k ≡ get_or xs 6 k
    → p ≡ f a → q ≡ f b → r ≡ f c → s ≡ f d → t ≡ f e → u ≡ f g → v ≡ f k
    → map f xs ≡ p ∷ q ∷ r ∷ s ∷ t ∷ u ∷ v ∷ []
seven f [] least below ai bi ci di ei gi ki pi qi ri si ti ui vi = absurd (omega arith)
seven f (w ∷ xs) least below ai bi ci di ei gi ki pi qi ri si ti ui vi =
    let rest = six f xs (omega arith) (omega arith) bi ci di ei gi ki qi ri si ti ui vi in cc

-- The bytes of the items of a list of eight.
pub eight : {X : Type 0} (f : X → List ℕ) (xs : List X) {a b c d e g k m : X}
    {p q r s t u v w : List ℕ} → 8 ≤ length xs → length xs < 9
    → a ≡ get_or xs 0 a → b ≡ get_or xs 1 b → c ≡ get_or xs 2 c → d ≡ get_or xs 3 d
    → e ≡ get_or xs 4 e → g ≡ get_or xs 5 g → k ≡ get_or xs 6 k → m ≡ get_or xs 7 m
    → p ≡ f a → q ≡ f b → r ≡ f c → s ≡ f d → t ≡ f e → u ≡ f g → v ≡ f k → w ≡ f m
    → map f xs ≡ p ∷ q ∷ r ∷ s ∷ t ∷ u ∷ v ∷ w ∷ []
eight f [] least below ai bi ci di ei gi ki mi pi qi ri si ti ui vi wi = absurd (omega arith)
eight f (x ∷ xs) least below ai bi ci di ei gi ki mi pi qi ri si ti ui vi wi =
    let rest = seven f xs (omega arith) (omega arith) bi ci di ei gi ki mi qi ri si ti ui vi wi in
    cc
