-- Lines that are no comments: a CR at the end, and bytes that may not come in a content.
use Rattle.std.proofs.Common.{◌≡◌, ◌≢◌, ◌∙◌, ◌==◌, ℕ, suc, Bool, true, false, List, [], ◌∷◌, ◌++◌}
use Rattle.std.proofs.Common.{length, Option, Some, None, refl, ap, cond, arith, append-nil}
use Rattle.yasir_ticks.proofs.Digits.{byte_items-bad, silence_items-bad}
use Rattle.yasir_ticks.specs.Reader.{starts_comment}
use Rattle.yasir_ticks.specs.TickText.{line_items, content_items, without_return, ends_in_return}
use Rattle.yasir_ticks.specs.Ticks.{Item, Item.mark}

pub test_of : (a b : ℕ) → a ≢ b → (a == b) ≡ false
test_of a b h = grind arith

-- A line that is no comment represents its content.
pub line_items-plain : (x : List ℕ) → starts_comment x ≡ false
    → line_items x ≡ content_items (without_return x)
unfolding line_items
line_items-plain [] h = refl
line_items-plain (c ∷ x) h = rw h refl

pub without_return-same : (x : List ℕ) → ends_in_return x ≡ false → without_return x ≡ x
without_return-same [] h = refl
without_return-same (c ∷ []) h = rw h refl
without_return-same (c ∷ d ∷ x) h = ap (λ l. c ∷ l) (without_return-same (d ∷ x) h)

-- What comes before a byte stays when a CR at the end is left out.
pub without_return-append : (p : List ℕ) (b : ℕ) (l : List ℕ)
    → without_return (p ++ b ∷ l) ≡ p ++ without_return (b ∷ l)
without_return-append [] b l = refl
without_return-append (c ∷ []) b l = refl
without_return-append (c ∷ d ∷ p) b l = ap (λ x. c ∷ x) (without_return-append (d ∷ p) b l)

pub without_return-byte : (b : ℕ) (l : List ℕ) → b ≢ 13
    → without_return (b ∷ l) ≡ b ∷ without_return l
without_return-byte b [] h = rw (test_of b 13 h) refl
without_return-byte b (d ∷ l) h = refl

pub starts_comment-append : (x : List ℕ) (b : ℕ) (l : List ℕ) → starts_comment x ≡ false → b ≢ 35
    → starts_comment (x ++ b ∷ l) ≡ false
starts_comment-append [] b l h n = test_of b 35 n
starts_comment-append (c ∷ x) b l h n = h

-- If a byte of a line that is no comment isn't a CR, the content of the line is what comes before
-- the byte, the byte, and what follows without a CR at its end.
pub line_items-byte : (x : List ℕ) (b : ℕ) (l : List ℕ) → starts_comment (x ++ b ∷ l) ≡ false
    → b ≢ 13
    → line_items (x ++ b ∷ l) ≡ content_items (x ++ b ∷ without_return l)
line_items-byte x b l h r =
    line_items-plain (x ++ b ∷ l) h
    ∙ ap content_items (without_return-append x b l ∙ ap (λ y. x ++ y) (without_return-byte b l r))

-- A CR that ends a line that is no comment isn't part of its content.
pub line_items-return : (x : List ℕ) → starts_comment x ≡ false
    → line_items (x ++ 13 ∷ []) ≡ content_items x
line_items-return x h =
    line_items-plain (x ++ 13 ∷ []) (starts_comment-append x 13 [] h (λ e. absurd (omega arith)))
    ∙ ap content_items (without_return-append x 13 [] ∙ append-nil x)

-- A mark followed by any byte has no right form.
pub mark_items-bad : (x : List ℕ) (b : ℕ) (l : List ℕ)
    → cond (length (x ++ b ∷ l) == 0) (Some (mark ∷ [])) None ≡ None
mark_items-bad [] b l = rw (test_of (suc (length l)) 0 (λ e. absurd (omega arith))) refl
mark_items-bad (d ∷ x) b l =
    rw (test_of (suc (length (x ++ b ∷ l))) 0 (λ e. absurd (omega arith))) refl

-- A content that has a CR has no right form.
pub content_items-return : (x l : List ℕ) → content_items (x ++ 13 ∷ l) ≡ None
content_items-return [] l = refl
content_items-return (c ∷ x) l =
    by_sign (c == 43) (c == 45) (c == 37) (byte_items-bad x 13 l refl)
    (silence_items-bad x 13 l refl) (mark_items-bad x 13 l)
  where
    by_sign : (plus minus percent : Bool) → {A B C : Option (List Item)} → A ≡ None → B ≡ None
        → C ≡ None
        → cond plus A (cond minus B (cond percent C None)) ≡ None
    by_sign true m p a b c = a
    by_sign false true p a b c = b
    by_sign false false true a b c = c
    by_sign false false false a b c = refl

-- A line that is no comment has no right form if a CR in it is followed by more bytes.
pub line_items-return_inside : (x : List ℕ) (b : ℕ) (l : List ℕ) → starts_comment x ≡ false
    → line_items (x ++ 13 ∷ b ∷ l) ≡ None
line_items-return_inside x b l h =
    line_items-plain (x ++ 13 ∷ b ∷ l) (starts_comment-append x 13 (b ∷ l) h
    (λ e. absurd (omega arith)))
    ∙ ap content_items (without_return-append x 13 (b ∷ l))
    ∙ content_items-return x (without_return (b ∷ l))

-- A line that is no comment has no right form if what comes before a CR has none, whatever follows
-- the CR.
pub line_items-return_open : (x l : List ℕ) → starts_comment x ≡ false → content_items x ≡ None
    → line_items (x ++ 13 ∷ l) ≡ None
line_items-return_open x [] h n = line_items-return x h ∙ n
line_items-return_open x (b ∷ l) h n = line_items-return_inside x b l h
