-- Frames with consecutive numbers: a frame is among them exactly if it is the one at the place that
-- its number says.
use Rattle.std.proofs.Common.{◌≡◌, ◌∙◌, ℕ, zero, suc, ◌+◌, ◌<◌, ◌≤◌, Bool, true, false, ◌||◌}
use Rattle.std.proofs.Common.{◌&&◌, List, [], ◌∷◌, length, get_or, refl, sym, ap, arith, nat_lt, ◌-◌}
use Rattle.std.proofs.Common.{ne_eqb, eq-eqb, bytes_eq, ⊎_elim}
use Rattle.std.proofs.lemmas.Bool.{cases_lt, lt-ltb, le-ltb}
use Rattle.link_format.specs.NumberedFrame.{NumberedFrame, AreNumberedFrom}
use Rattle.receiver_laws.specs.Accounted.{is_among, is_same_pair}

first-number : (floor : ℕ) (g : NumberedFrame) (frames : List NumberedFrame)
    → AreNumberedFrom floor (g ∷ frames) → g.number ≡ floor + 1
first-number floor g frames turn = let numbers = turn.numbers in cc

later-numbers : (floor : ℕ) (g : NumberedFrame) (frames : List NumberedFrame)
    → AreNumberedFrom floor (g ∷ frames) → AreNumberedFrom (floor + 1) frames
later-numbers floor g frames turn = let numbers = turn.numbers in record { numbers = cc }

other-pair : (g f : NumberedFrame) (b : Bool) → (g.number ≡ f.number → ⊥)
    → (is_same_pair g f || b) ≡ b
other-pair g f b other =
    ap (λ same. same && bytes_eq g.frame f.frame || b) (ne_eqb g.number f.number other)

or-false : (x : Bool) → (x || false) ≡ x
or-false true = refl
or-false false = refl

same-pair : (g f : NumberedFrame) (b : Bool) → g.number ≡ f.number → b ≡ false
    → (is_same_pair g f || b) ≡ bytes_eq g.frame f.frame
same-pair g f b same none =
    ap (λ same. same && bytes_eq g.frame f.frame || b) (eq-eqb g.number f.number same)
    ∙ ap (λ x. bytes_eq g.frame f.frame || x) none
    ∙ or-false (bytes_eq g.frame f.frame)

pub among-below : (floor : ℕ) (frames : List NumberedFrame) (f : NumberedFrame)
    → AreNumberedFrom floor frames → f.number ≤ floor → is_among frames f ≡ false
among-below floor [] f turn below = refl
among-below floor (g ∷ frames) f turn below =
    let first = first-number floor g frames turn in
    other-pair g f (is_among frames f) (λ same. omega (arith, first, same, below))
    ∙ among-below (floor + 1) frames f (later-numbers floor g frames turn) (omega (arith, below))

pub among-past : (floor : ℕ) (frames : List NumberedFrame) (f : NumberedFrame)
    → AreNumberedFrom floor frames → floor + length frames < f.number → is_among frames f ≡ false
among-past floor [] f turn past = refl
among-past floor (g ∷ frames) f turn past =
    let first = first-number floor g frames turn in
    other-pair g f (is_among frames f) (λ same. omega (arith, first, same, past))
    ∙ among-past (floor + 1) frames f (later-numbers floor g frames turn) (omega (arith, past))

pub among-at : (floor : ℕ) (frames : List NumberedFrame) (f d : NumberedFrame) (i : ℕ)
    → AreNumberedFrom floor frames → f.number ≡ floor + i + 1 → i < length frames
    → is_among frames f ≡ bytes_eq (get_or frames i d).frame f.frame
among-at floor [] f d i turn at within = absurd (omega arith)
among-at floor (g ∷ frames) f d zero turn at within =
    let first = first-number floor g frames turn in
    same-pair g f (is_among frames f) (omega (arith, first, at))
    (among-below (floor + 1) frames f (later-numbers floor g frames turn) (omega (arith, at)))
among-at floor (g ∷ frames) f d (suc i) turn at within =
    let first = first-number floor g frames turn in
    other-pair g f (is_among frames f) (λ same. omega (arith, first, at, same))
    ∙ among-at (floor + 1) frames f d i (later-numbers floor g frames turn) (omega (arith, at))
    (omega (arith, within))

-- So a look at that one place tells.
pub among-in-place : (floor : ℕ) (frames : List NumberedFrame) (f : NumberedFrame)
    → AreNumberedFrom floor frames
    → (nat_lt floor f.number && nat_lt (f.number - floor - 1) (length frames)
    && bytes_eq (get_or frames (f.number - floor - 1) f).frame f.frame) ≡ is_among frames f
among-in-place floor frames f turn =
    let i : ℕ = f.number - floor - 1 in
    let same : Bool = bytes_eq (get_or frames i f).frame f.frame in
    ⊎_elim
    (λ above. ⊎_elim
    (λ within.
    ap (λ b. b && nat_lt i (length frames) && same) (lt-ltb floor f.number above)
    ∙ (ap (λ b. b && same) (lt-ltb i (length frames) within)
    ∙ sym (among-at floor frames f f i turn (omega (arith, above)) within)))
    (λ past.
    ap (λ b. b && nat_lt i (length frames) && same) (lt-ltb floor f.number above)
    ∙ (ap (λ b. b && same) (le-ltb i (length frames) past)
    ∙ sym (among-past floor frames f turn (omega (arith, above, past)))))
    (cases_lt i (length frames)))
    (λ below.
    ap (λ b. b && nat_lt i (length frames) && same) (le-ltb floor f.number below)
    ∙ sym (among-below floor frames f turn below))
    (cases_lt floor f.number)
