-- If numbers rise on both sides, the frames that passed and were sealed with their numbers are a
-- subsequence of the sealed ones.
use Rattle.line_rules.specs.{Rules.Rules, RulesLaws.IsLawful}
use Rattle.link_format.specs.NumberedFrame.{NumberedFrame, numbers_of}
use Rattle.{link_format.specs.Profile.Profile, receiver_laws.proofs.Subsequences.nothing-is}
use Rattle.receiver_laws.specs.Accounted.{Pair, pair_of, pairs_of, is_same_pair, is_among}
use Rattle.receiver_laws.specs.Accounted.{rightly_passed, IsSubsequence, IsAccountedFor}
use Rattle.receiver_laws.specs.Accounted.IsSubsequence.{none, skip, keep}
use Rattle.link_box.proofs.SealNumbers.{sealed-numbered}
use Rattle.link_box.specs.Sealing.{sealed}
use Rattle.sequence_journal.specs.Uptimes.{RiseFrom}
use Rattle.std.proofs.Common.{◌≡◌, ◌∙◌, ◌==◌, ◌&&◌, ◌||◌, ℕ, zero, suc, ◌+◌, ◌<◌, ◌≤◌, Bool, true}
use Rattle.std.proofs.Common.{false, List, [], ◌∷◌, length, refl, sym, ap, subst, arith, ⊎_elim}
use Rattle.std.proofs.Common.{if◌then◌else◌}
use Rattle.std.proofs.lemmas.Bool.{cases_lt, cases_eq, cases_Bool, eq-eqb, ne_eqb, and_left}
use Rattle.std.{proofs.lemmas.Slice.Eq.bytes_eq-Decides, specs.List.range_with_len}
use Rattle.{std.specs.Prelude.bytes_eq, yasir_ticks.specs.declared.tick.Tick.Tick}

-- ---- numbers that rise

range-rises : (floor n : ℕ) → RiseFrom floor (range_with_len (floor + 1) n)
range-rises floor zero = tt
range-rises floor (suc n) = (omega arith, range-rises (floor + 1) n)

-- ---- which frames are among others

other-number : (g f : NumberedFrame) → (g.number ≡ f.number → ⊥) → is_same_pair g f ≡ false
other-number g f other = and_left (g.number == f.number) (bytes_eq g.frame f.frame)
    (ne_eqb g.number f.number other)

-- A frame isn't among frames whose numbers are all greater.
below-all : (frames : List NumberedFrame) (f : NumberedFrame) (m : ℕ) → f.number ≤ m
    → RiseFrom m (numbers_of frames) → is_among frames f ≡ false
below-all [] f m below rise = refl
below-all (g ∷ frames) f m below rise =
    let first = rise.0 in
    let other : g.number ≡ f.number → ⊥ = λ same. absurd (omega arith) in
    ap (λ b. b || is_among frames f) (other-number g f other)
    ∙ below-all frames f g.number (omega arith) rise.1

module _ (g : NumberedFrame) (frames : List NumberedFrame) where
  -- If all of these frames have numbers greater than `g`, none of them is `g`.
  behind : (passed_ones : List NumberedFrame) (m : ℕ) → g.number ≤ m
      → RiseFrom m (numbers_of passed_ones)
      → rightly_passed (g ∷ frames) passed_ones ≡ rightly_passed frames passed_ones
  behind [] m below rise = refl
  behind (f ∷ passed_ones) m below rise =
      let first = rise.0 in
      let other : g.number ≡ f.number → ⊥ = λ same. absurd (omega arith) in
      let here : is_among (g ∷ frames) f ≡ is_among frames f =
      ap (λ b. b || is_among frames f) (other-number g f other) in
      let rest = behind passed_ones f.number (omega arith) rise.1 in
      ap (λ b. if b then f ∷ rightly_passed (g ∷ frames) passed_ones
      else rightly_passed (g ∷ frames) passed_ones) here
      ∙ ap (λ l. if is_among frames f then f ∷ l else l) rest

-- ---- the frames that passed and were sealed with their numbers

same-pair : (g f : NumberedFrame) → g.number ≡ f.number → bytes_eq g.frame f.frame ≡ true
    → pair_of f ≡ pair_of g
same-pair g f same is =
    let frame = (bytes_eq-Decides g.frame f.frame).0 is in
    let P : ℕ → List ℕ → Type 0 = λ n x. pair_of f ≡ record { number = n; frame = x } in
    subst (λ n. P n g.frame) (sym same) (subst (λ x. P f.number x) (sym frame) refl)

abbrev IsPart : List NumberedFrame → List NumberedFrame → Type 0
IsPart frames passed_ones =
    IsSubsequence (pairs_of (rightly_passed frames passed_ones)) (pairs_of frames)

module _ (g : NumberedFrame) (frames : List NumberedFrame)
    (rises : RiseFrom g.number (numbers_of frames))
    (part : (passed_ones : List NumberedFrame) (m : ℕ) → RiseFrom m (numbers_of passed_ones)
    → IsPart frames passed_ones) where
  -- A frame that isn't among the sealed ones is left out.
  left-out : (f : NumberedFrame) (passed_ones : List NumberedFrame)
      → is_among (g ∷ frames) f ≡ false → IsPart (g ∷ frames) passed_ones
      → IsPart (g ∷ frames) (f ∷ passed_ones)
  left-out f passed_ones not_there is =
      let P : Bool → Type 0 = λ b. IsSubsequence (pairs_of (if b
      then f ∷ rightly_passed (g ∷ frames) passed_ones
      else rightly_passed (g ∷ frames) passed_ones)) (pairs_of (g ∷ frames)) in
      subst P (sym not_there) is

  -- The next frame that passed is the first sealed one.
  taken : (f : NumberedFrame) (passed_ones : List NumberedFrame) → g.number ≡ f.number
      → bytes_eq g.frame f.frame ≡ true → RiseFrom f.number (numbers_of passed_ones)
      → IsPart (g ∷ frames) (f ∷ passed_ones)
  taken f passed_ones same is rise =
      let here : is_same_pair g f ≡ true =
      ap (λ b. b && bytes_eq g.frame f.frame) (eq-eqb g.number f.number same) ∙ is in
      let among : is_among (g ∷ frames) f ≡ true = ap (λ b. b || is_among frames f) here in
      let P : Bool → Type 0 = λ b. IsSubsequence (pairs_of (if b
      then f ∷ rightly_passed (g ∷ frames) passed_ones
      else rightly_passed (g ∷ frames) passed_ones)) (pairs_of (g ∷ frames)) in
      let Q : Pair → List NumberedFrame → Type 0 = λ a l.
      IsSubsequence (a ∷ pairs_of l) (pairs_of (g ∷ frames)) in
      let kept : Q (pair_of g) (rightly_passed frames passed_ones) =
      keep (part passed_ones f.number rise) in
      let moved : Q (pair_of g) (rightly_passed (g ∷ frames) passed_ones) =
      subst (λ l. Q (pair_of g) l)
      (sym (behind g frames passed_ones f.number (omega arith) rise)) kept in
      subst P (sym among)
      (subst (λ a. Q a (rightly_passed (g ∷ frames) passed_ones)) (sym (same-pair g f same is))
      moved)

  one_more : (passed_ones : List NumberedFrame) (m : ℕ) → RiseFrom m (numbers_of passed_ones)
      → IsPart (g ∷ frames) passed_ones
  one_more [] m rise = nothing-is (pairs_of (g ∷ frames))
  one_more (f ∷ passed_ones) m rise =
      let rest : IsPart (g ∷ frames) passed_ones = one_more passed_ones f.number rise.1 in
      ⊎_elim
      (λ before. left-out f passed_ones
      (below-all (g ∷ frames) f f.number (omega arith) (before, rises)) rest)
      (λ not_before. ⊎_elim
      (λ same. ⊎_elim
      (λ is. taken f passed_ones same is rise.1)
      (λ isn't. left-out f passed_ones
      (ap (λ b. b || is_among frames f)
      (ap (λ b. b && bytes_eq g.frame f.frame) (eq-eqb g.number f.number same) ∙ isn't)
      ∙ below-all frames f g.number (omega arith) rises) rest)
      (cases_Bool (bytes_eq g.frame f.frame)))
      (λ other. let later : g.number < f.number = omega arith in
      let P : List NumberedFrame → Type 0 = λ l.
      IsSubsequence (pairs_of l) (pairs_of (g ∷ frames)) in
      subst P (sym (behind g frames (f ∷ passed_ones) g.number (omega arith) (later, rise.1)))
      (skip (part (f ∷ passed_ones) m rise)))
      (cases_eq g.number f.number))
      (cases_lt f.number g.number)

part-of : (frames : List NumberedFrame) (floor : ℕ) → RiseFrom floor (numbers_of frames)
    → (passed_ones : List NumberedFrame) (m : ℕ) → RiseFrom m (numbers_of passed_ones)
    → IsPart frames passed_ones
part-of [] floor rises passed_ones m rise = nothing-sealed passed_ones
  where
    nothing-sealed : (passed_ones : List NumberedFrame) → IsPart [] passed_ones
    nothing-sealed [] = none
    nothing-sealed (f ∷ passed_ones) = nothing-sealed passed_ones
part-of (g ∷ frames) floor rises passed_ones m rise =
    one_more g frames rises.1 (part-of frames g.number rises.1) passed_ones m rise

-- ---- the law

-- The numbers of the frames that a transmitter seals of a line rise.
pub sealed-rise : (profile : Profile) (rules : Rules) → IsLawful rules → (floor : ℕ)
    (line : List Tick) → RiseFrom floor (numbers_of (sealed profile rules floor line))
sealed-rise profile rules lawful floor line =
    subst (λ l. RiseFrom floor l) (sym (sealed-numbered profile rules lawful floor line).numbers)
    (range-rises floor (length (sealed profile rules floor line)))

-- If numbers rise on both sides, the frames that passed are accounted for.
pub rising-accounted : (seal_floor check_floor : ℕ) (sealed_ones passed_ones : List NumberedFrame)
    → RiseFrom seal_floor (numbers_of sealed_ones) → RiseFrom check_floor (numbers_of passed_ones)
    → IsAccountedFor seal_floor check_floor sealed_ones passed_ones
rising-accounted seal_floor check_floor sealed_ones passed_ones sealing passing = record {
  subsequence = part-of sealed_ones seal_floor sealing passed_ones check_floor passing;
  sealed_rise = sealing;
  passed_rise = passing;
}
