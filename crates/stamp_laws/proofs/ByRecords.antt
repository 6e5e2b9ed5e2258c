-- The first bytes of records tell the silent ticks of a line, if each record is taken for a frame.
use Rattle.line_stamps.specs.Clock.{AllNext, ArePartedRecords, silent_ticks}
use Rattle.{line_stamps.specs.Places.PlacedByte, rtu_frame.specs.Frame.is_frame}
use Rattle.stamp_laws.proofs.{CutLines.AreTold, CutLines.Told, CutReads.is_whole_frame}
use Rattle.stamp_laws.specs.{Cuts.any_next, Cuts.bytes_of_cut, RecordFrames.begins_record}
use Rattle.std.proofs.Common.{◌≡◌, ◌∙◌, ⊎_elim, sym, ap, List, [], ◌∷◌, Bool, true, false, arith}
use Rattle.std.proofs.Common.{le-leb, ◌&&◌, not, refl, filter, cond}
use Rattle.std.proofs.lemmas.Bool.{cases_Bool, le-ltb, lt-leb}

-- the second test, which never holds, as no silence is inside a record
abbrev pub never : PlacedByte → PlacedByte → Bool
never x y = false

one-told : (x y : PlacedByte) → ArePartedRecords x y → AreTold begins_record never x y
one-told x y are =
    ⊎_elim
    (λ (first : y.first ≡ true). record {
      later = are.later;
      ends = first ∙ sym (le-leb 4 (silent_ticks x y) (are.begins first));
      breaks = λ further. absurd (let no : true ≡ false = sym first ∙ further in cc);
    })
    (λ (further : y.first ≡ false). let none = are.goes_on further in record {
      later = are.later;
      ends = further ∙ sym (lt-leb 4 (silent_ticks x y) (omega arith));
      breaks = λ joins. le-ltb 1 (silent_ticks x y) (omega arith);
    })
    (cases_Bool y.first)

pub told : (xs : List PlacedByte) → AllNext ArePartedRecords xs → Told begins_record never xs
told [] are = tt
told (x ∷ []) are = tt
told (x ∷ y ∷ more) are = (one-told x y are.0, told (y ∷ more) are.1)

never-next : (z : List PlacedByte) → any_next never z ≡ false
never-next [] = refl
never-next (x ∷ []) = refl
never-next (x ∷ y ∷ more) = never-next (y ∷ more)

whole : (z : List PlacedByte) → is_whole_frame begins_record never z ≡ is_frame (bytes_of_cut z)
whole z = ap (λ v. not v && is_frame (bytes_of_cut z)) (never-next z)

pub whole-frames : (zs : List (List PlacedByte))
    → filter (is_whole_frame begins_record never) zs ≡ filter (λ z. is_frame (bytes_of_cut z)) zs
whole-frames [] = refl
whole-frames (z ∷ zs) =
    ap (λ v. cond v (z ∷ filter (is_whole_frame begins_record never) zs)
    (filter (is_whole_frame begins_record never) zs)) (whole z)
    ∙ ap (λ w. cond (is_frame (bytes_of_cut z)) (z ∷ w) w) (whole-frames zs)
