-- Lemmas on bytes that are known both before and after a call, or at neither time.
use Rattle.std.proofs.Common.{◌≡◌, ◌∙◌, ℕ, List, Option, None, Some, IsSome, true, false, refl}
use Rattle.std.proofs.Common.{ap, take}
use Rattle.std.specs.Io.KnownBytes.{Consumes, Appends, Keeps, prepend_known, append_known}
use Rattle.yasir_io.proofs.OutputLemmas.{append_known-nil}

-- If a read took bytes, they came before those that are left now.
pub told_taken : (old new : Option (List ℕ)) (bytes : List ℕ) → (IsSome new → IsSome old)
    → Consumes old new bytes → old ≡ prepend_known bytes new
told_taken None None bytes known took = refl
told_taken None (Some ys) bytes known took = let no : false ≡ true = known refl in cc
told_taken (Some xs) None bytes known took = absurd took
told_taken (Some xs) (Some ys) bytes known took = ap Some took

-- If a call kept the bytes, they are the same.
pub told_kept : (old new : Option (List ℕ)) → (IsSome new → IsSome old) → Keeps old new → new ≡ old
told_kept None None known same = refl
told_kept None (Some ys) known same = let no : false ≡ true = known refl in cc
told_kept (Some xs) None known same = absurd same
told_kept (Some xs) (Some ys) known same = ap Some same

-- If a write added bytes, they come after those that there were.
pub told_added : (old new : Option (List ℕ)) (bytes : List ℕ) → (IsSome new → IsSome old)
    → Appends old new bytes → new ≡ append_known old bytes
told_added None None bytes known added = refl
told_added None (Some ys) bytes known added = let no : false ≡ true = known refl in cc
told_added (Some xs) None bytes known added = absurd added
told_added (Some xs) (Some ys) bytes known added = ap Some added

-- If a write added 0 bytes, they are the same.
pub told_none_added : (old new : Option (List ℕ)) (n : ℕ) (bytes : List ℕ)
    → (IsSome new → IsSome old) → n ≡ 0 → Appends old new (take n bytes) → new ≡ old
told_none_added old new n bytes known none added = told_added old new (take n bytes) known added
    ∙ ap (λ k. append_known old (take k bytes)) none ∙ append_known-nil old
