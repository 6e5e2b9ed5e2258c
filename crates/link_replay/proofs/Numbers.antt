-- If a word spells a number as it would be printed, it is read as that number.
use Rattle.std.proofs.Common.{◌≡◌, ◌∙◌, ℕ, ◌^◌, ◌<◌, true, false, List, Result, Ok, Err, sym, ap}
use Rattle.std.proofs.{lemmas.Fmt.parse-decimal, lemmas.Slice.Eq.bytes_eq-Decides}
use Rattle.std.specs.{Prelude.bytes_eq, Prelude.decimal, Str.Parse.ParsesUnsigned}

module _ {E : Type 0} (word : List ℕ) (r : Result ℕ E) (n : ℕ) (few : n < 2 ^ 64)
    (spelled : word ≡ decimal n) (parsed : ParsesUnsigned 64 10 word r) where
  is-read : r ≡ Ok n
  is-read = parse-decimal 64 n word r few few spelled parsed

  pub not-refused : (e : E) → r ≡ Err e → ⊥
  not-refused e is =
      let both : Ok n ≡ Err e = sym is-read ∙ is in
      cc

  pub not-another : (m : ℕ) (text : List ℕ) → r ≡ Ok m → text ≡ decimal m
      → bytes_eq text word ≡ false → ⊥
  not-another m text is printed other =
      let both : Ok n ≡ Ok m = sym is-read ∙ is in
      let same : n ≡ m = cc in
      let whole : text ≡ word = printed ∙ ap decimal (sym same) ∙ sym spelled in
      let equal : bytes_eq text word ≡ true = (bytes_eq-Decides text word).1 whole in
      let no : true ≡ false = sym equal ∙ other in
      cc
