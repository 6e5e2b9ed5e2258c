-- More bytes than are read.
use Rattle.{line_capture.specs.Inputs.IsTooMuch, std.proofs.Common.◌≡◌}
use Rattle.std.proofs.Common.{◌∙◌, ℕ, ◌+◌, ◌<◌, ◌≤◌, List, ◌++◌, length, take, drop, Option, Some}
use Rattle.std.proofs.Common.{None, refl, sym, ap, arith, append_assoc, length-append, length-drop}
use Rattle.std.proofs.lemmas.List.{take-append-drop, take-take, length-take}
use Rattle.{std.specs.Io.KnownBytes.prepend_known, tick_drive.specs.Input.max_bytes}

prepend_twice : (x y : List ℕ) (known : Option (List ℕ))
    → prepend_known x (prepend_known y known) ≡ prepend_known (x ++ y) known
prepend_twice x y None = refl
prepend_twice x y (Some z) = ap Some (sym (append_assoc x y z))

pub too_much : (a b c : Option (List ℕ)) (bytes piece grown : List ℕ) (n kept : ℕ)
    → a ≡ prepend_known bytes b → b ≡ prepend_known (take n piece) c
    → length bytes + kept ≡ max_bytes → kept < n → n ≤ length piece
    → grown ≡ bytes ++ take kept piece → IsTooMuch a c grown
too_much a b c bytes piece grown n kept first then full less within is =
    let few : kept ≤ n = omega (arith, less) in
    let front : take kept (take n piece) ≡ take kept piece = take-take kept n piece few in
    let parts : take n piece ≡ take kept piece ++ drop kept (take n piece) =
    sym (take-append-drop kept (take n piece)) ∙ ap (λ l. l ++ drop kept (take n piece)) front in
    let long = length-take n piece in
    let left = length-drop kept (take n piece) in
    let size = length-append bytes (take kept piece) in
    let cut = length-take kept piece in record {
      more = drop kept (take n piece);
      some = λ none. let none_left = ap length none in omega (arith, none_left, long, left, less, within);
      came = first ∙ ap (prepend_known bytes) then ∙ prepend_twice bytes (take n piece) c
          ∙ ap (λ l. prepend_known l c) (ap (λ l. bytes ++ l) parts
          ∙ sym (append_assoc bytes (take kept piece) (drop kept (take n piece)))
          ∙ ap (λ l. l ++ drop kept (take n piece)) (sym is));
      full = ap length is ∙ size ∙ omega (arith, cut, full, less, within);
    }
