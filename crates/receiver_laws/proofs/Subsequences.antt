-- Which lists are subsequences: no elements, fronts, one list after another, images under a
-- function, and subsequences of subsequences.
use Rattle.std.proofs.Common.{List, [], ◌∷◌, ◌++◌, map}
use Rattle.receiver_laws.specs.Accounted.{IsSubsequence}
use Rattle.receiver_laws.specs.Accounted.IsSubsequence.{none, skip, keep}

pub nothing-is : {X : Type 0} (y : List X) → IsSubsequence [] y
nothing-is [] = none
nothing-is (a ∷ y) = skip (nothing-is y)

pub front-is : {X : Type 0} (x z : List X) → IsSubsequence x (x ++ z)
front-is [] z = nothing-is z
front-is (a ∷ x) z = keep (front-is x z)

pub join-is : {X : Type 0} {x y : List X} (v w : List X) → IsSubsequence x y → IsSubsequence v w
    → IsSubsequence (x ++ v) (y ++ w)
join-is v w none rest = rest
join-is v w (skip is) rest = skip (join-is v w is rest)
join-is v w (keep is) rest = keep (join-is v w is rest)

pub map-is : {X Y : Type 0} (f : X → Y) {x y : List X} → IsSubsequence x y
    → IsSubsequence (map f x) (map f y)
map-is f none = none
map-is f (skip is) = skip (map-is f is)
map-is f (keep is) = keep (map-is f is)

pub chain-is : {X : Type 0} (x y z : List X) → IsSubsequence x y → IsSubsequence y z
    → IsSubsequence x z
chain-is x y [] is none = is
chain-is x y (c ∷ z) is (skip after) = skip (chain-is x y z is after)
chain-is x (b ∷ y) (c ∷ z) (skip is) (keep after) = skip (chain-is x y z is after)
chain-is (a ∷ x) (b ∷ y) (c ∷ z) (keep is) (keep after) = keep (chain-is x y z is after)
