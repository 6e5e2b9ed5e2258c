-- A field that passes the test for four bytes has these bytes.
use Rattle.std.proofs.Common.{◌≡◌, ℕ, ◌==◌, ◌&&◌, true, List, [], ◌∷◌, length, refl, arith}
use Rattle.std.proofs.lemmas.Bool.{and_parts, eqb-true}
use Rattle.capture_pcap.specs.Words.{is_field}

pub field_is : (a b c d : ℕ) (field : List ℕ) → length field ≡ 4 → is_field a b c d field ≡ true
    → field ≡ a ∷ b ∷ c ∷ d ∷ []
field_is a b c d (e ∷ f ∷ g ∷ i ∷ []) four h =
    let three = and_parts ((e == a) && (f == b) && (g == c)) (i == d) h in
    let two = and_parts ((e == a) && (f == b)) (g == c) three.0 in
    let one = and_parts (e == a) (f == b) two.0 in
    rw (eqb-true e a one.0, eqb-true f b one.1, eqb-true g c two.1, eqb-true i d three.1) refl
field_is a b c d field four h = absurd (omega arith)
