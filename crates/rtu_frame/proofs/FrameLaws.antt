-- `has_right_ending` decides `HasRightEnding`, and `is_frame` decides `IsFrame`.
use Rattle.line_rules.proofs.EndingLaws.{ends_in_check-true, ends_in_check-from, EndsInCheck-has}
use Rattle.line_rules.{proofs.EndingLaws.EndsInCheck-from, specs.Endings.body_of}
use Rattle.rtu_frame.specs.Crc.{crc_rtu}
use Rattle.rtu_frame.specs.Frame.{IsFrame, HasRightEnding, is_frame, has_right_ending}
use Rattle.std.proofs.Common.{◌≡◌, ℕ, ◌-◌, ◌/◌, ◌%◌, ◌<◌, ◌≤◌, ◌^◌, Bool, true, List, length}
use Rattle.std.proofs.Common.{get_or, arith, sym, ◌∙◌, ap, nat_eq, IsTrue}
use Rattle.std.proofs.{Math.Nat.mod-eq_of_lt, lemmas.Bool.and_parts, lemmas.Bool.and_from}
use Rattle.std.proofs.lemmas.Bool.{eqb-true, eq-eqb, leb-true, le-leb, Decides.same_from_decides}
use Rattle.std.specs.Int.{to_le_bytes, w16}

pub has_right_ending-true : (f : List ℕ) → has_right_ending f ≡ true → HasRightEnding f
unfolding has_right_ending
has_right_ending-true f decided = ends_in_check-true crc_rtu f decided

pub has_right_ending-from : (f : List ℕ) → HasRightEnding f → has_right_ending f ≡ true
unfolding has_right_ending
has_right_ending-from f right = ends_in_check-from crc_rtu f right

pub is_frame-true : (f : List ℕ) → is_frame f ≡ true → IsFrame f
unfolding is_frame
is_frame-true f decided =
    let parts = and_parts _ _ decided in
    let lengths = and_parts _ _ parts.0 in
    record {
      at_least = leb-true 4 (length f) lengths.0;
      at_most = leb-true (length f) 256 lengths.1;
      ends_in_crc = has_right_ending-true f parts.1;
    }

pub is_frame-from : (f : List ℕ) → IsFrame f → is_frame f ≡ true
unfolding is_frame
is_frame-from f frame =
    and_from _ _
    (and_from _ _ (le-leb 4 (length f) frame.at_least) (le-leb (length f) 256 frame.at_most))
    (has_right_ending-from f frame.ends_in_crc)

-- A test that holds exactly for frames is `is_frame`.
pub is_frame_lem : (f : List ℕ) (answer : Bool)
    → (IsTrue answer → IsFrame f) × (IsFrame f → IsTrue answer) → answer ≡ is_frame f
is_frame_lem f answer iff =
    same_from_decides answer (is_frame f) (iff.0, iff.1) (is_frame-true f, is_frame-from f)

-- If the last byte but one is right, the last one decides whether the bytes are a frame.
pub last_byte_decides : (f sent : List ℕ) (r : ℕ) → 4 ≤ length f → length f ≤ 256 → r < 2 ^ 16
    → r ≡ crc_rtu (body_of f)
    → sent ≡ to_le_bytes w16 r → get_or f (length f - 2) 0 ≡ get_or sent 0 0
    → (IsTrue (nat_eq (get_or f (length f - 1) 0) (get_or sent 1 0)) → IsFrame f)
    × (IsFrame f → IsTrue (nat_eq (get_or f (length f - 1) 0) (get_or sent 1 0)))
last_byte_decides f sent r long short fits is written low =
    let second : get_or sent 1 0 ≡ crc_rtu (body_of f) / 256 =
    ap (λ x. get_or x 1 0) written ∙ (mod-eq_of_lt high_fits ∙ ap (λ n. n / 256) is) in
    let first : get_or sent 0 0 ≡ crc_rtu (body_of f) % 256 =
    ap (λ x. get_or x 0 0) written ∙ ap (λ n. n % 256) is in (
      (λ same. record {
        at_least = long;
        at_most = short;
        ends_in_crc = EndsInCheck-from crc_rtu f (omega arith)
            (record { low = low ∙ first; high = eqb-true _ _ same ∙ second });
      }),
      (λ frame. eq-eqb _ _ ((EndsInCheck-has crc_rtu f frame.ends_in_crc).high ∙ sym second)),
    )
  where
    high_fits : r / 256 < 256
    high_fits = omega arith
