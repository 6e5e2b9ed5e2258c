-- Bytes have the CRC 0 exactly if they end in the CRC of those before; so length and CRC tell a
-- frame.
use Rattle.line_rules.proofs.CrcLaws.{crc-nil, crc-parts}
use Rattle.line_rules.proofs.CrcZero.{byte_step-zero, crc-zero, crc-own, crc-append}
use Rattle.line_rules.{proofs.EndingLaws.apart, specs.Bytes.AreBytes}
use Rattle.line_rules.specs.{Bytes.low_first, Crc.byte_step, Crc.crc, Endings.body_of}
use Rattle.rtu_frame.proofs.FrameLaws.{is_frame-true, is_frame-from, has_right_ending-true}
use Rattle.rtu_frame.{proofs.FrameLaws.has_right_ending-from, specs.Crc.crc_rtu}
use Rattle.rtu_frame.specs.Frame.{HasRightEnding, is_frame, has_right_ending}
use Rattle.rtu_frame.specs.{Rtu.RtuStandsFor, declared.rtu.Rtu.Rtu}
use Rattle.std.proofs.Common.{◌≡◌, ℕ, ◌+◌, ◌-◌, ◌<◌, ◌≤◌, nat_eq, nat_le, IsTrue, ◌&&◌, List, []}
use Rattle.std.proofs.Common.{◌∷◌, ◌++◌, length, take, get_or, arith, refl, sym, ◌∙◌, ap, subst}
use Rattle.std.proofs.Common.{lit<, lit≤, length-append}
use Rattle.std.proofs.{Math.Seq.take-append_seam, lemmas.Bool.and_parts, lemmas.Bool.and_from}
use Rattle.std.proofs.lemmas.Bool.{eqb-true, eq-eqb, leb-true, le-leb, Decides.same_from_decides}
use Rattle.std.proofs.lemmas.List.{length-take, Elements.All-nil}
use Rattle.std.proofs.lemmas.List.Elements.{All-push, All-take, All-get_or, All-head, All-append}

-- A single byte, or none, never leaves the register 0.
crc_rtu-long : (x : List ℕ) → AreBytes x → crc_rtu x ≡ 0 → 2 ≤ length x
crc_rtu-long [] bytes none = let e = crc-nil 0xA001 0xFFFF in absurd (omega arith)
crc_rtu-long (b ∷ []) bytes none =
    let byte : b < 256 = All-head (λ n. n < 256) b [] bytes in
    let last = sym (crc-append 0xA001 (lit≤ tt) (lit< tt) 0xFFFF [] b) ∙ none in
    let e = crc-nil 0xA001 0xFFFF in
    let same : 0xFFFF ≡ b = byte_step-zero 0xA001 (lit≤ tt) (lit< tt) 0xFFFF b (lit< tt) byte
    (ap (λ r. byte_step 0xA001 r b) (sym e) ∙ last) in
    absurd (omega arith)
crc_rtu-long (b ∷ c ∷ x) bytes none = omega arith

pub crc_rtu-zero : (x : List ℕ) → AreBytes x → crc_rtu x ≡ 0 → HasRightEnding x
crc_rtu-zero x bytes none =
    let long = crc_rtu-long x bytes none in
    let parted = apart x long in
    let body : AreBytes (body_of x) = All-take (λ b. b < 256) (length x - 2) x bytes in
    let first : get_or x (length x - 2) 0 < 256 =
    All-get_or (λ b. b < 256) x (length x - 2) 0 (omega arith) bytes in
    let second : get_or x (length x - 1) 0 < 256 =
    All-get_or (λ b. b < 256) x (length x - 1) 0 (omega arith) bytes in
    record {
      body = body_of x;
      ends = parted ∙ ap (λ y. body_of x ++ y)
          (crc-zero 0xA001 (lit≤ tt) (lit< tt) 0xFFFF (body_of x) _ _ (lit< tt) body first second
          (ap crc_rtu (sym parted) ∙ none));
    }

pub crc_rtu-right : (x : List ℕ) → AreBytes x → HasRightEnding x → crc_rtu x ≡ 0
crc_rtu-right x bytes right =
    let front : take (length right.body) x ≡ right.body =
    ap (λ y. take (length right.body) y) right.ends
    ∙ take-append_seam right.body (low_first (crc_rtu right.body)) in
    let P : List ℕ → Type 0 = AreBytes in
    ap crc_rtu right.ends
    ∙ crc-own 0xA001 (lit≤ tt) (lit< tt) 0xFFFF right.body (lit< tt)
    (subst P front (All-take (λ b. b < 256) (length right.body) x bytes))

-- The CRC of all bytes tells whether they have a right ending.
pub right_ending_by_crc : (x : List ℕ) → AreBytes x
    → (IsTrue (nat_eq (crc_rtu x) 0) → HasRightEnding x)
    × (HasRightEnding x → IsTrue (nat_eq (crc_rtu x) 0))
right_ending_by_crc x bytes = (
  (λ zero'. crc_rtu-zero x bytes (eqb-true _ _ zero')),
  (λ right. eq-eqb _ _ (crc_rtu-right x bytes right)),
)

-- The length and the CRC of all bytes tell whether they are a frame.
pub is_frame_by_crc : (x : List ℕ) → AreBytes x → length x ≤ 256
    → (nat_le 4 (length x) && nat_eq (crc_rtu x) 0) ≡ is_frame x
is_frame_by_crc x bytes short =
    same_from_decides (nat_le 4 (length x) && nat_eq (crc_rtu x) 0) (is_frame x) (
      (λ told. let parts = and_parts _ _ told in
          let long : 4 ≤ length x = leb-true 4 (length x) parts.0 in
          let right = crc_rtu-zero x bytes (eqb-true _ _ parts.1) in
          record { at_least = long; at_most = short; ends_in_crc = right }),
      (λ frame. and_from _ _ (le-leb 4 (length x) frame.at_least)
          (eq-eqb _ _ (crc_rtu-right x bytes frame.ends_in_crc))),
    )
    (is_frame-true x, is_frame-from x)

pub rtu_fresh : RtuStandsFor (record { len = 0; register = 0xFFFF }) []
rtu_fresh = record {
  count = refl;
  check = sym (crc-nil 0xA001 0xFFFF);
  short = omega arith;
  bytes = All-nil (λ b. b < 256);
}

pub rtu_take : (len register register' b : ℕ) → len < 256 → b < 256
    → register' ≡ byte_step 0xA001 register b
    → (x : List ℕ) → RtuStandsFor (record { len = len; register = register }) x
    → RtuStandsFor (record { len = len + 1; register = register' }) (x ++ b ∷ [])
rtu_take len register register' b room byte next x stands =
    let longer : length (x ++ b ∷ []) ≡ length x + 1 = length-append x (b ∷ []) in
    let count : len ≡ length x = stands.count in
    record {
      count = omega arith;
      check = next ∙ (ap (λ r. byte_step 0xA001 r b) stands.check
          ∙ sym (crc-append 0xA001 (lit≤ tt) (lit< tt) 0xFFFF x b));
      short = omega arith;
      bytes = All-push (λ n. n < 256) x b stands.bytes byte;
    }

pub rtu_take_some : (len register register' n : ℕ) (part : List ℕ) → n ≤ length part
    → n ≤ 256 - len → AreBytes part → register' ≡ crc 0xA001 register (take n part)
    → (x : List ℕ) → RtuStandsFor (record { len = len; register = register }) x
    → RtuStandsFor (record { len = len + n; register = register' }) (x ++ take n part)
rtu_take_some len register register' n part there room bytes next x stands =
    let longer = length-append x (take n part) in
    let some = length-take n part in
    let count : len ≡ length x = stands.count in
    let short : length x ≤ 256 = stands.short in
    record {
      count = omega arith;
      check = next ∙ (ap (λ r. crc 0xA001 r (take n part)) stands.check
          ∙ sym (crc-parts 0xA001 0xFFFF x (take n part)));
      short = omega arith;
      bytes = All-append (λ b. b < 256) x (take n part) stands.bytes
          (All-take (λ b. b < 256) n part bytes);
    }

pub rtu_good : (value : Rtu) (x : List ℕ) → RtuStandsFor value x
    → (nat_le 4 value.len && nat_eq value.register 0) ≡ is_frame x
rtu_good value x stands =
    ap (λ n. nat_le 4 n && nat_eq value.register 0) stands.count
    ∙ (ap (λ r. nat_le 4 (length x) && nat_eq r 0) stands.check
    ∙ is_frame_by_crc x stands.bytes stands.short)

-- The register of a value tells whether its bytes have a right ending.
pub rtu_ends_right : (value : Rtu) (x : List ℕ) → RtuStandsFor value x
    → nat_eq value.register 0 ≡ has_right_ending x
rtu_ends_right value x stands =
    ap (λ r. nat_eq r 0) stands.check
    ∙ same_from_decides (nat_eq (crc_rtu x) 0) (has_right_ending x)
    (right_ending_by_crc x stands.bytes)
    (has_right_ending-true x, has_right_ending-from x)
