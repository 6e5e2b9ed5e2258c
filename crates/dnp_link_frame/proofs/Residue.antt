-- Bytes end in their CRC exactly if the register of all of them is 66C5: the CRC is the complement
-- of the register, and what the complement adds doesn't depend on the bytes.
use Rattle.dnp_link_frame.specs.Crc.{register_of, crc_dnp}
use Rattle.line_rules.proofs.{CrcLaws.crc-nil, CrcLinear.byte_steps-turned}
use Rattle.line_rules.proofs.CrcZero.{crc-zero, crc-own, crc-fits, crc-append}
use Rattle.line_rules.proofs.EndingLaws.{apart, ends_in_check-true, ends_in_check-from}
use Rattle.line_rules.specs.Bytes.{AreBytes, low_first}
use Rattle.line_rules.specs.Crc.{bit_step, bit_steps, byte_step}
use Rattle.line_rules.specs.Endings.{EndsInCheck, ends_in_check, body_of}
use Rattle.std.proofs.Common.{◌≡◌, ℕ, ◌-◌, ◌/◌, ◌%◌, ◌^◌, ◌<◌, ◌≤◌, nat_eq, false, List, [], ◌∷◌}
use Rattle.std.proofs.Common.{◌++◌, length, take, get_or, refl, arith, sym, ◌∙◌, ap, subst, lit<}
use Rattle.std.proofs.Common.{lit≤, append_assoc}
use Rattle.std.proofs.{Math.Nat.mod-eq_of_lt, Math.Seq.take-append_seam, lemmas.Bool.eqb-true}
use Rattle.std.proofs.lemmas.Bool.{eqb-false, eq-eqb, agree_below_at, Decides.same_from_decides}
use Rattle.std.proofs.lemmas.List.Elements.{All-take, All-get_or, All-head}
use Rattle.std.{proofs.lemmas.Nat.and_mask, specs.Int.Bits.xor_add_and}
use Rattle.std.specs.{Int.Bits.xor_self, Int.Bits.xor_assoc, Int.Bits.xor_zero_r, Prelude.bit_xor}

-- the complement of a byte, and of two bytes
pub complement : (b : ℕ) → b < 256 → bit_xor b 0xFF ≡ 0xFF - b
complement b byte =
    let sum = xor_add_and b 0xFF in
    let both = and_mask b 8 ∙ mod-eq_of_lt byte in
    omega arith

complemented_low : (r : ℕ) → r < 2 ^ 16 → (0xFFFF - r) % 256 ≡ 0xFF - r % 256
complemented_low r fits = omega arith

complemented_high : (r : ℕ) → r < 2 ^ 16 → (0xFFFF - r) / 256 ≡ 0xFF - r / 256
complemented_high r fits = omega arith

-- what the complement of two bytes adds to the register
complement_adds : byte_step 0xA6BC (byte_step 0xA6BC 0 0xFF) 0xFF ≡ 0x66C5
unfolding byte_step bit_steps bit_step
complement_adds = refl

crc-two : (x : List ℕ) (low high : ℕ) → register_of (x ++ (low ∷ high ∷ []))
    ≡ byte_step 0xA6BC (byte_step 0xA6BC (register_of x) low) high
crc-two x low high =
    ap register_of (sym (append_assoc x (low ∷ []) (high ∷ [])))
    ∙ (crc-append 0xA6BC (lit≤ tt) (lit< tt) 0 (x ++ low ∷ []) high
    ∙ ap (λ r. byte_step 0xA6BC r high) (crc-append 0xA6BC (lit≤ tt) (lit< tt) 0 x low))

-- the register after two more bytes, in terms of their complements
pub register_of-two : (x : List ℕ) (low high : ℕ) → low < 256 → high < 256
    → register_of (x ++ (low ∷ high ∷ []))
    ≡ bit_xor (register_of (x ++ ((0xFF - low) ∷ (0xFF - high) ∷ []))) 0x66C5
register_of-two x low high first second =
    let back : (b : ℕ) → b < 256 → b ≡ bit_xor (0xFF - b) 0xFF =
    λ b byte. let e = complement (0xFF - b) (omega arith) in omega arith in
    crc-two x low high
    ∙ (ap (λ b. byte_step 0xA6BC (byte_step 0xA6BC (register_of x) b) high) (back low first)
    ∙ (ap (λ b. byte_step 0xA6BC (byte_step 0xA6BC (register_of x) (bit_xor (0xFF - low) 0xFF)) b)
    (back high second)
    ∙ (byte_steps-turned 0xA6BC (register_of x) (0xFF - low) (0xFF - high)
    0xFF 0xFF
    ∙ (ap (bit_xor (byte_step 0xA6BC (byte_step 0xA6BC (register_of x) (0xFF - low))
    (0xFF - high))) complement_adds
    ∙ ap (λ r. bit_xor r 0x66C5)
    (sym (crc-two x (0xFF - low) (0xFF - high)))))))

-- A number that turns no bit of another one is 0.
turned_to_self : (a k : ℕ) → bit_xor a k ≡ k → a ≡ 0
turned_to_self a k e =
    sym (xor_zero_r a)
    ∙ (ap (bit_xor a) (sym (xor_self k))
    ∙ (sym (xor_assoc a k k) ∙ (ap (λ z. bit_xor z k) e ∙ xor_self k)))

pub register_of-fits : (x : List ℕ) → AreBytes x → register_of x < 2 ^ 16
register_of-fits x bytes = crc-fits 0xA6BC (lit≤ tt) (lit< tt) 0 x (lit< tt) bytes

-- If the register is the residue, the last two bytes are the CRC.
pub residue-ending : (x : List ℕ) (low high : ℕ) → AreBytes x → low < 256 → high < 256
    → register_of (x ++ (low ∷ high ∷ [])) ≡ 0x66C5 → low ∷ high ∷ [] ≡ low_first (crc_dnp x)
residue-ending x low high bytes first second is =
    let fits = register_of-fits x bytes in
    let none : register_of (x ++ ((0xFF - low) ∷ (0xFF - high) ∷ [])) ≡ 0 =
    turned_to_self _ 0x66C5 (sym (register_of-two x low high first second) ∙ is) in
    let own : (0xFF - low) ∷ (0xFF - high) ∷ [] ≡ low_first (register_of x) =
    crc-zero 0xA6BC (lit≤ tt) (lit< tt) 0 x (0xFF - low) (0xFF - high) (lit< tt) bytes
    (omega arith) (omega arith) none in
    let low_is : 0xFF - low ≡ register_of x % 256 = ap (λ y. get_or y 0 0) own in
    let high_is : 0xFF - high ≡ register_of x / 256 = ap (λ y. get_or y 1 0) own in
    let low_same : low ≡ crc_dnp x % 256 =
    let e = complemented_low (register_of x) fits in omega arith in
    let high_same : high ≡ crc_dnp x / 256 =
    let e = complemented_high (register_of x) fits in omega arith in
    ap (λ b. b ∷ high ∷ []) low_same ∙ ap (λ b. crc_dnp x % 256 ∷ b ∷ []) high_same

-- If the last two bytes are the CRC, the register is the residue.
pub residue-own : (x : List ℕ) → AreBytes x → register_of (x ++ low_first (crc_dnp x)) ≡ 0x66C5
residue-own x bytes =
    let fits = register_of-fits x bytes in
    let low_back : 0xFF - crc_dnp x % 256 ≡ register_of x % 256 =
    let e = complemented_low (register_of x) fits in omega arith in
    let high_back : 0xFF - crc_dnp x / 256 ≡ register_of x / 256 =
    let e = complemented_high (register_of x) fits in omega arith in
    register_of-two x (crc_dnp x % 256) (crc_dnp x / 256) (omega arith) (omega arith)
    ∙ (ap (λ b. bit_xor (register_of (x ++ (b ∷ (0xFF - crc_dnp x / 256) ∷ []))) 0x66C5) low_back
    ∙ (ap (λ b. bit_xor (register_of (x ++ (register_of x % 256 ∷ b ∷ []))) 0x66C5) high_back
    ∙ ap (λ r. bit_xor r 0x66C5)
    (crc-own 0xA6BC (lit≤ tt) (lit< tt) 0 x (lit< tt) bytes)))

-- ---- the residue tells an ending

-- A single byte doesn't leave the residue.
byte_step-other : (b : ℕ) → b < 256 → nat_eq (byte_step 0xA6BC 0 b) 0x66C5 ≡ false
unfolding byte_step bit_steps bit_step
byte_step-other b byte =
    agree_below_at (λ n. nat_eq (byte_step 0xA6BC 0 n) 0x66C5) (λ n. false) 256 b refl byte

residue-long : (x : List ℕ) → AreBytes x → register_of x ≡ 0x66C5 → 2 ≤ length x
residue-long [] bytes is = let e = crc-nil 0xA6BC 0 in absurd (omega arith)
residue-long (b ∷ []) bytes is =
    let last : byte_step 0xA6BC 0 b ≡ 0x66C5 =
    ap (λ r. byte_step 0xA6BC r b) (sym (crc-nil 0xA6BC 0))
    ∙ (sym (crc-append 0xA6BC (lit≤ tt) (lit< tt) 0 [] b) ∙ is) in
    absurd (eqb-false _ _ (byte_step-other b (All-head (λ n. n < 256) b [] bytes)) last)
residue-long (b ∷ c ∷ x) bytes is = omega arith

pub register_of-residue : (x : List ℕ) → AreBytes x → register_of x ≡ 0x66C5
    → EndsInCheck crc_dnp x
register_of-residue x bytes is =
    let long = residue-long x bytes is in
    let parted = apart x long in
    let body : AreBytes (body_of x) = All-take (λ b. b < 256) (length x - 2) x bytes in
    let first : get_or x (length x - 2) 0 < 256 =
    All-get_or (λ b. b < 256) x (length x - 2) 0 (omega arith) bytes in
    let second : get_or x (length x - 1) 0 < 256 =
    All-get_or (λ b. b < 256) x (length x - 1) 0 (omega arith) bytes in
    record {
      body = body_of x;
      ends = parted ∙ ap (λ y. body_of x ++ y)
          (residue-ending (body_of x) _ _ body first second (ap register_of (sym parted) ∙ is));
    }

pub residue-of_ending : (x : List ℕ) → AreBytes x → EndsInCheck crc_dnp x → register_of x ≡ 0x66C5
residue-of_ending x bytes right =
    let front : take (length right.body) x ≡ right.body =
    ap (λ y. take (length right.body) y) right.ends
    ∙ take-append_seam right.body (low_first (crc_dnp right.body)) in
    let P : List ℕ → Type 0 = AreBytes in
    ap register_of right.ends
    ∙ residue-own right.body (subst P front (All-take (λ b. b < 256) (length right.body) x bytes))

pub residue_decides : (x : List ℕ) → AreBytes x
    → nat_eq (register_of x) 0x66C5 ≡ ends_in_check crc_dnp x
residue_decides x bytes =
    same_from_decides (nat_eq (register_of x) 0x66C5) (ends_in_check crc_dnp x) (
      (λ told. register_of-residue x bytes (eqb-true _ _ told)),
      (λ right. eq-eqb _ _ (residue-of_ending x bytes right)),
    )
    (ends_in_check-true crc_dnp x, ends_in_check-from crc_dnp x)
