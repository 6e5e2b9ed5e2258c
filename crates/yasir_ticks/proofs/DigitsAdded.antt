-- Digits that are appended to a line: those of the first 32 bytes of what is left, or those of the
-- last bytes.
use Rattle.hex.proofs.HexLemmas.{length-encode_with}
use Rattle.hex.specs.Hex.{encode_lower, encode_with, lower_digits}
use Rattle.std.proofs.Common.{◌≡◌, ◌∙◌, ℕ, ◌+◌, ◌*◌, ◌≤◌, List, [], ◌∷◌, ◌++◌, length, take, drop}
use Rattle.std.proofs.{Common.sym, Common.ap, Common.arith, Math.Seq.take-append_seam}
use Rattle.std.proofs.lemmas.List.{append_assoc, append-nil, length-append, take-append-drop}
use Rattle.std.specs.Prelude.{IsOk, OnOk, Result, Ok, Err}
use Rattle.yasir_ticks.proofs.hex_digits.DigitEncoding.{encode-append, encode-take}

-- If a result is `Ok`, then what holds on `Ok` holds.
pub of-ok : {T E : Type 0} (r : Result T E) (P : Type 0) → IsOk r → OnOk r P → P
of-ok (Ok x) P ok holds = holds
of-ok (Err e) P ok holds = absurd cc

pub none-left : (line x : List ℕ) → length x ≡ 0 → line ≡ line ++ encode_lower x
unfolding encode_with
none-left line [] none = sym (append-nil line)
none-left line (b ∷ x) none = absurd (omega arith)

pub long : (line new x : List ℕ) → new ≡ line ++ encode_lower x
    → length new ≡ length line + 2 * length x
long line new x is =
    let size = ap length is ∙ length-append line (encode_lower x) in
    let digits = length-encode_with lower_digits x in
    omega (arith, size, digits)

-- If bytes begin with x, the first of their digits are those of x.
pub front-digits : (x more full digits : List ℕ) → full ≡ x → digits ≡ encode_lower (full ++ more)
    → take (2 * length x) digits ≡ encode_lower x
front-digits x more full digits copied is =
    ap (λ l. take (2 * length x) l) is
    ∙ (ap (λ l. take (2 * length x) (encode_lower (l ++ more))) copied
    ∙ (encode-take lower_digits (x ++ more) (length x)
    ∙ ap encode_lower (take-append_seam x more)))

pub goes_on : (line rest front more new start bytes : List ℕ) (room : ℕ)
    → front ≡ take 32 rest → more ≡ drop 32 rest → new ≡ line ++ encode_lower front
    → (length line + 2 * length rest ≤ room)
    × (line ++ encode_lower rest ≡ start ++ encode_lower bytes)
    → (length new + 2 * length more ≤ room)
    × (new ++ encode_lower more ≡ start ++ encode_lower bytes)
goes_on line rest front more new start bytes room first others is holds =
    let whole : front ++ more ≡ rest =
    ap (λ l. l ++ more) first ∙ (ap (λ l. take 32 rest ++ l) others ∙ take-append-drop 32 rest) in
    let count = ap length whole in
    let parts = length-append front more in
    let size = long line new front is in
    let within = holds.0 in (
      omega (arith, count, parts, size, within),
      ap (λ l. l ++ encode_lower more) is
          ∙ (append_assoc line (encode_lower front) (encode_lower more)
          ∙ (ap (λ l. line ++ l) (sym (encode-append lower_digits front more))
          ∙ (ap (λ l. line ++ encode_lower l) whole ∙ holds.1))),
    )
