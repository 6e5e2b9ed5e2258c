-- The full number of a word depends only on the remainder of the word.
use Rattle.sequence_journal.specs.Numbers.{least_with, full_of}
use Rattle.std.proofs.Common.{◌≡◌, ◌∙◌, ℕ, ◌+◌, ◌-◌, ◌%◌, ◌<◌, nat_le, ap, arith, Some, None}
use Rattle.std.proofs.{Common.if◌then◌else◌, Math.Nat.mod-add-mod, Math.Nat.mod-lt}

least-mod : (m floor w : ℕ) → 0 < m → least_with m floor (w % m) ≡ least_with m floor w
least-mod m floor w some =
    let r : ℕ = (floor + 1) % m in
    let few : r < m = mod-lt (floor + 1) some in
    let one : w % m + m - r ≡ w % m + (m - r) = omega arith in
    let two : w + (m - r) ≡ w + m - r = omega arith in
    ap (λ k. floor + 1 + k)
    (ap (λ k. k % m) one ∙ (mod-add-mod w m (m - r) ∙ ap (λ k. k % m) two))

pub full-mod : (limit m floor w : ℕ) → 0 < m
    → full_of limit m floor (w % m) ≡ full_of limit m floor w
full-mod limit m floor w some =
    ap (λ k. if nat_le k limit then Some k else None) (least-mod m floor w some)
