use Rattle.std.proofs.Common.{◌∙◌, ap, arith, sym, subst}
use Rattle.hex.specs.Hex.{decode_of}
use Rattle.command_ends.specs.KeyText.{IsKeyEnding, BeginsEnding, IsLongestFront}
use Rattle.command_ends.proofs.KeyLemmas.{IsKeySize, refused_digits, refused_ending, key_taken}
use Rattle.command_ends.proofs.key_text.key_of.Goals.{Joined-then-count-lt-MIN_DIGITS}
use Rattle.command_ends.proofs.key_text.key_of.Goals.{then-count-lt-MIN_DIGITS-via-then-count-lt-MIN_DIGITS}
use Rattle.command_ends.proofs.key_text.key_of.Goals.{then-count-lt-MIN_DIGITS-via-else-count-lt-MIN_DIGITS+then-count-eq1}
use Rattle.command_ends.proofs.key_text.key_of.Goals as goal

no_size : (c : Joined-then-count-lt-MIN_DIGITS) → IsKeySize c.digit_count-count.result → ⊥
no_size c size = elim c.then-count-lt-MIN_DIGITS.branch [
  | then-count-lt-MIN_DIGITS-via-then-count-lt-MIN_DIGITS w
      ↦ omega (arith, size.0, w.if-count-lt-MIN_DIGITS.true)
  | then-count-lt-MIN_DIGITS-via-else-count-lt-MIN_DIGITS+then-count-eq1 w
      ↦ omega (arith, size.1, w.if-count-eq1.true)
]

pub returns-then-count-lt-MIN_DIGITS-clause-bad : goal.returns-then-count-lt-MIN_DIGITS-clause-bad
returns-then-count-lt-MIN_DIGITS-clause-bad c =
    let count = c.digit_count-count.ensures in
    refused_digits _ _ count.within count.few count.digits count.stops (no_size c)

pub returns-then-not-is_ending-clause-bad : goal.returns-then-not-is_ending-clause-bad
returns-then-not-is_ending-clause-bad c =
    let count = c.digit_count-count.ensures in
    let size : IsKeySize c.digit_count-count.result = (omega arith, omega arith) in
    refused_ending _ _ count.within count.few count.digits count.stops c.begun_ending.result size
    (λ ends. c.is_ending.ensures.no c.if-not-is_ending.true
    (subst IsKeyEnding (sym c.split_at.ensures.back) ends))
    (subst (λ following. IsLongestFront BeginsEnding following c.begun_ending.result) c.split_at.ensures.back
    c.begun_ending.ensures)

pub returns-clause-key : goal.returns-clause-key
returns-clause-key c =
    let count = c.digit_count-count.ensures in
    let size : IsKeySize c.digit_count-count.result = (omega arith, omega arith) in
    key_taken _ _ count.within count.few count.digits count.stops c.decode.result.items size
    (subst IsKeyEnding c.split_at.ensures.back (c.is_ending.ensures.yes c.if-not-is_ending.false))
    (ap decode_of (sym c.split_at.ensures.front) ∙ c.decode.ensures)
