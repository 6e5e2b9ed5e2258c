-- What was given as times of a capture is taken as the same ticks, over plain numbers: a character
-- of `one` parts, and starts of ticks in parts, each at most half of `off` parts from its own.
use Rattle.line_stamps.proofs.Clocks.{tick-far, tick-near}
use Rattle.line_stamps.proofs.RoundingLaws.{rounded-is, apart-is}
use Rattle.line_stamps.specs.{Parts.rounded, Parts.ticks_apart, Places.tick_placed_at}
use Rattle.std.proofs.Common.{◌≡◌, ◌∙◌, ℕ, suc, ◌+◌, ◌-◌, ◌*◌, ◌<◌, ◌≤◌, ⊎_elim, sym, ap, add-mul}
use Rattle.std.proofs.{Common.arith, Math.Nat.mul-le-mul_right, lemmas.Bool.cases_lt}

module _ (one off : ℕ) (some : 0 < one) (small : 2 * off < one) (start : ℕ → ℕ)
    (most : (n : ℕ) → 2 * start n ≤ 2 * (n * one) + off)
    (least : (n : ℕ) → 2 * (n * one) ≤ 2 * start n + off) where
  -- The start of a tick isn't before that of an earlier one.
  pub start-rises : (m n : ℕ) → m ≤ n → start m ≤ start n
  start-rises m n h =
      ⊎_elim
      (λ before. let more : suc m ≤ n = omega arith in
      let long : suc m * one ≤ n * one = mul-le-mul_right one more in
      let e : suc m * one ≡ m * one + one = omega arith in
      let a = most m in
      let b = least n in
      omega arith)
      (λ (same : n ≤ m). let e : m ≡ n = omega arith in
      let s : start m ≡ start n = ap start e in omega arith)
      (cases_lt m n)

  -- The tick of a byte that was in tick m + k is k, by the time since the start of tick m.
  pub tick-is : (m r k : ℕ) (time : ℕ) → m ≤ r → r ≤ m + k
      → time ≡ start r - start m + (m + k - r) * one → rounded time one ≡ k
  tick-is m r k time from before is =
      let rises = start-rises m r from in
      let a = most m in
      let b = least m in
      let a' = most r in
      let b' = least r in
      let e : (m + k - r) * one + r * one ≡ (m + k) * one =
      sym (add-mul (m + k - r) r one) ∙ ap (λ n. n * one) (omega arith) in
      let f : (m + k) * one ≡ m * one + k * one = add-mul m k one in
      rounded-is one some time k (omega arith) (omega arith)

  module _ (m r k next : ℕ) (time later : ℕ) (from : m ≤ r) (before : r ≤ m + k)
      (is : time ≡ start r - start m + (m + k - r) * one) where
    -- From such a byte to the start of a later tick there are as many ticks as the difference of
    -- the two.
    pub stamped-apart : k < next → later ≡ start (m + next) - start m
        → ticks_apart (later - time) one ≡ next - k
    stamped-apart behind at =
        let rises = start-rises m r from in
        let rises' = start-rises m (m + next) (omega arith) in
        let a = most (m + next) in
        let b = least (m + next) in
        let a' = most r in
        let b' = least r in
        let e : (m + k - r) * one + r * one ≡ (m + k) * one =
        sym (add-mul (m + k - r) r one) ∙ ap (λ n. n * one) (omega arith) in
        let f : (next - k) * one + (m + k) * one ≡ (m + next) * one =
        sym (add-mul (next - k) (m + k) one) ∙ ap (λ n. n * one) (omega arith) in
        let g : one ≤ (next - k) * one =
        (let w : 1 ≤ next - k = omega arith in
        let h : 1 * one ≤ (next - k) * one = mul-le-mul_right one w in omega arith) in
        apart-is one some (later - time) (next - k) (omega arith) (omega arith) (omega arith)

    -- A byte in that later tick doesn't overlap the byte before it.
    pub stamped-free : k < next → later ≡ start (m + next) - start m
        → one ≤ 2 * (later - time)
    stamped-free behind at =
        let rises = start-rises m r from in
        let rises' = start-rises m (m + next) (omega arith) in
        let b = least (m + next) in
        let a' = most r in
        let e : (m + k - r) * one + r * one ≡ (m + k) * one =
        sym (add-mul (m + k - r) r one) ∙ ap (λ n. n * one) (omega arith) in
        let f : (next - k) * one + (m + k) * one ≡ (m + next) * one =
        sym (add-mul (next - k) (m + k) one) ∙ ap (λ n. n * one) (omega arith) in
        let g : one ≤ (next - k) * one =
        (let w : 1 ≤ next - k = omega arith in
        let h : 1 * one ≤ (next - k) * one = mul-le-mul_right one w in omega arith) in
        omega arith

    -- From the start of a byte to the end of its character there is one tick.
    pub following-apart : later ≡ time + one → ticks_apart (later - time) one ≡ 1
    following-apart at =
        apart-is one some (later - time) 1 (omega arith) (omega arith) (omega arith)

  -- A byte whose nearest tick is `next` is in that tick, whether drift is taken up or not.
  pub tick-later : (k next time : ℕ) → k < next → rounded time one ≡ next
      → tick_placed_at (next - k) k time one ≡ next
  tick-later k next time behind is =
      ⊎_elim
      (λ (far : 321 < next - k). tick-far (next - k) k time one far ∙ omega arith)
      (λ (near : next - k ≤ 321). tick-near (next - k) k time one near ∙ omega arith)
      (cases_lt 321 (next - k))
