-- How a flush is counted.
use Rattle.std.specs.Prelude.{◌≡◌, ℕ, ◌+◌, ◌-◌, ◌^◌, min, Bool, false, Result, OnOk, OnErr}

-- one more than this count, which stops at its greatest value
abbrev pub one_more : ℕ → ℕ
one_more count = min (count + 1) (2 ^ 64 - 1)

-- Holds if a flush that ends well is counted, and no other is. Nothing was written after it then.
pub record IsCounted {T E : Type 0} (before now : ℕ) (unflushed_now : Bool) (result : Result T E) :
    Type 0 where
  pub counted : OnOk result (now ≡ one_more before)
  pub all : OnOk result (unflushed_now ≡ false)
  pub same : OnErr result (now ≡ before)
