-- How the numbers of a session's line are related.
use Rattle.std.specs.Prelude.{◌≡◌, ℕ}
use Rattle.trial_session.specs.declared.summary.Summary.{Summary}

-- Holds if each frame that is drawn is sealed, and the device reads as many frames as the receiver
-- passes.
pub record Tells (counted : Summary) (count : ℕ) : Type 0 where
  pub all_sealed : counted.sealed ≡ count
  pub reads_passed : counted.read ≡ counted.passed
