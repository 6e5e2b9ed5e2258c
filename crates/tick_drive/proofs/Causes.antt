-- The causes of calls at what a consumer holds, one call after the other.
use Rattle.std.proofs.Common.{ℕ, Result, Ok, Bool, false, refl, subst, arith}
use Rattle.yasir_io.specs.Causes.{HasCause}
use Rattle.tick_drive.specs.Consumers.{IsDiskCause, IsSinkCause}

-- ---- if there is no call

pub cause_none : {T E : Type 0} (x : T) (n : ℕ) → HasCause {T = T} {E = E} n n (Ok x)
cause_none x n = record { never_falls = omega arith; failed = tt; same = refl }

pub disk_none : (n : ℕ) → IsDiskCause n n false
disk_none n = record { never_falls = omega arith; failed = λ e. cc; same = λ _. refl }

pub sinks_none : (o l : ℕ) → IsSinkCause o o l l false
sinks_none o l = record {
  out_never_falls = omega arith;
  log_never_falls = omega arith;
  failed = λ e. cc;
  out_same = λ _. refl;
  log_same = λ _. refl;
}

-- ---- if there is one more call

pub cause_then : {T U E : Type 0} (x : T) (n0 n1 n2 : ℕ) (result : Result U E)
    → HasCause {T = T} {E = E} n0 n1 (Ok x) → HasCause n1 n2 result → HasCause n0 n2 result
cause_then x n0 n1 n2 result first second = subst (λ n. HasCause n n2 result) first.same second

pub disk_then : (n0 n1 n2 : ℕ) (is_cause : Bool) → IsDiskCause n0 n1 false
    → IsDiskCause n1 n2 is_cause → IsDiskCause n0 n2 is_cause
disk_then n0 n1 n2 is_cause first second =
    subst (λ n. IsDiskCause n n2 is_cause) (first.same refl) second

pub sinks_then : (o0 o1 o2 l0 l1 l2 : ℕ) (is_cause : Bool) → IsSinkCause o0 o1 l0 l1 false
    → IsSinkCause o1 o2 l1 l2 is_cause → IsSinkCause o0 o2 l0 l2 is_cause
sinks_then o0 o1 o2 l0 l1 l2 is_cause first second =
    subst (λ n. IsSinkCause n o2 l0 l2 is_cause) (first.out_same refl)
    (subst (λ n. IsSinkCause o1 o2 n l2 is_cause) (first.log_same refl) second)
