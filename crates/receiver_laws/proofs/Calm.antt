-- Contiguous ticks have no long silence.
use Rattle.device_model.specs.RtuReads.{has_silence}
use Rattle.std.proofs.Common.{◌≡◌, ◌∙◌, ℕ, zero, suc, ◌<◌, false, List, [], ◌∷◌, ◌++◌, refl, arith}
use Rattle.yasir_ticks.specs.{BurstsOf.IsContiguous, BurstsOf.one, BurstsOf.more, Ticks.silent}
use Rattle.yasir_ticks.specs.declared.tick.Tick.{Tick, TheVariants.Silent, TheVariants.Byte}

silence-byte : (pause b : ℕ) (x : List Tick) → 0 < pause
    → has_silence pause (Byte b ∷ x) ≡ has_silence pause x
unfolding has_silence
silence-byte zero b x some = absurd (omega arith)
silence-byte (suc pause) b x some = refl

silence-one : (pause : ℕ) (x : List Tick) → 1 < pause → (c : ℕ) → IsContiguous c x
    → has_silence pause (Silent ∷ x) ≡ has_silence pause x
unfolding has_silence
silence-one zero x some c contiguous = absurd (omega arith)
silence-one (suc zero) x some c contiguous = absurd (omega arith)
silence-one (suc (suc pause)) x some c (one b) = refl
silence-one (suc (suc pause)) x some c (more b gap rest few contiguous) = refl

silence-few : (pause gap : ℕ) (x : List Tick) → 1 < pause → gap < 2 → (c : ℕ) → IsContiguous c x
    → has_silence pause (silent gap ++ x) ≡ has_silence pause x
silence-few pause zero x some few c contiguous = refl
silence-few pause (suc zero) x some few c contiguous = silence-one pause x some c contiguous
silence-few pause (suc (suc gap)) x some few c contiguous = absurd (omega arith)

silence-none : (pause : ℕ) → has_silence pause [] ≡ false
unfolding has_silence
silence-none pause = refl

pub contiguous-calm : (pause : ℕ) (x : List Tick) → 1 < pause → IsContiguous 2 x
    → has_silence pause x ≡ false
contiguous-calm pause x some (one b) =
    let p : 0 < pause = omega arith in
    silence-byte pause b [] p ∙ silence-none pause
contiguous-calm pause x some (more b gap rest few contiguous) =
    let p : 0 < pause = omega arith in
    silence-byte pause b (silent gap ++ rest) p
    ∙ (silence-few pause gap rest some few 2 contiguous
    ∙ contiguous-calm pause rest some contiguous)
