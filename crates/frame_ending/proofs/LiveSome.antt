-- Each burst has a live byte.
use Rattle.frame_ending.proofs.Rooms.{FitFirst, within_room-fit}
use Rattle.frame_ending.specs.LiveBytes.{before_pause, up_to_byte, within_room, live_bytes}
use Rattle.frame_ending.specs.LiveBytes.{live_end}
use Rattle.line_rules.specs.{Rules.Rules, RulesLaws.IsLawful}
use Rattle.std.proofs.Common.{◌≡◌, ℕ, zero, suc, ◌<◌, List, [], ◌∷◌, ◌++◌, length, arith, refl, ◌∙◌}
use Rattle.std.proofs.Common.{ap, ⊎_elim}
use Rattle.yasir_ticks.specs.{Bursts.Burst, BurstsOf.IsContiguous, BurstsOf.one, BurstsOf.more}
use Rattle.yasir_ticks.specs.Ticks.{bytes_in, silent}
use Rattle.yasir_ticks.specs.declared.tick.Tick.{Tick, TheVariants.Byte}

contiguous-begins : (cut : ℕ) (x : List Tick) → IsContiguous cut x
    → (b : ℕ) × (l : List Tick) × (x ≡ Byte b ∷ l)
contiguous-begins cut x (one b) = (b, [], refl)
contiguous-begins cut x (more b gap rest few contiguous) = (b, silent gap ++ rest, refl)

module _ (rules : Rules) (lawful : IsLawful rules) where
  some-fit : (live x : List ℕ) (b : ℕ) → FitFirst rules live (b ∷ x) → 0 < length live
  some-fit [] x b fit =
      let some = lawful.some_room in
      ⊎_elim
      (λ all. let none : b ∷ x ≡ [] = fit.whole ∙ all.0 in cc)
      (λ full. absurd (omega arith))
      fit.room
  some-fit (c ∷ live) x b fit = omega arith

  up_to-first : (k b : ℕ) (l : List Tick) → 0 < k → 0 < length (up_to_byte k (Byte b ∷ l))
  unfolding up_to_byte
  up_to-first zero b l some = absurd (omega arith)
  up_to-first (suc k) b l some = omega arith

  some-live : (body : List Tick) (b : ℕ) (l : List Tick) → body ≡ Byte b ∷ l
      → 0 < length (within_room rules (bytes_in (before_pause body)))
  unfolding before_pause
  some-live body b l begins =
      let x : List ℕ = bytes_in (before_pause l) in
      let same : length (within_room rules (bytes_in (before_pause body)))
      ≡ length (within_room rules (b ∷ x)) =
      ap (λ y. length (within_room rules (bytes_in (before_pause y)))) begins in
      let some = some-fit (within_room rules (b ∷ x)) x b (within_room-fit rules lawful (b ∷ x)) in
      omega arith

  pub live-some : (d : Burst) → IsContiguous 4 d.body → 0 < length (live_bytes rules d)
  live-some d contiguous =
      let first = contiguous-begins 4 d.body contiguous in
      some-live d.body first.0 first.1 first.2

  -- the last live byte of a burst doesn't come before its first byte
  pub live_end-later : (d : Burst) → IsContiguous 4 d.body → d.start < live_end rules d
  live_end-later d contiguous =
      let first = contiguous-begins 4 d.body contiguous in
      let some = live-some d contiguous in
      let k : ℕ = length (live_bytes rules d) in
      let long : length (up_to_byte k d.body) ≡ length (up_to_byte k (Byte first.0 ∷ first.1)) =
      ap (λ y. length (up_to_byte k y)) first.2 in
      let ticks = up_to-first k first.0 first.1 some in
      omega arith
