-- What noted bursts emit has left before another burst may leave.
use Rattle.frame_ending.specs.{Laid.tick_at, Walk.emitted_by, Walk.state_after}
use Rattle.{frame_ending.specs.LiveBytes.live_ticks, line_rules.specs.Rules.Rules}
use Rattle.link_format.specs.Profile.{Profile}
use Rattle.link_box.proofs.Judging.{IsJudged, checked-busy}
use Rattle.link_box.specs.Checking.{state_by, checker}
use Rattle.link_box.specs.Emissions.{spoiled, owed, filled_ticks, delayed, emission_by}
use Rattle.link_box.specs.Verdicts.{CheckState, Verdict, checked}
use Rattle.link_box.specs.Verdicts.Verdict.{passed_with, refused, dropped}
use Rattle.std.proofs.Common.{◌≡◌, ◌∙◌, ◌&&◌, ℕ, suc, ◌≤◌, nat_le, nat_lt, false, List, [], ◌∷◌}
use Rattle.std.proofs.Common.{◌++◌, length, length-append, replicate, refl, ap, arith, append_assoc}
use Rattle.std.proofs.Common.{⊎_elim, subst}
use Rattle.std.proofs.lemmas.{Bool.cases_lt, List.length-replicate}
use Rattle.yasir_ticks.specs.Bursts.{Burst, end_of}
use Rattle.yasir_ticks.specs.declared.tick.Tick.{Tick, TheVariants.Silent, TheVariants.Byte}

pub length-spoiled : (rules : Rules) (h : List ℕ) (x : List Tick)
    → length (spoiled rules h x) ≡ length x
unfolding spoiled
length-spoiled rules h [] = refl
length-spoiled rules h (Silent ∷ x) = ap suc (length-spoiled rules h x)
length-spoiled rules h (Byte b ∷ []) = refl
length-spoiled rules h (Byte b ∷ t ∷ x) = ap suc (length-spoiled rules (h ++ b ∷ []) (t ∷ x))

is_past : (a b i : ℕ) → b ≤ i → (nat_le a i && nat_lt i b) ≡ false
is_past a b i h = grind arith

-- an emission that has ended hides nothing
skip : (e : Burst) (more : List Burst) (i : ℕ) → end_of e ≤ i
    → tick_at (e ∷ more) i ≡ tick_at more i
unfolding tick_at
skip e more i past = rw (is_past e.start (end_of e) i past) refl

module _ (profile : Profile) (rules : Rules) where
  past-verdict : (s : CheckState) (d : Burst) (v : Verdict) (i : ℕ)
      → (state_by profile rules s d v).earliest_start ≤ i → (more : List Burst)
      → tick_at (emission_by profile rules d v ++ more) i ≡ tick_at more i
  past-verdict s d (passed_with number) i past more =
      skip (delayed profile d (live_ticks rules d)) more i (omega arith)
  past-verdict s d (refused why) i past more =
      let fill : List Tick = replicate (owed rules d) (Byte 0) in
      let same = length-spoiled rules [] (filled_ticks rules d) in
      let long = length-append (live_ticks rules d) fill in
      let size = length-replicate (owed rules d) (Byte 0) in
      skip (delayed profile d (spoiled rules [] (filled_ticks rules d))) more i (omega arith)
  past-verdict s d (dropped why) i past more = refl

  -- a burst that isn't dropped didn't start too soon
  pub judged-late : (s : CheckState) (d : Burst) → IsJudged (checked profile rules s d)
      → s.earliest_start ≤ d.start
  judged-late s d judged =
      ⊎_elim
      (λ busy. absurd (subst IsJudged (checked-busy profile rules s d busy) judged))
      (λ late. late)
      (cases_lt d.start s.earliest_start)

  later-by : (s : CheckState) (d : Burst) (v : Verdict)
      → (IsJudged v → s.earliest_start ≤ d.start)
      → s.earliest_start ≤ (state_by profile rules s d v).earliest_start
  later-by s d (passed_with number) late = let h = late tt in omega arith
  later-by s d (refused why) late = let h = late tt in omega arith
  later-by s d (dropped why) late = omega arith

  later-state : (s : CheckState) (ds : List Burst)
      → s.earliest_start ≤ (state_after (checker profile rules) s ds).earliest_start
  later-state s [] = omega arith
  later-state s (d ∷ ds) =
      let one = later-by s d (checked profile rules s d) (judged-late s d) in
      let rest = later-state (state_by profile rules s d (checked profile rules s d)) ds in
      omega arith

  -- from the first tick on at which a burst may start, what was emitted_by hides nothing
  pub past : (s : CheckState) (ds : List Burst) (i : ℕ)
      → (state_after (checker profile rules) s ds).earliest_start ≤ i → (more : List Burst)
      → tick_at (emitted_by (checker profile rules) s ds ++ more) i ≡ tick_at more i
  past s [] i gone more = refl
  past s (d ∷ ds) i gone more =
      let next : CheckState = state_by profile rules s d (checked profile rules s d) in
      let late = later-state next ds in
      let rest : List Burst = emitted_by (checker profile rules) next ds in
      ap (λ x. tick_at x i)
      (append_assoc (emission_by profile rules d (checked profile rules s d)) rest more)
      ∙ (past-verdict s d (checked profile rules s d) i (omega arith) (rest ++ more)
      ∙ past next ds i gone more)
