-- The transmitter needs no tick of the device before its time.
use Rattle.frame_ending.proofs.Emissions.{tick_at-none, tick_at-before, tick_at-from}
use Rattle.frame_ending.proofs.{Longer.extends, Walks.adds_one_tick}
use Rattle.frame_ending.specs.Causal.{IsCausal, MayGoOn, AddsOneTick, going_on}
use Rattle.frame_ending.specs.{Laid.tick_at, Longer.Extends}
use Rattle.frame_ending.proofs.{BurstSteps.longer-end, LastBurst.IsWithin}
use Rattle.frame_ending.proofs.LiveTicks.{live_ticks-whole, live_ticks-before}
use Rattle.frame_ending.specs.LiveBytes.{live_bytes, live_ticks, has_extra}
use Rattle.line_rules.specs.{Rules.Rules, RulesLaws.IsLawful}
use Rattle.link_format.specs.Profile.{Profile, trailer}
use Rattle.link_box.specs.Sealing.{SealState, Judgement, judged, forwarded, emission_by}
use Rattle.link_box.specs.Sealing.{sealer, Judgement.sealed_with, Judgement.unsealed}
use Rattle.link_box.specs.declared.seal_note.UnsealedWhy.TheVariants.{Early, Form, Spent}
use Rattle.std.proofs.Common.{◌≡◌, ◌∙◌, ◌==◌, ℕ, suc, ◌+◌, ◌-◌, ◌<◌, ◌≤◌, nat_lt, Bool, true, false}
use Rattle.std.proofs.Common.{not, ◌||◌, cond, List, [], ◌∷◌, ◌++◌, length, map, refl, sym, ap}
use Rattle.std.proofs.Common.{arith, get_or, ⊎_elim}
use Rattle.std.proofs.lemmas.{Bool.cases_Bool, Bool.cases_lt, List.append-nil}
use Rattle.yasir_ticks.proofs.{BurstsOfLaws.contiguous-more, SilenceLaws.get_or-silence}
use Rattle.yasir_ticks.specs.{Bursts.Burst, Bursts.end_of, BurstsOf.IsContiguous, Ticks.silent}
use Rattle.yasir_ticks.specs.declared.tick.Tick.{Tick, TheVariants.Silent, TheVariants.Byte}

-- ---- judgements

abbrev pub judge_by : Bool → Bool → Bool → ℕ → Judgement
judge_by early wrong last number = cond early (unsealed Early)
    (cond wrong (unsealed Form) (cond last (unsealed Spent) (sealed_with number)))

pub judged-is : (profile : Profile) (rules : Rules) (s : SealState) (d : Burst)
    → judged profile rules s d ≡ judge_by (nat_lt d.start s.earliest_start)
    (has_extra rules d || not (rules.is_frame (live_bytes rules d))) (s.floor == profile.limit)
    (suc s.floor)
unfolding judged
judged-is profile rules s d = refl

early-only : (wrong last : Bool) (number : ℕ) → judge_by false wrong last number ≡ unsealed Early
    → ⊥
early-only true last number is = cc
early-only false true number is = cc
early-only false false number is = cc

pub sealed-right : (early wrong last : Bool) (number n : ℕ)
    → judge_by early wrong last number ≡ sealed_with n → wrong ≡ false
sealed-right true wrong last number n is = cc
sealed-right false true last number n is = cc
sealed-right false false last number n is = refl

pub no_extra : (extra other : Bool) → (extra || other) ≡ false → extra ≡ false
no_extra true other is = is
no_extra false other is = refl

-- ---- emissions

module _ (profile : Profile) (rules : Rules) (lawful : IsLawful rules) where
  -- the tick of the link at place `i`, if the burst is forwarded without a trailer
  pub shown : Burst → ℕ → Tick
  shown d i = tick_at (forwarded rules d [] ∷ []) i

  shown-before : (d : Burst) (i : ℕ) → i < d.start → shown d i ≡ Silent
  unfolding shown
  shown-before d i before = tick_at-before (forwarded rules d []) i before

  pub shown-from : (d : Burst) (i : ℕ) → d.start ≤ i
      → shown d i ≡ get_or (live_ticks rules d) (i - d.start) Silent
  unfolding shown
  shown-from d i from =
      tick_at-from (forwarded rules d []) i from
      ∙ ap (λ x. get_or x (i - d.start) Silent) (append-nil (live_ticks rules d))

  -- The trailer isn't shown before the burst is closed.
  sealed-shown : (d : Burst) (more : List Tick) (i : ℕ) → IsContiguous 4 d.body
      → has_extra rules d ≡ false → i < end_of d + 3
      → tick_at (forwarded rules d (silent 3 ++ more) ∷ []) i ≡ shown d i
  sealed-shown d more i contiguous none before =
      ⊎_elim
      (λ dark. tick_at-before (forwarded rules d (silent 3 ++ more)) i dark
      ∙ sym (shown-before d i dark))
      (λ from.
      let long : length (live_ticks rules d) ≡ length d.body =
      ap length (live_ticks-whole rules lawful d contiguous none) in
      let few : i - d.start < length (live_ticks rules d) + 3 = omega arith in
      tick_at-from (forwarded rules d (silent 3 ++ more)) i from
      ∙ (get_or-silence (live_ticks rules d) 3 (i - d.start) more few ∙ sym (shown-from d i from)))
      (cases_lt i d.start)

  emission-shown : (d : Burst) (i : ℕ) (j : Judgement) → IsContiguous 4 d.body
      → (j ≡ unsealed Early → ⊥)
      → ((n : ℕ) → j ≡ sealed_with n → has_extra rules d ≡ false) → i < end_of d + 3
      → tick_at (emission_by profile rules d j) i ≡ shown d i
  unfolding shown
  emission-shown d i (sealed_with n) contiguous not_early right before =
      sealed-shown d (map (λ b. Byte b) (trailer profile n (live_bytes rules d))) i contiguous
      (right n refl) before
  emission-shown d i (unsealed Early) contiguous not_early right before = absurd (not_early refl)
  emission-shown d i (unsealed Form) contiguous not_early right before = refl
  emission-shown d i (unsealed Spent) contiguous not_early right before = refl

  pub emission-judged : (s : SealState) (d : Burst) (i : ℕ) → IsContiguous 4 d.body
      → nat_lt d.start s.earliest_start ≡ false → i < end_of d + 3
      → tick_at (emission_by profile rules d (judged profile rules s d)) i ≡ shown d i
  emission-judged s d i contiguous late before =
      let wrong : Bool = has_extra rules d || not (rules.is_frame (live_bytes rules d)) in
      let is : judged profile rules s d
      ≡ judge_by false wrong (s.floor == profile.limit) (suc s.floor) =
      judged-is profile rules s d ∙ ap (λ e.
      judge_by e wrong (s.floor == profile.limit) (suc s.floor)) late in
      emission-shown d i (judged profile rules s d) contiguous
      (λ early. early-only wrong (s.floor == profile.limit) (suc s.floor) (sym is ∙ early))
      (λ n sealed. no_extra (has_extra rules d) (not (rules.is_frame (live_bytes rules d)))
      (sealed-right false wrong (s.floor == profile.limit) (suc s.floor) n (sym is ∙ sealed)))
      before

  pub emission-early : (s : SealState) (d : Burst) → nat_lt d.start s.earliest_start ≡ true
      → emission_by profile rules d (judged profile rules s d) ≡ []
  emission-early s d early =
      ap (λ j. emission_by profile rules d j)
      (judged-is profile rules s d
      ∙ ap (λ e. judge_by e (has_extra rules d || not (rules.is_frame (live_bytes rules d)))
      (s.floor == profile.limit) (suc s.floor)) early)

  -- If a burst goes on at tick `m`, what is shown before that tick doesn't change.
  shown-stays : (d : Burst) (m b i : ℕ) → MayGoOn d m → i < m → shown (going_on d m b) i ≡ shown d i
  shown-stays d m b i may before =
      let within : IsWithin m d = record { contiguous = may.contiguous; within = may.after } in
      let close : m < end_of d + 4 = may.near in
      let few : m - end_of d < 4 = omega arith in
      let contiguous : IsContiguous 4 (going_on d m b).body =
      contiguous-more 4 d.body (m - end_of d) b may.contiguous few in
      ⊎_elim
      (λ dark. shown-before (going_on d m b) i dark ∙ sym (shown-before d i dark))
      (λ from.
      let here : d.start + (i - d.start) < m = omega arith in
      shown-from (going_on d m b) i from
      ∙ (live_ticks-before rules lawful m b d within contiguous (i - d.start) here
      ∙ sym (shown-from d i from)))
      (cases_lt i d.start)

  emission-stays : (s : SealState) (d : Burst) (m b i : ℕ) → MayGoOn d m → i < m
      → tick_at ((sealer profile rules).emission s (going_on d m b)) i
      ≡ tick_at ((sealer profile rules).emission s d) i
  emission-stays s d m b i may before =
      let within : IsWithin m d = record { contiguous = may.contiguous; within = may.after } in
      let close : m < end_of d + 4 = may.near in
      let few : m - end_of d < 4 = omega arith in
      let contiguous : IsContiguous 4 (going_on d m b).body =
      contiguous-more 4 d.body (m - end_of d) b may.contiguous few in
      let end : end_of (going_on d m b) ≡ m + 1 = longer-end m b d within in
      let old : i < end_of d + 3 = omega arith in
      let new : i < end_of (going_on d m b) + 3 = omega arith in
      ⊎_elim
      (λ early. ap (λ emissions. tick_at emissions i)
      (emission-early s (going_on d m b) early ∙ sym (emission-early s d early)))
      (λ late. emission-judged s (going_on d m b) i contiguous late new
      ∙ (shown-stays d m b i may before ∙ sym (emission-judged s d i may.contiguous late old)))
      (cases_Bool (nat_lt d.start s.earliest_start))

  emission-dark : (d : Burst) (i : ℕ) (j : Judgement) → i < d.start
      → tick_at (emission_by profile rules d j) i ≡ Silent
  emission-dark d i (sealed_with n) before =
      tick_at-before (forwarded rules d
      (silent 3 ++ map (λ b. Byte b) (trailer profile n (live_bytes rules d)))) i before
  emission-dark d i (unsealed Early) before = tick_at-none i
  emission-dark d i (unsealed Form) before = tick_at-before (forwarded rules d []) i before
  emission-dark d i (unsealed Spent) before = tick_at-before (forwarded rules d []) i before

  longer : (d : Burst) (m b : ℕ) → MayGoOn d m → end_of (going_on d m b) ≡ m + 1
  longer d m b may = let within : IsWithin m d =
      record { contiguous = may.contiguous; within = may.after } in longer-end m b d within

  -- The transmitter's walk is causal. So when a line of the device goes on, its notes and link line
  -- begin with those of the line so far.
  pub sealer-causal : IsCausal (sealer profile rules)
  sealer-causal = record {
    not_before = λ s d contiguous. omega arith;
    in_time = λ s d contiguous. omega arith;
    tick_stays = λ s d m b may early. let close : m < end_of d + 4 = may.near in
        absurd (omega arith);
    note_stays = λ s d m b may early. let close : m < end_of d + 4 = may.near in
        absurd (omega arith);
    next_stays = λ s d m b may early. let close : m < end_of d + 4 = may.near in
        absurd (omega arith);
    emission_settles = λ s d m b may early. let close : m < end_of d + 4 = may.near in
        absurd (omega arith);
    waits = λ s d m b may late. let end : end_of (going_on d m b) ≡ m + 1 = longer d m b may in
        omega arith;
    dark_before = λ s d i contiguous before. emission-dark d i (judged profile rules s d) before;
    emission_stays = λ s d m b i may before. emission-stays s d m b i may before;
  }

  pub sealer-adds_one_tick : (s : SealState) (line : List Tick) (t : Tick)
      → AddsOneTick (sealer profile rules) s line t
  sealer-adds_one_tick s line t = adds_one_tick (sealer profile rules) sealer-causal s line t

  pub sealer-extends : (s : SealState) (line more : List Tick)
      → Extends (sealer profile rules) s line more
  sealer-extends s line more = extends (sealer profile rules) sealer-causal s line more
