-- The receiver needs no tick of the link before its time.
use Rattle.frame_ending.proofs.Emissions.{tick_at-none, tick_at-before, tick_at-from}
use Rattle.frame_ending.{proofs.Longer.extends, proofs.Walks.adds_one_tick, specs.Causal.IsCausal}
use Rattle.frame_ending.specs.{Causal.MayGoOn, Causal.AddsOneTick, Causal.going_on, Laid.tick_at}
use Rattle.{frame_ending.specs.Longer.Extends, frame_ending.proofs.LastBurst.IsWithin}
use Rattle.frame_ending.proofs.{LiveTicks.live_ticks-before, Pauses.up_to_byte-le}
use Rattle.frame_ending.specs.LiveBytes.{live_bytes, live_ticks, live_end}
use Rattle.line_rules.specs.{Rules.Rules, Rules.lacking_of, RulesLaws.IsLawful, RulesLaws.IsHeaded}
use Rattle.link_format.specs.Profile.{Profile, delay}
use Rattle.link_box.proofs.HeadTicks.{before_pause-le, short-pause}
use Rattle.link_box.proofs.Judging.{IsJudged, judged-verdict, checked-good, tick-busy}
use Rattle.link_box.proofs.Judging.{tick-short, tick-bad, tick-good}
use Rattle.link_box.proofs.Settling.{IsSettled, trailer_tick-soon, good-waits, long-bytes}
use Rattle.link_box.proofs.Settling.{long-header, settled, waits-late, waits-header, waits-on}
use Rattle.link_box.specs.Checking.{trailer_tick, state_by, note_by, checker}
use Rattle.link_box.specs.Checking.FullNote.{passed_note}
use Rattle.link_box.specs.Emissions.{spoiled, owed, filled_ticks, delayed, emission_by}
use Rattle.link_box.specs.Timely.{IsTimely}
use Rattle.link_box.specs.Verdicts.{CheckState, Verdict, checked}
use Rattle.link_box.specs.Verdicts.Verdict.{passed_with, refused, dropped}
use Rattle.std.proofs.Common.{◌≡◌, ◌∙◌, ℕ, zero, suc, ◌+◌, ◌-◌, ◌<◌, ◌≤◌, true, List, [], ◌∷◌, ◌++◌}
use Rattle.std.proofs.Common.{length, length-append, take, replicate, get_or, refl, sym, ap, subst}
use Rattle.std.proofs.Common.{arith, ⊎_elim}
use Rattle.std.proofs.lemmas.{Bool.cases_Bool, Bool.cases_lt, List.get_or_append_left}
use Rattle.yasir_ticks.proofs.BurstsOfLaws.{contiguous-more}
use Rattle.yasir_ticks.specs.{Bursts.Burst, Bursts.end_of, BurstsOf.IsContiguous}
use Rattle.yasir_ticks.specs.declared.tick.Tick.{Tick, TheVariants.Silent, TheVariants.Byte}

-- ---- spoiled ticks

-- except for the last one, spoiled ticks are the ticks themselves
pub spoiled-front : (rules : Rules) (h : List ℕ) (x : List Tick) (k : ℕ) → k + 1 < length x
    → get_or (spoiled rules h x) k Silent ≡ get_or x k Silent
unfolding spoiled
spoiled-front rules h [] k within = absurd (omega arith)
spoiled-front rules h (Silent ∷ x) zero within = refl
spoiled-front rules h (Silent ∷ x) (suc k) within =
    let rest : k + 1 < length x = omega arith in spoiled-front rules h x k rest
spoiled-front rules h (Byte b ∷ []) k within = absurd (omega arith)
spoiled-front rules h (Byte b ∷ t ∷ x) zero within = refl
spoiled-front rules h (Byte b ∷ t ∷ x) (suc k) within =
    let rest : k + 1 < length (t ∷ x) = omega arith in
    spoiled-front rules (h ++ b ∷ []) (t ∷ x) k rest

-- ---- emissions

module _ (profile : Profile) (rules : Rules) where
  -- an emission is silent until its first byte leaves
  pub emission-dark : (d : Burst) (i : ℕ) (v : Verdict) → i < delay profile + d.start
      → tick_at (emission_by profile rules d v) i ≡ Silent
  emission-dark d i (passed_with number) before =
      tick_at-before (delayed profile d (live_ticks rules d)) i before
  emission-dark d i (refused why) before =
      tick_at-before (delayed profile d (spoiled rules [] (filled_ticks rules d))) i before
  emission-dark d i (dropped why) before = tick_at-none i

  -- until its last live byte leaves, a burst that isn't dropped leaves as it came
  pub emission-shown : (d : Burst) (i : ℕ) (v : Verdict) → IsJudged v
      → delay profile + d.start ≤ i → i + 1 < delay profile + live_end rules d
      → tick_at (emission_by profile rules d v) i
      ≡ get_or (live_ticks rules d) (i - (delay profile + d.start)) Silent
  emission-shown d i (passed_with number) judged from before =
      tick_at-from (delayed profile d (live_ticks rules d)) i from
  emission-shown d i (refused why) judged from before =
      let k : ℕ = i - (delay profile + d.start) in
      let fill : List Tick = replicate (owed rules d) (Byte 0) in
      let long = length-append (live_ticks rules d) fill in
      let last : k + 1 < length (filled_ticks rules d) = omega arith in
      let within : k < length (live_ticks rules d) = omega arith in
      tick_at-from (delayed profile d (spoiled rules [] (filled_ticks rules d))) i from
      ∙ (spoiled-front rules [] (filled_ticks rules d) k last
      ∙ get_or_append_left (live_ticks rules d) fill Silent k within)
  emission-shown d i (dropped why) judged from before = absurd judged

  -- the same verdict on bursts with the same start and the same live ticks
  module _ (d : Burst) (m b : ℕ) where
    abbrev longer : Burst
    longer = going_on d m b

    same-note : (v : Verdict) → (IsJudged v → live_bytes rules longer ≡ live_bytes rules d)
        → note_by rules longer v ≡ note_by rules d v
    same-note (passed_with number) bytes = ap (λ x. passed_note number d.start x) (bytes tt)
    same-note (refused why) bytes = refl
    same-note (dropped why) bytes = refl

    same-state : (s : CheckState) (v : Verdict)
        → (IsJudged v → live_bytes rules longer ≡ live_bytes rules d)
        → (IsJudged v → live_ticks rules longer ≡ live_ticks rules d)
        → state_by profile rules s longer v ≡ state_by profile rules s d v
    same-state s (passed_with number) bytes ticks =
        ap (λ x. let t : CheckState =
        record { floor = number; earliest_start = d.start + length x + delay profile } in t)
        (ticks tt)
    same-state s (refused why) bytes ticks =
        ap (λ x. let t : CheckState = record {
          floor = s.floor;
          earliest_start = d.start + length x + delay profile + owed rules longer;
        } in t) (ticks tt)
        ∙ ap (λ x. let t : CheckState = record {
          floor = s.floor;
          earliest_start = live_end rules d + delay profile + lacking_of rules x;
        } in t) (bytes tt)
    same-state s (dropped why) bytes ticks = refl

    same-emission : (v : Verdict)
        → (IsJudged v → live_bytes rules longer ≡ live_bytes rules d)
        → (IsJudged v → live_ticks rules longer ≡ live_ticks rules d)
        → emission_by profile rules longer v ≡ emission_by profile rules d v
    same-emission (passed_with number) bytes ticks =
        ap (λ x. delayed profile d x ∷ []) (ticks tt)
    same-emission (refused why) bytes ticks =
        ap (λ x. delayed profile d (spoiled rules [] (x ++ replicate (owed rules longer) (Byte 0)))
        ∷ []) (ticks tt)
        ∙ ap (λ x. delayed profile d
        (spoiled rules [] (live_ticks rules d ++ replicate (lacking_of rules x) (Byte 0))) ∷ [])
        (bytes tt)
    same-emission (dropped why) bytes ticks = refl

-- ---- the walk

module _ (profile : Profile) (rules : Rules) (lawful : IsLawful rules) (headed : IsHeaded rules)
    (timely : IsTimely profile rules) where
  -- A note doesn't come before its burst starts, and comes before another burst may start.
  not-before : (s : CheckState) (d : Burst) → d.start ≤ (checker profile rules).tick s d
  not-before s d =
      ⊎_elim
      (λ busy. let tick = tick-busy profile rules s d busy in omega arith)
      (λ free. ⊎_elim
      (λ short. let tick = tick-short profile rules s d free short in omega arith)
      (λ long. ⊎_elim
      (λ good. let tick = tick-good profile rules s d free long good in omega arith)
      (λ bad. let tick = tick-bad profile rules s d free long bad in omega arith)
      (cases_Bool (rules.is_good_header (take rules.header_len (live_bytes rules d)))))
      (cases_lt (length (live_bytes rules d)) rules.header_len))
      (cases_lt d.start s.earliest_start)

  in-time : (s : CheckState) (d : Burst) → IsContiguous 4 d.body
      → (checker profile rules).tick s d < end_of d + 4
  in-time s d contiguous =
      ⊎_elim
      (λ busy. let tick = tick-busy profile rules s d busy in omega arith)
      (λ free. ⊎_elim
      (λ short.
      let tick = tick-short profile rules s d free short in
      let few = before_pause-le d.body in
      omega arith)
      (λ long. ⊎_elim
      (λ good.
      let tick = tick-good profile rules s d free long good in
      let soon = trailer_tick-soon profile rules d in
      omega arith)
      (λ bad.
      let tick = tick-bad profile rules s d free long bad in
      let few = up_to_byte-le rules.header_len d.body in
      omega arith)
      (cases_Bool (rules.is_good_header (take rules.header_len (live_bytes rules d)))))
      (cases_lt (length (live_bytes rules d)) rules.header_len))
      (cases_lt d.start s.earliest_start)

  module _ (s : CheckState) (d : Burst) (m b : ℕ) (may : MayGoOn d m) where
    module _ (early : (checker profile rules).tick s d < m) where
      now-settled : IsSettled profile rules s d (going_on d m b)
      now-settled = settled profile rules lawful headed d m b may s early

      note-stays : (checker profile rules).note s (going_on d m b)
          ≡ (checker profile rules).note s d
      note-stays =
          ap (λ v. note_by rules (going_on d m b) v) now-settled.verdict
          ∙ same-note profile rules d m b (checked profile rules s d) now-settled.bytes

      next-stays : (checker profile rules).next s (going_on d m b)
          ≡ (checker profile rules).next s d
      next-stays =
          ap (λ v. state_by profile rules s (going_on d m b) v) now-settled.verdict
          ∙ same-state profile rules d m b s (checked profile rules s d) now-settled.bytes
          now-settled.ticks

      emission-settles : (checker profile rules).emission s (going_on d m b)
          ≡ (checker profile rules).emission s d
      emission-settles =
          ap (λ v. emission_by profile rules (going_on d m b) v) now-settled.verdict
          ∙ same-emission profile rules d m b (checked profile rules s d) now-settled.bytes
          now-settled.ticks

    -- ---- what is seen before tick m of a burst that isn't noted before tick m

    module _ (late : m ≤ (checker profile rules).tick s d)
        (begun : delay profile + d.start < m) where
      late-free : s.earliest_start ≤ d.start
      late-free = waits-late profile rules s d m (omega arith) may.after late

      -- when a byte of the burst may have left, its header is whole and good
      late-whole : rules.header_len ≤ length (live_bytes rules d)
      late-whole =
          let head = timely.in_time in
          ⊎_elim
          (λ short.
          let tick = tick-short profile rules s d late-free short in
          let few = short-pause rules lawful headed d may.contiguous short in
          absurd (omega arith))
          (λ long. long)
          (cases_lt (length (live_bytes rules d)) rules.header_len)

      late-good : rules.is_good_header (take rules.header_len (live_bytes rules d)) ≡ true
      late-good = waits-header profile rules s d m (omega arith) may.after late late-whole

      late-tick : m ≤ trailer_tick profile rules d
      late-tick = let tick = tick-good profile rules s d late-free late-whole late-good in
          omega arith

      good-judged : (e : Burst) → s.earliest_start ≤ e.start
          → rules.header_len ≤ length (live_bytes rules e)
          → rules.is_good_header (take rules.header_len (live_bytes rules e)) ≡ true
          → IsJudged (checked profile rules s e)
      good-judged e free long good =
          subst IsJudged (sym (checked-good profile rules s e free long good))
          (judged-verdict profile rules s.floor e)

      emission-same : (i : ℕ) → delay profile + d.start ≤ i → i < m
          → tick_at ((checker profile rules).emission s (going_on d m b)) i
          ≡ tick_at ((checker profile rules).emission s d) i
      emission-same i from before =
          let e : Burst = going_on d m b in
          let k : ℕ = i - (delay profile + d.start) in
          let long = long-bytes profile rules lawful headed d m b may late-whole in
          let good = ap rules.is_good_header
          (long-header profile rules lawful headed d m b may late-whole) ∙ late-good in
          let within : IsWithin m d = record {
            contiguous = may.contiguous;
            within = may.after;
          } in
          let close : m < end_of d + 4 = may.near in
          let few : m - end_of d < 4 = omega arith in
          let contiguous : IsContiguous 4 e.body =
          contiguous-more 4 d.body (m - end_of d) b may.contiguous few in
          let here = late-tick in
          let there = good-waits profile rules lawful headed d m b may here in
          let place : d.start + k < m = omega arith in
          emission-shown profile rules e i (checked profile rules s e)
          (good-judged e late-free long good) from (omega arith)
          ∙ (live_ticks-before rules lawful m b d within contiguous k place
          ∙ sym (emission-shown profile rules d i (checked profile rules s d)
          (good-judged d late-free late-whole late-good) from (omega arith)))

    emission-stays : (i : ℕ) → i < m
        → tick_at ((checker profile rules).emission s (going_on d m b)) i
        ≡ tick_at ((checker profile rules).emission s d) i
    emission-stays i before =
        ⊎_elim
        (λ early. ap (λ x. tick_at x i) (emission-settles early))
        (λ late. ⊎_elim
        (λ dark. emission-dark profile rules (going_on d m b) i
        (checked profile rules s (going_on d m b)) dark
        ∙ sym (emission-dark profile rules d i (checked profile rules s d) dark))
        (λ from. emission-same late (omega arith) i from before)
        (cases_lt i (delay profile + d.start)))
        (cases_lt ((checker profile rules).tick s d) m)

  -- The receiver's walk is causal, so the notes and the line of a longer link begin with those of
  -- the link.
  pub checker-causal : IsCausal (checker profile rules)
  checker-causal = record {
    not_before = λ s d contiguous. not-before s d;
    in_time = in-time;
    tick_stays = λ s d m b may early. (now-settled s d m b may early).tick;
    note_stays = note-stays;
    next_stays = next-stays;
    emission_settles = emission-settles;
    waits = λ s d m b may late. waits-on profile rules lawful headed d m b may s late;
    dark_before = λ s d i contiguous before.
        emission-dark profile rules d i (checked profile rules s d) (omega arith);
    emission_stays = λ s d m b i may before. emission-stays s d m b may i before;
  }

  pub checker-adds_one_tick : (s : CheckState) (line : List Tick) (t : Tick)
      → AddsOneTick (checker profile rules) s line t
  checker-adds_one_tick s line t = adds_one_tick (checker profile rules) checker-causal s line t

  pub checker-extends : (s : CheckState) (line more : List Tick)
      → Extends (checker profile rules) s line more
  checker-extends s line more = extends (checker profile rules) checker-causal s line more
