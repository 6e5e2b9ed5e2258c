-- Between what leaves of one burst and what leaves of the next there are at least as many silent
-- ticks as the receiver's delay.
use Rattle.frame_ending.{proofs.Spread.AreSpread, specs.Walk.emitted_by}
use Rattle.frame_ending.{proofs.LiveTicks.live_ticks-contiguous, specs.LiveBytes.live_ticks}
use Rattle.line_rules.specs.{Rules.Rules, RulesLaws.IsLawful}
use Rattle.link_format.specs.Profile.{Profile, delay}
use Rattle.link_box.proofs.{Judging.IsJudged, Past.judged-late}
use Rattle.link_box.proofs.Spoiled.{contiguous-wider, spoiled-contiguous, spoiled-length}
use Rattle.link_box.proofs.Spoiled.{filled-contiguous, filled-length}
use Rattle.link_box.specs.Checking.{state_by, checker}
use Rattle.link_box.specs.Emissions.{spoiled, filled_ticks, emission_by}
use Rattle.link_box.specs.Verdicts.{CheckState, Verdict, checked}
use Rattle.link_box.specs.Verdicts.Verdict.{passed_with, refused, dropped}
use Rattle.std.proofs.Common.{ℕ, ◌+◌, ◌≤◌, List, [], ◌∷◌, ◌++◌, length, arith}
use Rattle.yasir_ticks.specs.{Bursts.Burst, Bursts.end_of, BurstsOf.IsContiguous}

module _ (profile : Profile) (rules : Rules) (lawful : IsLawful rules) where
  module _ (cut : ℕ) (some : 2 ≤ cut) (few : cut ≤ delay profile) where
    -- an emission, and others that begin late enough after it
    pub spread-by : (s : CheckState) (d : Burst) (v : Verdict) (m : ℕ) (es : List Burst)
        → IsContiguous 4 d.body → (IsJudged v → s.earliest_start ≤ d.start)
        → m ≤ s.earliest_start + delay profile
        → ((k : ℕ) → k ≤ (state_by profile rules s d v).earliest_start + delay profile
        → AreSpread cut k es)
        → AreSpread cut m (emission_by profile rules d v ++ es)
    spread-by s d (passed_with number) m es whole late from next =
        let start = late tt in (
          omega arith,
          contiguous-wider 2 cut (live_ticks rules d) some
              (live_ticks-contiguous rules lawful d whole),
          next (delay profile + d.start + length (live_ticks rules d) + cut) (omega arith),
        )
    spread-by s d (refused why) m es whole late from next =
        let start = late tt in
        let long = spoiled-length rules [] (filled_ticks rules d) in
        let all = filled-length rules lawful d whole in (
          omega arith,
          spoiled-contiguous rules cut [] (filled_ticks rules d)
              (contiguous-wider 2 cut (filled_ticks rules d) some
              (filled-contiguous rules lawful d whole)),
          next (delay profile + d.start + length (spoiled rules [] (filled_ticks rules d)) + cut)
              (omega arith),
        )
    spread-by s d (dropped why) m es whole late from next = next m from

    -- the emissions of the walk, from a state on
    pub emissions-spread : (s : CheckState) (n m : ℕ) (ds : List Burst) → AreSpread 4 n ds
        → m ≤ s.earliest_start + delay profile
        → AreSpread cut m (emitted_by (checker profile rules) s ds)
    emissions-spread s n m [] spread from = tt
    emissions-spread s n m (d ∷ ds) spread from =
        let v : Verdict = checked profile rules s d in
        spread-by s d v m (emitted_by (checker profile rules) (state_by profile rules s d v) ds)
        spread.1 (judged-late profile rules s d) from
        (λ k within. emissions-spread (state_by profile rules s d v) (end_of d + 4) k ds spread.2
        within)
