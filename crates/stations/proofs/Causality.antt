-- The boxes of several stations need no tick before its time, though a burst that goes on may come
-- to name another station: before a burst is noted, nothing that is seen of it depends on a floor.
use Rattle.frame_ending.{specs.Causal.IsCausal}
use Rattle.frame_ending.specs.{Causal.MayGoOn, Causal.going_on, Laid.tick_at, Walk.Walker}
use Rattle.frame_ending.specs.LiveBytes.{live_bytes}
use Rattle.line_rules.specs.Rules.{Rules}
use Rattle.std.proofs.Common.{◌≡◌, ◌∙◌, ◌⊎◌, ℕ, ◌+◌, ◌-◌, ◌<◌, ◌≤◌, List, sym, ap, subst}
use Rattle.std.proofs.Common.{arith, ⊎_elim}
use Rattle.std.proofs.lemmas.Bool.{cases_lt}
use Rattle.yasir_ticks.proofs.BurstsOfLaws.{contiguous-more}
use Rattle.yasir_ticks.specs.{Bursts.Burst, Bursts.end_of, BurstsOf.IsContiguous}
use Rattle.stations.specs.Shared.{StationBox, SharedState, floors_after, its_state, shared}

-- What another floor doesn't change: when a burst is noted, and what leaves of it before. A burst
-- that has been noted and goes on spells what it spelled, or means the same at any floor, and no
-- frame.
pub record IsFloorBlind {S N : Type 0} (rules : Rules) (box : StationBox S N) : Type 0 where
  pub tick : (f g from : ℕ) (d : Burst)
      → box.walker.tick (box.state f from) d ≡ box.walker.tick (box.state g from) d
  pub shows : (f g from : ℕ) (d : Burst) (i : ℕ) → IsContiguous 4 d.body
      → i < box.walker.tick (box.state f from) d
      → tick_at (box.walker.emission (box.state g from) d) i
      ≡ tick_at (box.walker.emission (box.state f from) d) i
  pub settled : (f from : ℕ) (d : Burst) (m b : ℕ) → MayGoOn d m
      → box.walker.tick (box.state f from) d < m
      → (live_bytes rules (going_on d m b) ≡ live_bytes rules d)
      ⊎ ((g : ℕ) → (box.walker.note (box.state g from) (going_on d m b)
      ≡ box.walker.note (box.state f from) d)
      × (box.walker.emission (box.state g from) (going_on d m b)
      ≡ box.walker.emission (box.state f from) d)
      × (box.free_from (box.walker.next (box.state g from) (going_on d m b))
      ≡ box.free_from (box.walker.next (box.state f from) d)))

module _ {S N : Type 0} (station : List ℕ → ℕ) (rules : Rules) (box : StationBox S N)
    (causal : IsCausal box.walker) (blind : IsFloorBlind rules box) where
  abbrev w : Walker SharedState N
  w = shared station rules box

  abbrev its : SharedState → Burst → S
  its s d = its_state station rules box s d

  -- the state after a burst that is taken in a state of the box of one station
  abbrev next_by : SharedState → N → ℕ → SharedState
  next_by s note from = record {
    floors = floors_after station s.floors (box.frame_in note);
    free_from = from;
  }

  module _ (s : SharedState) (d : Burst) (m b : ℕ) (may : MayGoOn d m) where
    abbrev e : Burst
    e = going_on d m b

    tick-longer : w.tick s e ≡ box.walker.tick (its s d) e
    tick-longer = blind.tick (s.floors (station (live_bytes rules e)))
        (s.floors (station (live_bytes rules d))) s.free_from e

    module _ (early : w.tick s d < m) where
      note-stays : w.note s e ≡ w.note s d
      note-stays =
          ⊎_elim
          (λ spelled. ap (λ x. box.walker.note (box.state (s.floors (station x)) s.free_from) e)
          spelled ∙ causal.note_stays (its s d) d m b may early)
          (λ gone. (gone (s.floors (station (live_bytes rules e)))).0)
          (blind.settled (s.floors (station (live_bytes rules d))) s.free_from d m b may early)

      emission-settles : w.emission s e ≡ w.emission s d
      emission-settles =
          ⊎_elim
          (λ spelled. ap (λ x. box.walker.emission (box.state (s.floors (station x)) s.free_from) e)
          spelled ∙ causal.emission_settles (its s d) d m b may early)
          (λ gone. (gone (s.floors (station (live_bytes rules e)))).1)
          (blind.settled (s.floors (station (live_bytes rules d))) s.free_from d m b may early)

      free-stays : box.free_from (box.walker.next (its s e) e)
          ≡ box.free_from (box.walker.next (its s d) d)
      free-stays =
          ⊎_elim
          (λ spelled. ap (λ x. box.free_from
          (box.walker.next (box.state (s.floors (station x)) s.free_from) e)) spelled
          ∙ ap (λ t. box.free_from t) (causal.next_stays (its s d) d m b may early))
          (λ gone. (gone (s.floors (station (live_bytes rules e)))).2)
          (blind.settled (s.floors (station (live_bytes rules d))) s.free_from d m b may early)

      next-stays : w.next s e ≡ w.next s d
      next-stays =
          ap (λ n. next_by s n (box.free_from (box.walker.next (its s e) e))) note-stays
          ∙ ap (λ k. next_by s (w.note s d) k) free-stays

    waits : m ≤ w.tick s d → m ≤ w.tick s e
    waits late = subst (λ k. m ≤ k) (sym tick-longer) (causal.waits (its s d) d m b may late)

    emission-stays : (i : ℕ) → i < m → tick_at (w.emission s e) i ≡ tick_at (w.emission s d) i
    emission-stays i before =
        let close : m < end_of d + 4 = may.near in
        let few : m - end_of d < 4 = omega arith in
        let contiguous : IsContiguous 4 e.body =
        contiguous-more 4 d.body (m - end_of d) b may.contiguous few in
        ⊎_elim
        (λ early. ap (λ x. tick_at x i) (emission-settles early))
        (λ late.
        let there : m ≤ box.walker.tick (its s d) e = causal.waits (its s d) d m b may late in
        blind.shows (s.floors (station (live_bytes rules d)))
        (s.floors (station (live_bytes rules e))) s.free_from e i contiguous (omega arith)
        ∙ causal.emission_stays (its s d) d m b i may before)
        (cases_lt (w.tick s d) m)

  pub shared-causal : IsCausal (shared station rules box)
  shared-causal = record {
    not_before = λ s d contiguous. causal.not_before (its s d) d contiguous;
    in_time = λ s d contiguous. causal.in_time (its s d) d contiguous;
    tick_stays = λ s d m b may early. tick-longer s d m b may
        ∙ causal.tick_stays (its s d) d m b may early;
    note_stays = note-stays;
    next_stays = next-stays;
    emission_settles = emission-settles;
    waits = λ s d m b may late. waits s d m b may late;
    dark_before = λ s d i contiguous before. causal.dark_before (its s d) d i contiguous before;
    emission_stays = λ s d m b i may before. emission-stays s d m b may i before;
  }
