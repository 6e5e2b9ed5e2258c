-- The first byte of a burst comes.
use Rattle.frame_ending.proofs.Coming.{closed-or-runs_on, come-alone, waiting-may}
use Rattle.frame_ending.specs.{HasCome.HasCome, declared.box_step.BoxStep.BoxStep}
use Rattle.check_receiver.proofs.{Beginnings.ring-still, Dropping.drops}
use Rattle.check_receiver.proofs.Heads.{head-is-bad, head-isn't-short}
use Rattle.check_receiver.proofs.Machine.{until-last, flow, still-unowed, ring-waits, assembled}
use Rattle.check_receiver.proofs.{OpenBursts.timely, Settled.left-stays}
use Rattle.check_receiver.specs.{Arrivals.bytes_come, Between.CheckerIsBetween, Phases.passes_in}
use Rattle.check_receiver.specs.Stands.{MacHolds, CheckerHasTaken}
use Rattle.check_receiver.specs.Turning.{Turned, TurnedClear, with_until}
use Rattle.check_receiver.specs.declared.{arriving.Arriving.Arriving, checker.Checker.Checker}
use Rattle.check_receiver.specs.declared.phase.Phase.TheVariants.{Open}
use Rattle.yasir_ticks.specs.DelayRing.{ring_ticks}
use Rattle.frame_ending.proofs.{Pauses.up_to_byte-le, Running.byte-starts, Running.start-bytes}
use Rattle.frame_ending.specs.{Cuts.cut_of, LiveBytes.live_bytes, LiveBytes.live_end}
use Rattle.frame_ending.specs.SoFar.{last_of, last_burst, start_in, start_so_far, live_bytes_in}
use Rattle.frame_ending.specs.{SoFar.live_bytes_so_far, declared.cut.Cut.TheVariants.Start}
use Rattle.{link_format.specs.declared.tag.Mac.Ghosts as Mac, line_rules.specs.Rules.Rules}
use Rattle.line_rules.specs.{Rules.head_of, RulesLaws.IsLawful, declared.head.Head.TheVariants.Bad}
use Rattle.line_rules.specs.declared.line_rules.LineRules.{Ghosts as LineRules}
use Rattle.link_format.specs.{Profile.Profile, Profile.profile_of, Profile.delay, Setup.Setup}
use Rattle.link_box.proofs.Beginning.{rests-none, live-none, begun-end, begun-seen}
use Rattle.link_box.proofs.{Beginning.opens-begun, Judging.head-bad, Judging.checked-busy}
use Rattle.link_box.proofs.{Judging.checked-bad, Opened.nothing-after, Opened.last_of-more}
use Rattle.link_box.proofs.Opening.{open-goes, length-silent}
use Rattle.link_box.proofs.Resting.{causal, rest-drops, knows-more}
use Rattle.link_box.proofs.{Rings.ring-first, Rings.ring-begun, Settling.after-long}
use Rattle.link_box.specs.Checking.{checker, at_floor, head_tick, note_tick}
use Rattle.link_box.specs.Holding.{HasWalked, Opens, trailer_so_far}
use Rattle.link_box.specs.{Timely.IsTimely, Turns.HasTurned, Turns.tick_or_silence}
use Rattle.link_box.specs.Verdicts.{CheckState, after_live, Verdict.dropped as dropped_for}
use Rattle.link_box.specs.declared.check_note.CheckNote.{CheckNote}
use Rattle.link_box.specs.declared.check_note.CheckNote.TheVariants.{Dropped}
use Rattle.link_box.specs.declared.check_note.DroppedWhy.TheVariants.{Busy, Head as NoHead}
use Rattle.sequence_journal.specs.declared.numbers.TheConstants.{LIMIT}
use Rattle.line_rules.proofs.Standing.{stands-unowed}
use Rattle.line_rules.specs.Outlet.{OutletStandsForTicks, OutletRefuses, owed_by, filled}
use Rattle.line_rules.specs.{Outlet.filled_bytes, declared.outlet.Outlet.Outlet}
use Rattle.std.proofs.Common.{◌≡◌, ◌∙◌, ℕ, ◌+◌, ◌-◌, ◌<◌, ◌≤◌, ◌==◌, false, List, [], ◌∷◌}
use Rattle.std.proofs.Common.{◌++◌, length, take, drop, get_or, refl, sym, ap, subst, arith, ⊎_elim}
use Rattle.std.proofs.Common.{Option, Some, None, IfNone, is_some}
use Rattle.std.proofs.lemmas.{Bool.cases_Bool, List.append-nil, List.length-drop}
use Rattle.yasir_ticks.proofs.BurstLaws.{alone}
use Rattle.yasir_ticks.specs.Bursts.{Burst, bursts, end_of, AreClosed}
use Rattle.yasir_ticks.specs.{BurstsOf.one, Ticks.silent, Ticks.bytes_in}
use Rattle.yasir_ticks.specs.declared.tick.Tick.{Tick, TheVariants.Silent, TheVariants.Byte}

-- ---- no burst runs before it

module _ (rules : Rules) (lawful : IsLawful rules) (line : List Tick) (b : ℕ)
    (is : cut_of rules line (Byte b) ≡ Start b) where
  none-runs : (d : Burst) → last_burst line ≡ Some d → length line < end_of d + 4 → ⊥
  none-runs d last near =
      let none = byte-starts rules lawful line b (Some d) (last, near) is in
      cc

  all-closed : AreClosed 4 (length line) (bursts line)
  all-closed =
      ⊎_elim
      (λ closed. closed)
      (λ on. absurd (none-runs on.last
      (ap (λ x. last_of x) on.is ∙ last_of-more on.front on.last) on.near))
      (closed-or-runs_on line)

module _ {R M : Type 0} (proto : LineRules R) (macs : Mac M) {B D : ℕ} (old : Checker R M B D)
    (last : ℕ) (setup : Setup) (line : List Tick) (b : ℕ)
    (between : CheckerIsBetween proto macs old last setup line (Byte b) (Start b)) where
  abbrev rules : Rules
  rules = proto.rules

  abbrev profile : Profile
  profile = profile_of proto macs B LIMIT setup

  abbrev state : CheckState
  state = record { floor = last; earliest_start = old.earliest_start }

  abbrev m : ℕ
  m = length line

  abbrev e : Burst
  e = alone m b

  abbrev Walked : Option Burst → Type 0
  Walked o = HasWalked profile rules setup.floor m (bursts line) state (passes_in old.phase)
      between.walks.left between.walks.live (owed_by old.outlet) o

  time : IsTimely profile rules
  time = timely proto macs B setup between.wide

  -- No burst is running, so no verdict is open.
  rests-still : (o : Option Burst) → Walked o → o ≡ None
  rests-still None walked = refl
  rests-still (Some d) walked =
      let may = waiting-may (checker profile rules)
      (causal proto profile time setup.floor line (Byte b)) (at_floor setup.floor) line state
      walked.emissions d walked.come in
      absurd (none-runs rules proto.lawful line b between.is_cut d
      (ap (λ x. last_of x) walked.come.is ∙ last_of-more walked.come.settled d) may.near)

  none-waits : between.walks.waiting ≡ None
  none-waits = rests-still between.walks.waiting between.walks.walked

  resting : Walked None
  resting = subst Walked none-waits between.walks.walked

  known : passes_in old.phase ≡ false → 0 < length between.walks.live
      → OutletRefuses proto old.outlet (between.walks.left ++ bytes_in between.walks.live)
  known =
      let K : Option Burst → Type 0 = λ o. IfNone o (passes_in old.phase ≡ false
      → 0 < length between.walks.live
      → OutletRefuses proto old.outlet (between.walks.left ++ bytes_in between.walks.live)) in
      subst K none-waits between.walks.knows

  begins : HasCome (checker profile rules) (at_floor setup.floor) m (bursts (line ++ Byte b ∷ []))
      state resting.emissions (Some e)
  begins = come-alone (checker profile rules)
      (causal proto profile time setup.floor line (Byte b)) (at_floor setup.floor) line state
      resting.emissions b resting.come (all-closed rules proto.lawful line b between.is_cut)

  last-is : last_burst (line ++ Byte b ∷ []) ≡ Some e
  last-is = ap (λ x. last_of x) begins.is ∙ last_of-more begins.settled e

  pub start-is : start_so_far (line ++ Byte b ∷ []) ≡ m
  start-is = ap start_in last-is

  -- ---- others are still leaving

  module _ (new : Checker R M B D) (step : BoxStep CheckNote)
      (turned : Turned proto old new Silent step.tick)
      (noted : step.note ≡ Some (Dropped (start_so_far (line ++ Byte b ∷ [])) Busy)) where
    pub start-busy : m < old.earliest_start → CheckerHasTaken proto macs new last setup line (Byte b) step
    start-busy early =
        let left : List ℕ = between.walks.left in
        let live : List Tick = between.walks.live in
        let until = between.one_less ∙ ap (λ k. k - 1) between.walks.until_is in
        let flows = flow proto macs old new Silent step.tick turned left live
        between.walks.outlet_is between.walks.ring_is resting.unowed
        (λ there. until-last live old.until until there) known in
        let less = length-drop 1 live in
        let fewer = between.one_less in
        let until_is = between.walks.until_is in
        let few = between.walks.few in
        let delay_is = between.delay_is in
        assembled proto macs setup line (Byte b) old new Silent step turned between.word_is
        between.wide between.delay_is between.direction_is between.cuts last flows.after
        (drop 1 live) None (Some (Dropped e.start Busy))
        (rest-drops proto profile time setup.floor line (Byte b) state resting.emissions
        (passes_in old.phase) left live (owed_by old.outlet) old.outlet new.outlet step.tick flows
        resting.rests e Busy
        (checked-busy profile rules state e early) begins refl)
        (noted ∙ ap (λ o. Some (Dropped (start_in o) Busy)) last-is) flows.stands
        (ring-waits proto macs old new step.tick turned live between.walks.ring_is (omega arith)
        between.walks.few)
        (omega arith) (omega arith)
        (between.walks.waits_is ∙ ap (λ o. is_some o) none-waits) between.walks.mac_stands tt
        (knows-more proto m old.earliest_start resting.emissions (passes_in old.phase) left live
        (owed_by old.outlet) old.outlet new.outlet step.tick flows known)
        (left-stays old.phase between.before old.until (owed_by old.outlet) (owed_by new.outlet)
        between.left_in fewer (λ gone unowed. still-unowed proto macs old new Silent step.tick
        turned left live between.walks.outlet_is between.walks.ring_is (omega arith) unowed))

  -- ---- everything has left

  bytes : live_bytes rules e ≡ b ∷ []
  bytes = start-bytes rules proto.lawful line b

  pub start-live : live_bytes_so_far rules (line ++ Byte b ∷ []) ≡ b ∷ []
  start-live = ap (λ o. live_bytes_in rules o) last-is ∙ bytes

  ends : live_end rules e ≡ m + 1
  ends = begun-end profile rules proto.lawful m b bytes

  module _ (mac : M) (arriving : Arriving B) (outlet : Outlet R)
      (unowed : owed_by outlet ≡ 0)
      (free : old.earliest_start ≤ m) (new : Checker R M B D) (step : BoxStep CheckNote) where
    -- the receiver, which opens the verdict on the burst
    abbrev base : Checker R M B D
    base = record old {
      phase = Open;
      mac = mac;
      arriving = arriving;
      outlet = outlet;
    }

    begun : OutletStandsForTicks proto outlet []
    begun = stands-unowed proto outlet [] unowed

    -- The burst is dropped if its one byte is a header that isn't good.
    pub start-bad : TurnedClear proto base new step.tick
        → step.note ≡ Some (Dropped (start_so_far (line ++ Byte b ∷ [])) NoHead)
        → head_of rules (live_bytes_so_far rules (line ++ Byte b ∷ [])) ≡ Bad
        → ((text : List ℕ) × macs.stands mac setup.key text)
        → CheckerHasTaken proto macs new last setup line (Byte b) step
    start-bad clear noted bad mac_stands =
        let H : Option Burst → Type 0 = λ o. head_of rules (live_bytes_in rules o) ≡ Bad in
        let is : head_of rules (live_bytes rules e) ≡ Bad = subst H last-is bad in
        let few = up_to_byte-le rules.header_len e.body in
        let tick = ap (λ h. head_tick rules e h) is in
        let now : note_tick profile rules e (dropped_for NoHead) ≡ m = omega arith in
        drops proto macs setup line (Byte b) base new step clear between.word_is between.wide
        between.delay_is between.direction_is between.cuts last [] begun unowed mac_stands
        resting.emissions e begins free
        (checked-bad profile rules state e free
        (head-isn't-short rules (live_bytes rules e) (λ short. cc))
        (head-is-bad rules (live_bytes rules e) is))
        now noted

    -- Otherwise its verdict is open.
    module _ (n : ℕ) (turned : Turned proto (with_until n base) new (Byte b) step.tick) where
      empty : ring_ticks old.ring ≡ silent D
      empty =
          let live : List Tick = between.walks.live in
          let none : live ≡ [] = live-none rules (passes_in old.phase) between.walks.left live
          (owed_by old.outlet) (rests-none rules (passes_in old.phase) m old.earliest_start
          between.walks.left live (owed_by old.outlet) resting.emissions resting.rests free) in
          let whole : D - length {A = Tick} [] ≡ D = omega arith in
          between.walks.ring_is
          ∙ (ap (λ l. l ++ silent (D - length l)) none ∙ ap (λ k. silent k) whole)

      -- In this step, silence leaves.
      quiet : (step.tick ≡ Silent) × OutletStandsForTicks proto new.outlet [] × (owed_by new.outlet ≡ 0)
      quiet =
          let T : Tick → Type 0 = λ u. HasTurned proto outlet new.outlet (n == 0) false [] step.tick
          u in
          let turn : T Silent = subst T
          (ap (λ l. get_or l 0 Silent) empty ∙ ring-first [] D) (turned.out [] begun) in
          let Q : ℕ → Type 0 = λ k. (step.tick ≡ tick_or_silence (filled rules [] k))
          × OutletStandsForTicks proto new.outlet ([] ++ filled_bytes (filled rules [] k))
          × (owed_by new.outlet ≡ k - 1) in
          let out : Q 0 = subst Q unowed (turn.0, turn.1, turn.2) in
          let none : owed_by new.outlet ≡ 0 - 1 = out.2 in
          (out.0, out.1, omega arith)

      pub start-quiet : step.tick ≡ Silent
      start-quiet = quiet.0

      pub start-still : get_or (ring_ticks new.ring) 0 Silent ≡ Silent
      start-still =
          let delay_is = between.delay_is in
          ap (λ l. get_or l 0 Silent) (turned.ring ∙ ap (λ l. drop 1 l ++ Byte b ∷ []) empty)
          ∙ ring-still D b (omega arith)

      abbrev entered : List Tick
      entered = drop 1 (silent D ++ Byte b ∷ [])

      size : length entered ≡ D
      size =
          let less = length-drop 1 (silent D ++ Byte b ∷ []) in
          let long = length-silent D (Byte b ∷ []) in
          omega arith

      opens : (head_of rules (live_bytes_so_far rules (line ++ Byte b ∷ [])) ≡ Bad → ⊥)
          → Opens profile rules (m + 1) old.earliest_start e [] entered
      opens not_bad =
          let N : Option Burst → Type 0 = λ o. head_of rules (live_bytes_in rules o) ≡ Bad → ⊥ in
          let never : N (Some e) = subst N last-is not_bad in
          let O : ℕ → Type 0 = λ k. Opens profile rules (m + 1) old.earliest_start e []
          (drop 1 (silent k ++ Byte b ∷ [])) in
          let delay_is = between.delay_is in
          let same : delay profile ≡ D = omega arith in
          subst O same
          (opens-begun profile rules proto.lawful m b bytes old.earliest_start free
          (λ header. ⊎_elim (λ good. good)
          (λ bad. absurd (never (head-bad rules (live_bytes rules e) header bad)))
          (cases_Bool (rules.is_good_header (take rules.header_len (live_bytes rules e))))))

      pub start-open : (D ≤ 64 → n ≡ D) → step.note ≡ None
          → (head_of rules (live_bytes_so_far rules (line ++ Byte b ∷ [])) ≡ Bad → ⊥)
          → MacHolds proto macs setup mac arriving e
          → CheckerHasTaken proto macs new last setup line (Byte b) step
      start-open until noted not_bad mac_holds =
          let open' = opens not_bad in
          let tag = macs.tag_size in
          let delay_is = between.delay_is in
          let few = between.word_is.1 in
          let small : D ≤ 64 = ⊎_elim (λ twelve. omega arith) (λ sixteen. omega arith) tag in
          let whole : n ≡ D = until small in
          let long = size in
          let end = ends in
          let full : D - length entered ≡ 0 = omega arith in
          let ring : ring_ticks new.ring ≡ entered ++ silent (D - length entered) =
          turned.ring
          ∙ (ap (λ l. drop 1 l ++ Byte b ∷ []) empty
          ∙ (ring-begun D b (omega arith)
          ∙ (sym (append-nil entered) ∙ ap (λ k. entered ++ silent k) (sym full)))) in
          let goes = open-goes proto profile time setup.floor line (Byte b) state
          resting.emissions e begins (one b) (omega arith) (omega arith) step.tick
          (quiet.0 ∙ sym (begun-seen profile rules proto.lawful m b bytes)) [] entered open'
          (owed_by new.outlet) quiet.2 in
          assembled proto macs setup line (Byte b) (with_until n base) new (Byte b) step turned
          between.word_is between.wide between.delay_is between.direction_is between.cuts last []
          entered (Some e) None goes noted quiet.1 ring (omega arith) (omega arith) refl
          (rules.label ∷ setup.direction ∷ live_bytes rules e, mac_holds.mac_is) mac_holds
          tt tt

  -- The MAC has the text of this one byte, and no byte of a trailer has come.
  pub start-mac_holds : (mac : M) (arriving : Arriving B) → bytes_come arriving ≡ []
      → macs.stands mac setup.key (rules.label ∷ setup.direction ∷ b ∷ [])
      → MacHolds proto macs setup mac arriving e
  start-mac_holds mac arriving begun mac_is =
      let end = ends in
      let all = after-long rules e in
      let none : trailer_so_far rules e ≡ [] =
      nothing-after (after_live rules e) (omega arith) in
      let C : List ℕ → Type 0 = λ x. macs.stands mac setup.key
      (rules.label ∷ setup.direction ∷ x) in
      record {
        mac_is = subst C (sym bytes) mac_is;
        come = begun ∙ sym none;
      }
