-- A burst is dropped for its header: nothing of it leaves.
use Rattle.frame_ending.specs.Causal.{MayGoOn, going_on}
use Rattle.frame_ending.specs.{HasCome.HasCome, declared.box_step.BoxStep.BoxStep}
use Rattle.check_receiver.proofs.Heads.{head-is-bad, head-isn't-short}
use Rattle.check_receiver.proofs.Machine.{flow, still-unowed, ring-waits, assembled}
use Rattle.check_receiver.proofs.OpenBursts.{timely, open-walks}
use Rattle.check_receiver.specs.{Between.CheckerIsBetween, Stands.CheckerHasTaken, Turning.TurnedClear}
use Rattle.check_receiver.specs.{Turning.dropped, declared.checker.Checker.Checker}
use Rattle.yasir_ticks.specs.DelayRing.{ring_ticks}
use Rattle.frame_ending.specs.LiveBytes.{up_to_byte, live_bytes, live_end}
use Rattle.frame_ending.specs.SoFar.{last_of, start_in, start_so_far, live_bytes_in}
use Rattle.frame_ending.specs.{SoFar.live_bytes_so_far, Stands.CutStandsFor}
use Rattle.frame_ending.specs.declared.cut.Cut.{Cut, TheVariants.Live}
use Rattle.link_format.specs.{Tag.direction_number, declared.tag.Mac.Ghosts as Mac}
use Rattle.line_rules.specs.{Rules.Rules, Rules.head_of, RulesLaws.IsLawful, RulesLaws.IsHeaded}
use Rattle.line_rules.specs.declared.head.Head.TheVariants.{Bad}
use Rattle.line_rules.specs.declared.line_rules.LineRules.{Ghosts as LineRules}
use Rattle.link_format.specs.{Profile.Profile, Profile.profile_of, Profile.IsWordLen, Setup.Setup}
use Rattle.link_box.proofs.Judging.{head-short, checked-short, checked-bad}
use Rattle.link_box.proofs.Opened.{last_of-more, opens-of, may-of, unowed-of, silently, joined}
use Rattle.link_box.proofs.Opened.{joined-last, still}
use Rattle.link_box.proofs.{Opening.short-same, Opening.come-rests, Resting.rest-drops}
use Rattle.link_box.proofs.Settling.{is_over, open-bytes, open-end, long-header}
use Rattle.link_box.specs.Checking.{checker, at_floor, head_tick, note_tick}
use Rattle.link_box.specs.Holding.{Rests}
use Rattle.link_box.specs.Verdicts.{CheckState, checked, Verdict.dropped as dropped_for}
use Rattle.link_box.specs.declared.check_note.CheckNote.{CheckNote}
use Rattle.link_box.specs.declared.check_note.CheckNote.TheVariants.{Dropped}
use Rattle.link_box.specs.declared.check_note.DroppedWhy.TheVariants.{Head as NoHead}
use Rattle.sequence_journal.specs.declared.numbers.TheConstants.{LIMIT}
use Rattle.line_rules.specs.Outlet.{OutletStandsForTicks, owed_by}
use Rattle.std.proofs.Common.{◌≡◌, ◌∙◌, ℕ, ◌+◌, ◌-◌, ◌<◌, ◌≤◌, true, false, List, [], ◌∷◌, ◌++◌}
use Rattle.std.proofs.Common.{length, length-append, take, refl, sym, ap, subst, arith, ⊎_elim}
use Rattle.std.proofs.{Common.Option, Common.Some, Common.None, lemmas.Bool.cases_lt}
use Rattle.yasir_ticks.specs.{Bursts.Burst, Bursts.bursts, Ticks.silent}
use Rattle.yasir_ticks.specs.declared.tick.Tick.{Tick, TheVariants.Silent, TheVariants.Byte}

-- ---- the ring is emptied

module _ {R M : Type 0} (proto : LineRules R) (macs : Mac M) {B D : ℕ} (setup : Setup)
    (line : List Tick) (t : Tick) (base new : Checker R M B D) (step : BoxStep CheckNote)
    (clear : TurnedClear proto base new step.tick) (word_is : IsWordLen B) (wide : 2 ≤ B)
    (delay_is : D ≡ 4 + B + macs.TAG)
    (direction_is : direction_number base.direction ≡ setup.direction)
    (cuts : CutStandsFor proto base.cut (line ++ t ∷ [])) (last : ℕ) (left : List ℕ)
    (stands : OutletStandsForTicks proto base.outlet left) (none : owed_by base.outlet ≡ 0)
    (mac_stands : (text : List ℕ) × macs.stands base.mac setup.key text) where
  abbrev profile : Profile
  profile = profile_of proto macs B LIMIT setup

  abbrev state : CheckState
  state = record { floor = last; earliest_start = base.earliest_start }

  abbrev m : ℕ
  m = length line

  -- All that hasn't left yet is of this burst.
  pub drops : (emissions : List Burst) (d : Burst)
      → HasCome (checker profile proto.rules) (at_floor setup.floor) m (bursts (line ++ t ∷ []))
      state emissions (Some d)
      → base.earliest_start ≤ m → checked profile proto.rules state d ≡ dropped_for NoHead
      → note_tick profile proto.rules d (dropped_for NoHead) ≡ m
      → step.note ≡ Some (Dropped (start_so_far (line ++ t ∷ [])) NoHead)
      → CheckerHasTaken proto macs new last setup line t step
  drops emissions d come free is now noted =
      let gone : Checker R M B D = dropped base clear.ring in
      let ring_is : ring_ticks clear.ring ≡ [] ++ silent (D - length {A = Tick} []) =
      clear.clear ∙ (let whole : D ≡ D - length {A = Tick} [] = omega arith in ap silent whole) in
      let flows = flow proto macs gone new Silent step.tick clear.turned left [] stands ring_is
      (λ some. absurd (omega arith)) (λ some. absurd (omega arith))
      (λ refused some. absurd (omega arith)) in
      let Rest : ℕ → Type 0 = λ o. Rests proto.rules false m base.earliest_start left [] o
      emissions in
      let rests : Rest (owed_by base.outlet) = subst Rest (sym none)
      (come-rests profile proto.rules setup.floor m (bursts (line ++ t ∷ [])) state emissions
      (Some d) come false left free) in
      let goes = rest-drops proto profile (timely proto macs B setup wide) setup.floor line t state
      emissions false left [] (owed_by base.outlet) base.outlet new.outlet step.tick flows rests d
      NoHead is come now in
      let whose = ap (λ x. last_of x) come.is ∙ last_of-more come.settled d in
      assembled proto macs setup line t gone new Silent step clear.turned word_is wide delay_is
      direction_is cuts last flows.after [] None (Some (Dropped d.start NoHead)) goes
      (noted ∙ ap (λ o. Some (Dropped (start_in o) NoHead)) whose) flows.stands
      (ring-waits proto macs gone new step.tick clear.turned [] ring_is (omega arith)
      (omega arith))
      (omega arith) refl refl mac_stands tt (λ refused some. absurd (omega arith)) (
        refl,
        still-unowed proto macs gone new Silent step.tick clear.turned left [] stands ring_is refl
            none,
      )

-- ---- a header that is too short

module _ {R M : Type 0} (proto : LineRules R) (macs : Mac M) {B D : ℕ} (old : Checker R M B D)
    (last : ℕ) (setup : Setup) (line : List Tick) (cut : Cut)
    (between : CheckerIsBetween proto macs old last setup line Silent cut) (new : Checker R M B D)
    (step : BoxStep CheckNote) (clear : TurnedClear proto old new step.tick)
    (noted : step.note ≡ Some (Dropped (start_so_far (line ++ Silent ∷ [])) NoHead)) where
  -- The second silent tick in a row comes after a header that is too short.
  pub drop-silent : (d : Burst) → between.walks.waiting ≡ Some d
      → length line ≡ live_end proto.rules d + 1
      → length (live_bytes proto.rules d) < proto.rules.header_len
      → CheckerHasTaken proto macs new last setup line Silent step
  drop-silent d is second short =
      let profile : Profile = profile_of proto macs B LIMIT setup in
      let state : CheckState = record { floor = last; earliest_start = old.earliest_start } in
      let m : ℕ = length line in
      let it = open-walks between.walks between.wide d is in
      let late = (opens-of it).late in
      let from = (opens-of it).from in
      let same = short-same proto.rules proto.headed d short in
      let tick = ap (λ h. head_tick proto.rules d h)
      (head-short proto.rules (live_bytes proto.rules d) short) in
      let now : note_tick profile proto.rules d (dropped_for NoHead) ≡ m = omega arith in
      drops proto macs setup line Silent old new step clear between.word_is between.wide
      between.delay_is between.direction_is between.cuts last between.walks.left
      between.walks.outlet_is (unowed-of it) between.walks.mac_stands it.walked.emissions d
      (silently it) (omega arith) (checked-short profile proto.rules state d late short) now noted

-- ---- a header that isn't good

-- A live byte that makes a header bad is the burst's last one: the burst is noted in its step.
pub bad-now : (profile : Profile) (rules : Rules) (lawful : IsLawful rules)
    (headed : IsHeaded rules) (d : Burst) (m b : ℕ) (may : MayGoOn d m) → d.start < m
    → is_over profile rules lawful headed d m b may ≡ false
    → (rules.header_len ≤ length (live_bytes rules d)
    → rules.is_good_header (take rules.header_len (live_bytes rules d)) ≡ true)
    → head_of rules (live_bytes rules (going_on d m b)) ≡ Bad
    → note_tick profile rules (going_on d m b) (dropped_for NoHead) ≡ m
bad-now profile rules lawful headed d m b may begun open' good bad =
    let e : Burst = going_on d m b in
    let long = head-isn't-short rules (live_bytes rules e) (λ short. cc) in
    let size = ap length (open-bytes profile rules lawful headed d m b may open')
    ∙ length-append (live_bytes rules d) (b ∷ []) in
    let end = open-end profile rules lawful headed d m b may open' in
    let last : length (live_bytes rules e) ≡ rules.header_len =
    ⊎_elim
    (λ short. omega arith)
    (λ whole.
    let was = good whole in
    let same = ap (λ x. rules.is_good_header x)
    (long-header profile rules lawful headed d m b may whole) in
    let is = head-is-bad rules (live_bytes rules e) bad in
    absurd cc)
    (cases_lt (length (live_bytes rules d)) rules.header_len) in
    let ticks = ap (λ k. length (up_to_byte k e.body)) last in
    let tick = ap (λ h. head_tick rules e h) bad in
    omega arith

module _ {R M : Type 0} (proto : LineRules R) (macs : Mac M) {B D : ℕ} (old : Checker R M B D)
    (last : ℕ) (setup : Setup) (line : List Tick) (b : ℕ)
    (between : CheckerIsBetween proto macs old last setup line (Byte b) (Live b)) (mac : M)
    (new : Checker R M B D) (step : BoxStep CheckNote)
    (clear : TurnedClear proto (record old { mac = mac }) new step.tick)
    (noted : step.note ≡ Some (Dropped (start_so_far (line ++ Byte b ∷ [])) NoHead))
    (bad : head_of proto.rules (live_bytes_so_far proto.rules (line ++ Byte b ∷ [])) ≡ Bad)
    (mac_stands : (text : List ℕ) × macs.stands mac setup.key text) where
  -- The live byte that makes the header bad comes.
  pub drop-live : (d : Burst) → between.walks.waiting ≡ Some d
      → CheckerHasTaken proto macs new last setup line (Byte b) step
  drop-live d is =
      let rules : Rules = proto.rules in
      let profile : Profile = profile_of proto macs B LIMIT setup in
      let state : CheckState = record { floor = last; earliest_start = old.earliest_start } in
      let m : ℕ = length line in
      let e : Burst = going_on d m b in
      let it = open-walks between.walks between.wide d is in
      let opens = opens-of it in
      let H : Option Burst → Type 0 = λ o. head_of rules (live_bytes_in rules o) ≡ Bad in
      let now : head_of rules (live_bytes rules e) ≡ Bad = subst H (joined-last it b) bad in
      let late = opens.late in
      let from = opens.from in
      drops proto macs setup line (Byte b) (record old { mac = mac }) new step clear between.word_is
      between.wide between.delay_is between.direction_is between.cuts last between.walks.left
      between.walks.outlet_is (unowed-of it) mac_stands it.walked.emissions e (joined it b)
      (omega arith)
      (checked-bad profile rules state e late
      (head-isn't-short rules (live_bytes rules e) (λ short. cc))
      (head-is-bad rules (live_bytes rules e) now))
      (bad-now profile rules proto.lawful proto.headed d m b (may-of it) from
      (still it b between.is_cut) opens.not_bad now)
      noted
