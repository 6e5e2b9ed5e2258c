-- A silent tick comes.
use Rattle.frame_ending.specs.declared.box_step.BoxStep.{BoxStep}
use Rattle.check_receiver.proofs.{Machine.ring-waits, Machine.assembled, OpenBursts.open-walks}
use Rattle.check_receiver.{proofs.OpenBursts.moved, specs.Between.CheckerIsBetween, specs.Stands.MacHolds}
use Rattle.check_receiver.{proofs.Settled.open-stays, specs.Phases.is_open, specs.Phases.passes_in}
use Rattle.check_receiver.specs.{Stands.CheckerHasTaken, Turning.Turned, Turning.TurnedRefused}
use Rattle.check_receiver.specs.{Turning.refused, declared.checker.Checker.Checker}
use Rattle.frame_ending.proofs.{Dividing.longer-line, LastBurst.last_burst-silent}
use Rattle.frame_ending.specs.{LiveBytes.live_bytes, LiveBytes.live_end, SoFar.last_burst}
use Rattle.frame_ending.specs.SoFar.{start_in, start_so_far, live_bytes_in, live_bytes_so_far}
use Rattle.{frame_ending.specs.declared.cut.Cut.Cut, link_format.specs.declared.tag.Mac.Ghosts as Mac}
use Rattle.line_rules.specs.{Rules.lacking_of, declared.line_rules.LineRules.Ghosts as LineRules}
use Rattle.link_format.specs.{Profile.Profile, Profile.profile_of, Profile.delay, Setup.Setup}
use Rattle.link_box.proofs.Opened.{opens-of, last-of, long-of, more-of, unowed-of, bytes-of}
use Rattle.link_box.proofs.Opened.{goes-as, bytes-next, silent-goes, silent-breaks}
use Rattle.link_box.specs.Emissions.{owed}
use Rattle.link_box.specs.declared.check_note.CheckNote.{CheckNote}
use Rattle.link_box.specs.declared.check_note.CheckNote.TheVariants.{Refused}
use Rattle.link_box.specs.declared.check_note.RefusedWhy.TheVariants.{Trailer}
use Rattle.sequence_journal.specs.declared.numbers.TheConstants.{LIMIT}
use Rattle.line_rules.{proofs.Standing.stands-unowed, specs.Outlet.OutletRefuses, specs.Outlet.owed_by}
use Rattle.std.proofs.Common.{◌≡◌, ◌∙◌, ℕ, ◌+◌, ◌<◌, ◌≤◌, true, false, List, [], ◌∷◌, ◌++◌}
use Rattle.std.proofs.Common.{length, drop, ap, sym, subst, arith, refl, Option, Some, None, IfSome}
use Rattle.{std.proofs.lemmas.List.length-drop, yasir_ticks.specs.Bursts.Burst}
use Rattle.yasir_ticks.specs.declared.tick.Tick.{Tick, TheVariants.Silent}
pub use Rattle.check_receiver.proofs.OpenBursts.{timely}
use Rattle.std.proofs.{Common.◌==◌, Common.take, lemmas.Bool.ne_eqb}
use Rattle.yasir_ticks.specs.Ticks.{bytes_in}

-- If more than one live tick hasn't left yet, the one that leaves in this step isn't the last.
pub not-last : {R M : Type 0} (proto : LineRules R) (macs : Mac M) {B D : ℕ} (old : Checker R M B D)
    (last : ℕ) (setup : Setup) (line : List Tick) (t : Tick) (cut : Cut)
    (between : CheckerIsBetween proto macs old last setup line t cut) → 1 < length between.walks.live
    → (old.until == 0) ≡ false
not-last proto macs old last setup line t cut between more =
    let one = between.one_less in
    let is = between.walks.until_is in
    ne_eqb old.until 0 (λ zero'. omega arith)

module _ {R M : Type 0} (proto : LineRules R) (macs : Mac M) {B D : ℕ} (old : Checker R M B D)
    (last : ℕ) (setup : Setup) (line : List Tick) (cut : Cut)
    (between : CheckerIsBetween proto macs old last setup line Silent cut)
    (new : Checker R M B D) (step : BoxStep CheckNote)
    (turned : Turned proto old new Silent step.tick) (noted : step.note ≡ None) where
  -- A verdict is open, and stays so through the pause.
  pub open-silent : (d : Burst) → between.walks.waiting ≡ Some d
      → length line < live_end proto.rules d + 3
      → (live_end proto.rules d + 1 ≤ length line
      → proto.rules.header_len ≤ length (live_bytes proto.rules d))
      → is_open old.phase ≡ true → CheckerHasTaken proto macs new last setup line Silent step
  open-silent d is few header waits =
      let left : List ℕ = between.walks.left in
      let live : List Tick = between.walks.live in
      let it = open-walks between.walks between.wide d is in
      let more = more-of it in
      let turn = moved proto old new Silent step.tick turned left live between.walks.outlet_is
      between.walks.ring_is (unowed-of it)
      (not-last proto macs old last setup line Silent cut between more) more in
      let Coded : Option Burst → Type 0 = λ o. IfSome o
      (λ e. MacHolds proto macs setup old.mac old.arriving e) in
      let less = length-drop 1 live in
      let one = between.one_less in
      let until_is = between.walks.until_is in
      let most = between.walks.few in
      let delay_is = between.delay_is in
      assembled proto macs setup line Silent old new Silent step turned between.word_is between.wide
      between.delay_is between.direction_is between.cuts last (left ++ bytes_in (take 1 live))
      (drop 1 live) (Some d) None
      (goes-as Silent step.tick (passes_in old.phase) (owed_by new.outlet) old.earliest_start
      (silent-goes it few header) refl turn.answer_is it.walked.opens.1 turn.unowed refl)
      noted turn.stands
      (ring-waits proto macs old new step.tick turned live between.walks.ring_is (omega arith) most)
      (omega arith) (omega arith) waits between.walks.mac_stands
      (subst Coded is between.walks.mac_holds) tt
      (open-stays old.phase old.until (owed_by new.outlet) waits)

module _ {R M : Type 0} (proto : LineRules R) (macs : Mac M) {B D : ℕ} (old : Checker R M B D)
    (last : ℕ) (setup : Setup) (line : List Tick) (cut : Cut)
    (between : CheckerIsBetween proto macs old last setup line Silent cut) (d : Burst)
    (is : between.walks.waiting ≡ Some d) where
  -- how many live ticks haven't left yet of the burst whose verdict is open
  pub waits-long : length between.walks.live + length line ≡ live_end proto.rules d + D
  waits-long =
      let sum = long-of (open-walks between.walks between.wide d is) in
      let delay_is = between.delay_is in
      omega arith

  -- The burst whose verdict is open is the last one.
  pub waits-last : last_burst (line ++ Silent ∷ []) ≡ Some d
  waits-last =
      last_burst-silent line ∙ last-of (open-walks between.walks between.wide d is)

  -- When two ticks have come after its live bytes, its header is whole.
  pub waits-header : live_end proto.rules d + 2 ≤ length line
      → proto.rules.header_len ≤ length (live_bytes proto.rules d)
  waits-header behind =
      (opens-of (open-walks between.walks between.wide d is)).not_short behind

module _ {R M : Type 0} (proto : LineRules R) (macs : Mac M) {B D : ℕ} (old : Checker R M B D)
    (last : ℕ) (setup : Setup) (line : List Tick) (cut : Cut)
    (between : CheckerIsBetween proto macs old last setup line Silent cut) (new : Checker R M B D)
    (step : BoxStep CheckNote)
    (refuses : TurnedRefused proto old new step.tick)
    (earliest : new.earliest_start ≡ length (line ++ Silent ∷ []) + old.until
    + lacking_of proto.rules (live_bytes_so_far proto.rules (line ++ Silent ∷ [])))
    (noted : step.note ≡ Some (Refused (start_so_far (line ++ Silent ∷ [])) Trailer)) where
  abbrev refusing : Profile
  refusing = profile_of proto macs B LIMIT setup

  abbrev at : ℕ
  at = length line

  -- Silence after the pause refuses the burst.
  pub refuse-silent : (d : Burst) → between.walks.waiting ≡ Some d
      → live_end proto.rules d + 3 ≤ at → CheckerHasTaken proto macs new last setup line Silent step
  refuse-silent d is behind =
      let left : List ℕ = between.walks.left in
      let live : List Tick = between.walks.live in
      let it = open-walks between.walks between.wide d is in
      let more = more-of it in
      let base : Checker R M B D = refused old refuses.outlet new.earliest_start in
      let turned = refuses.turned in
      let none : owed_by refuses.outlet ≡ 0 = refuses.owed ∙ unowed-of it in
      let turn = moved proto base new Silent step.tick turned left live
      (stands-unowed proto refuses.outlet left none) between.walks.ring_is none
      (not-last proto macs old last setup line Silent cut between more) more in
      let whose = waits-last proto macs old last setup line cut between d is in
      let lacks = ap (λ o. lacking_of proto.rules (live_bytes_in proto.rules o)) whose in
      let line_long = longer-line line Silent in
      let one = between.one_less in
      let until_is = between.walks.until_is in
      let long = waits-long proto macs old last setup line cut between d is in
      let delay_is = between.delay_is in
      let same : new.earliest_start
      ≡ live_end proto.rules d + delay refusing + owed proto.rules d = omega arith in
      let less = length-drop 1 live in
      let left' : List ℕ = left ++ bytes_in (take 1 live) in
      assembled proto macs setup line Silent base new Silent step turned between.word_is
      between.wide between.delay_is between.direction_is between.cuts last
      left' (drop 1 live) None (Some (Refused d.start Trailer))
      (goes-as Silent step.tick false (owed_by new.outlet) new.earliest_start
      (silent-breaks it behind) refl turn.answer_is refl turn.unowed same)
      (noted ∙ ap (λ o. Some (Refused (start_in o) Trailer)) whose) turn.stands
      (ring-waits proto macs base new step.tick turned live between.walks.ring_is (omega arith)
      between.walks.few)
      (let few = between.walks.few in omega arith) (omega arith) refl between.walks.mac_stands tt
      (λ stays some. subst (λ v. proto.stands v (left' ++ bytes_in (drop 1 live))) (sym turn.keeps)
      (subst (λ x. OutletRefuses proto refuses.outlet x)
      (ap (λ o. live_bytes_in proto.rules o) whose ∙ sym (bytes-next it ∙ bytes-of it))
      (refuses.knows (line ++ Silent ∷ []) between.cuts))) tt
