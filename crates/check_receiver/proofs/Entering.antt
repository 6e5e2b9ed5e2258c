-- A live byte enters the ring.
use Rattle.frame_ending.specs.{Causal.going_on, declared.box_step.BoxStep.BoxStep}
use Rattle.check_receiver.proofs.{Machine.assembled, OpenBursts.open-walks, OpenBursts.moved}
use Rattle.check_receiver.{proofs.Settled.open-stays, specs.Between.CheckerIsBetween, specs.Phases.is_open}
use Rattle.check_receiver.specs.{Phases.passes_in, Stands.MacHolds, Stands.CheckerHasTaken, Turning.Turned}
use Rattle.check_receiver.specs.{Turning.with_until, declared.checker.Checker.Checker}
use Rattle.yasir_ticks.specs.DelayRing.{ring_ticks}
use Rattle.frame_ending.specs.{LiveBytes.live_bytes, SoFar.live_bytes_in, SoFar.live_bytes_so_far}
use Rattle.frame_ending.specs.declared.cut.Cut.TheVariants.{Live}
use Rattle.link_format.specs.declared.tag.Mac.{Ghosts as Mac}
use Rattle.line_rules.specs.{Rules.Rules, Rules.head_of, declared.head.Head.TheVariants.Bad}
use Rattle.line_rules.specs.declared.line_rules.LineRules.{Ghosts as LineRules}
use Rattle.{link_format.specs.Setup.Setup, link_box.proofs.Judging.head-bad}
use Rattle.link_box.proofs.Opened.{opens-of, long-of, more-of, unowed-of, joined-last, goes-as}
use Rattle.link_box.proofs.Opened.{live-goes, live-gap, live-adds, live-before, live-after}
use Rattle.link_box.proofs.{Opening.length-silent, Rings.ring-byte}
use Rattle.link_box.specs.declared.check_note.CheckNote.{CheckNote}
use Rattle.line_rules.specs.Outlet.{owed_by}
use Rattle.std.proofs.Common.{◌≡◌, ◌∙◌, ℕ, ◌-◌, ◌≤◌, ◌==◌, true, false, List, [], ◌∷◌, ◌++◌}
use Rattle.std.proofs.Common.{length, length-append, take, drop, refl, sym, ap, subst, arith}
use Rattle.std.proofs.Common.{⊎_elim, Option, Some, None, IfSome}
use Rattle.std.proofs.lemmas.{Bool.cases_Bool, Bool.ne_eqb, List.append-nil, List.length-drop}
use Rattle.yasir_ticks.specs.{Bursts.Burst, Bursts.end_of, Ticks.silent, Ticks.bytes_in}
use Rattle.yasir_ticks.specs.declared.tick.Tick.{Tick, TheVariants.Byte}

-- A live byte comes while the verdict on its burst is open.

module _ {R M : Type 0} (proto : LineRules R) (macs : Mac M) {B D : ℕ} (old : Checker R M B D)
    (last : ℕ) (setup : Setup) (line : List Tick) (b : ℕ)
    (between : CheckerIsBetween proto macs old last setup line (Byte b) (Live b)) (mac : M) (n : ℕ)
    (new : Checker R M B D) (step : BoxStep CheckNote)
    (turned : Turned proto (with_until n (record old { mac = mac })) new (Byte b) step.tick)
    (until : D ≤ 64 → n ≡ D) (noted : step.note ≡ None)
    (not_bad : head_of proto.rules (live_bytes_so_far proto.rules (line ++ Byte b ∷ [])) ≡ Bad → ⊥)
    (d : Burst) (is : between.walks.waiting ≡ Some d)
    (mac_stands : (text : List ℕ) × macs.stands mac setup.key text)
    (mac_holds : MacHolds proto macs setup mac old.arriving (going_on d (length line) b)) where
  pub live-taken : is_open old.phase ≡ true → CheckerHasTaken proto macs new last setup line (Byte b) step
  live-taken waits =
      let rules : Rules = proto.rules in
      let m : ℕ = length line in
      let left : List ℕ = between.walks.left in
      let live : List Tick = between.walks.live in
      let base : Checker R M B D = with_until n (record old { mac = mac }) in
      let it = open-walks between.walks between.wide d is in
      let e : Burst = going_on d m b in
      let next = joined-last it b in
      let N : Option Burst → Type 0 = λ o. head_of rules (live_bytes_in rules o) ≡ Bad → ⊥ in
      let never : N (Some e) = subst N next not_bad in
      let size = macs.tag_size in
      let delay_is = between.delay_is in
      let word_is = between.word_is in
      let top = word_is.1 in
      let small : D ≤ 64 = ⊎_elim (λ twelve. omega arith) (λ sixteen. omega arith) size in
      let whole : n ≡ D = until small in
      let other : (n == 0) ≡ false = ne_eqb n 0 (λ zero'. omega arith) in
      let turn = moved proto base new (Byte b) step.tick turned left live between.walks.outlet_is
      between.walks.ring_is (unowed-of it) other (more-of it) in
      let goes = live-goes it b between.is_cut
      (λ header. ⊎_elim (λ good. good)
      (λ bad. absurd (never (head-bad rules (live_bytes rules e) header bad)))
      (cases_Bool (rules.is_good_header (take rules.header_len (live_bytes rules e)))))
      in
      let gap : ℕ = m - end_of d in
      let gap_is = live-gap it b between.is_cut in
      let sum_is = long-of it in
      let more = more-of it in
      let entered : List Tick = drop 1 live ++ (silent gap ++ Byte b ∷ []) in
      let less = length-drop 1 live in
      let tail = length-silent gap (Byte b ∷ []) in
      let sum = length-append (drop 1 live) (silent gap ++ Byte b ∷ []) in
      let from = (opens-of it).end_from in
      let full : length entered ≡ D = omega arith in
      let empty : D - length entered ≡ 0 = omega arith in
      let same : D - length live ≡ gap = omega arith in
      let ring : ring_ticks new.ring ≡ entered ++ silent (D - length entered) =
      turned.ring
      ∙ (ap (λ l. drop 1 l ++ Byte b ∷ []) between.walks.ring_is
      ∙ (ring-byte live (D - length live) b (omega arith)
      ∙ (ap (λ k. drop 1 live ++ (silent k ++ Byte b ∷ [])) same
      ∙ (sym (append-nil entered) ∙ ap (λ k. entered ++ silent k) (sym empty))))) in
      assembled proto macs setup line (Byte b) base new (Byte b) step turned between.word_is
      between.wide between.delay_is between.direction_is between.cuts last
      (left ++ bytes_in (take 1 live)) entered (Some e) None
      (goes-as (Byte b) step.tick (passes_in old.phase) (owed_by new.outlet) old.earliest_start goes
      refl turn.answer_is it.walked.opens.1 turn.unowed refl)
      noted turn.stands ring (omega arith) (omega arith) waits mac_stands mac_holds tt
      (open-stays old.phase n (owed_by new.outlet) waits)

module _ {R M : Type 0} (proto : LineRules R) (macs : Mac M) {B D : ℕ} (old : Checker R M B D)
    (last : ℕ) (setup : Setup) (line : List Tick) (b : ℕ)
    (between : CheckerIsBetween proto macs old last setup line (Byte b) (Live b)) (mac : M)
    (d : Burst) (is : between.walks.waiting ≡ Some d)
    (update : (key text : List ℕ) → macs.stands old.mac key text
    → macs.stands mac key (text ++ b ∷ [])) where
  pub live-mac_holds : MacHolds proto macs setup mac old.arriving (going_on d (length line) b)
  live-mac_holds =
      let rules : Rules = proto.rules in
      let it = open-walks between.walks between.wide d is in
      let S : Option Burst → Type 0 = λ o. IfSome o
      (λ x. MacHolds proto macs setup old.mac old.arriving x) in
      let mac_holds : S (Some d) = subst S is between.walks.mac_holds in
      let C : List ℕ → Type 0 = λ x. macs.stands mac setup.key
      (rules.label ∷ setup.direction ∷ x) in
      record {
        mac_is = subst C (sym (live-adds it b between.is_cut))
            (update setup.key (rules.label ∷ setup.direction ∷ live_bytes rules d) mac_holds.mac_is);
        come = mac_holds.come
            ∙ (live-before it b between.is_cut ∙ sym (live-after it b between.is_cut));
      }
