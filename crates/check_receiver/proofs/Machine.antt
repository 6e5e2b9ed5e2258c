-- How the parts of a receiver fit together after a step.
use Rattle.frame_ending.specs.{Answers.AnswersTick, declared.box_step.BoxStep.BoxStep}
use Rattle.check_receiver.proofs.Settled.{IsIn, settles, StaysIdle}
use Rattle.check_receiver.specs.{Phases.is_open, Phases.passes_in, Stands.MacHolds, Stands.CheckerHasTaken}
use Rattle.check_receiver.specs.{Turning.Turned, declared.checker.Checker.Checker}
use Rattle.{check_receiver.specs.declared.phase.Phase.Phase, yasir_ticks.specs.DelayRing.ring_ticks}
use Rattle.frame_ending.specs.Stands.{CutStandsFor}
use Rattle.link_format.specs.{Tag.direction_number, declared.tag.Mac.Ghosts as Mac}
use Rattle.line_rules.specs.declared.line_rules.LineRules.{Ghosts as LineRules}
use Rattle.link_format.specs.{Profile.Profile, Profile.profile_of, Profile.IsWordLen, Setup.Setup}
use Rattle.link_box.proofs.Flow.{Flows, flows}
use Rattle.link_box.proofs.CheckNumbers.{walked-number}
use Rattle.link_box.proofs.Rings.{ring-first}
use Rattle.link_box.{proofs.Rings.ring-silent, specs.Checking.checker, specs.Checking.at_floor}
use Rattle.link_box.specs.{Checking.brief_note, Going.Goes, Leaving.is_none, Turns.HasTurned}
use Rattle.link_box.specs.Verdicts.{CheckState}
use Rattle.link_box.specs.declared.check_note.CheckNote.{CheckNote}
use Rattle.sequence_journal.specs.declared.numbers.TheConstants.{LIMIT}
use Rattle.line_rules.specs.Outlet.{OutletStandsForTicks, OutletRefuses, owed_by}
use Rattle.std.proofs.Common.{◌≡◌, ◌∙◌, ℕ, ◌+◌, ◌-◌, ◌<◌, ◌≤◌, ◌==◌, true, false, List, [], ◌∷◌}
use Rattle.std.proofs.Common.{◌++◌, length, drop, get_or, refl, sym, ap, subst, arith, Option, Some}
use Rattle.std.proofs.Common.{None, IfSome, IfNone, is_some}
use Rattle.std.proofs.lemmas.Bool.{ne_eqb}
use Rattle.yasir_ticks.specs.{Bursts.Burst, Bursts.bursts, Ticks.silent, Ticks.bytes_in}
use Rattle.yasir_ticks.specs.declared.tick.Tick.{Tick, TheVariants.Silent}

pub waiting-none : (o : Option Burst) → is_some o ≡ false → o ≡ None
waiting-none None never = refl
waiting-none (Some d) never = absurd cc

pub waiting-some : (o : Option Burst) → is_some o ≡ true → (d : Burst) × (o ≡ Some d)
waiting-some None there = absurd cc
waiting-some (Some d) there = (d, refl)

-- The last live tick leaves in this step exactly if no step is left until it does.
pub until-last : (live : List Tick) (n : ℕ) → n ≡ length live - 1 → 0 < length live
    → (n == 0) ≡ is_none (drop 1 live)
until-last [] n is some = absurd (omega arith)
until-last (t ∷ []) n is some = let none : n ≡ 0 = omega arith in ap (λ k. k == 0) none
until-last (t ∷ u ∷ live) n is some = ne_eqb n 0 (λ e. omega arith)

first-none : (live : List Tick) → length live ≡ 0 → get_or live 0 Silent ≡ Silent
first-none [] none = refl
first-none (t ∷ live) none = absurd (omega arith)

-- If there were two live ticks or more, one is left.
pub some-left : (live : List Tick) → 1 < length live → is_none (drop 1 live) ≡ false
some-left [] more = absurd (omega arith)
some-left (t ∷ []) more = absurd (omega arith)
some-left (t ∷ u ∷ live) more = refl

module _ {R M : Type 0} (proto : LineRules R) (macs : Mac M) {B D : ℕ} where
  -- ---- a turn, by what hasn't left yet

  module _ (base new : Checker R M B D) (entering answer : Tick)
      (turned : Turned proto base new entering answer) (left : List ℕ) (live : List Tick)
      (stands : OutletStandsForTicks proto base.outlet left)
      (ring_is : ring_ticks base.ring ≡ live ++ silent (D - length live)) where
    pub flow : (0 < length live → owed_by base.outlet ≡ 0)
        → (0 < length live → (base.until == 0) ≡ is_none (drop 1 live))
        → (passes_in base.phase ≡ false → 0 < length live
        → OutletRefuses proto base.outlet (left ++ bytes_in live))
        → Flows proto (passes_in base.phase) left live (owed_by base.outlet) base.outlet new.outlet
        answer
    flow unowed last knows =
        let P : Tick → Type 0 = λ u. HasTurned proto base.outlet new.outlet (base.until == 0)
        (passes_in base.phase) left answer u in
        let first = ap (λ l. get_or l 0 Silent) ring_is ∙ ring-first live (D - length live) in
        flows proto (passes_in base.phase) left live base.outlet new.outlet (base.until == 0) answer
        unowed last (λ there at_last refused. knows refused there)
        (subst P first (turned.out left stands))

    -- If everything has left and nothing is owed, nothing is owed after the turn.
    pub still-unowed : length live ≡ 0 → owed_by base.outlet ≡ 0 → owed_by new.outlet ≡ 0
    still-unowed none unowed =
        let P : Tick → Type 0 = λ u. HasTurned proto base.outlet new.outlet (base.until == 0)
        (passes_in base.phase) left answer u in
        let first = ap (λ l. get_or l 0 Silent) ring_is ∙ ring-first live (D - length live) in
        let turn : P Silent = subst P (first ∙ first-none live none) (turned.out left stands) in
        let less : owed_by new.outlet ≡ owed_by base.outlet - 1 = turn.2 in
        omega arith

  pub ring-waits : (base new : Checker R M B D) (answer : Tick)
      → Turned proto base new Silent answer → (live : List Tick)
      → ring_ticks base.ring ≡ live ++ silent (D - length live) → 1 ≤ D → length live ≤ D
      → ring_ticks new.ring ≡ drop 1 live ++ silent (D - length (drop 1 live))
  ring-waits base new answer turned live is some few =
      turned.ring
      ∙ (ap (λ l. drop 1 l ++ Silent ∷ []) is ∙ ring-silent live D some few)

  module _ (setup : Setup) (line : List Tick) (t : Tick) where
    -- If the parts are as the walk says, the receiver has taken the tick.
    pub assembled : (base new : Checker R M B D) (entering : Tick) (step : BoxStep CheckNote)
        → Turned proto base new entering step.tick
        → IsWordLen B → 2 ≤ B → D ≡ 4 + B + macs.TAG
        → direction_number base.direction ≡ setup.direction
        → CutStandsFor proto base.cut (line ++ t ∷ [])
        → (number : ℕ) (left : List ℕ) (live : List Tick) (waiting : Option Burst)
        (told : Option CheckNote)
        → Goes (profile_of proto macs B LIMIT setup) proto.rules setup.floor line t
        (record { floor = number; earliest_start = base.earliest_start }) (passes_in base.phase) left
        live (owed_by new.outlet) waiting step.tick told
        → step.note ≡ told → OutletStandsForTicks proto new.outlet left
        → ring_ticks new.ring ≡ live ++ silent (D - length live) → length live ≤ D
        → base.until ≡ length live → is_open base.phase ≡ is_some waiting
        → ((text : List ℕ) × macs.stands base.mac setup.key text)
        → IfSome waiting (λ d. MacHolds proto macs setup base.mac base.arriving d)
        → IfNone waiting (passes_in base.phase ≡ false → 0 < length live
        → OutletRefuses proto new.outlet (left ++ bytes_in live))
        → StaysIdle base.phase base.until (owed_by new.outlet)
        → CheckerHasTaken proto macs new number setup line t step
    assembled base new entering step turned word_is wide delay_is direction_is cuts number left live
        waiting told goes noted stands ring_is few until_is waits_is mac_stands mac_holds
        knows stays =
        let P : Checker R M B D → Type 0 = λ v. CheckerHasTaken proto macs v number setup line t step in
        let N : Option CheckNote → Type 0 = λ n. AnswersTick
        (checker (profile_of proto macs B LIMIT setup) proto.rules) brief_note
        (at_floor setup.floor) line t step.tick n in
        let ds : List Burst = bursts (line ++ t ∷ []) in
        let state : CheckState = record { floor = number; earliest_start = base.earliest_start } in
        let profile : Profile = profile_of proto macs B LIMIT setup in
        let I : Phase → Type 0 = λ p. IsIn proto profile setup.floor (length (line ++ t ∷ [])) ds
        state base.until left live new.outlet waiting p in
        let after : I new.phase = subst I (sym turned.phase)
        (settles proto profile setup.floor (length (line ++ t ∷ [])) ds state base.until left live
        new.outlet waiting base.phase goes.walked knows waits_is until_is stays) in
        subst P (sym turned.others)
        (record {
          stands = record {
            word_is = word_is;
            wide = wide;
            delay_is = delay_is;
            direction_is = direction_is;
            cuts = cuts;
            left_in = after.left_in;
            walks = record {
              waiting = waiting;
              left = left;
              live = live;
              walked = after.walked;
              outlet_is = stands;
              knows = after.knows;
              ring_is = ring_is;
              few = few;
              until_is = until_is;
              waits_is = after.waits_is;
              mac_stands = mac_stands;
              mac_holds = mac_holds;
            };
          };
          floor = walked-number (profile_of proto macs B LIMIT setup) proto.rules setup.floor
              (line ++ t ∷ []) (record { floor = number; earliest_start = base.earliest_start })
              (passes_in base.phase) left live (owed_by new.outlet) waiting goes.walked;
          answers = subst N (sym noted) goes.answers;
        })
