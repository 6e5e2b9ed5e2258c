-- The burst whose verdict is open, as the receiver holds it.
use Rattle.check_receiver.{proofs.Machine.some-left, specs.Phases.passes_in, specs.Stands.CheckerWalks}
use Rattle.check_receiver.specs.{Turning.Turned}
use Rattle.check_receiver.specs.declared.{arriving.Arriving.Arriving, checker.Checker.Checker}
use Rattle.yasir_ticks.specs.{DelayRing.ring_ticks, declared.delay_ring.DelayRing.DelayRing}
use Rattle.link_format.specs.declared.tag.Mac.{Ghosts as Mac}
use Rattle.line_rules.specs.declared.line_rules.LineRules.{Ghosts as LineRules}
use Rattle.link_format.specs.{Profile.profile_of, Setup.Setup}
use Rattle.link_box.proofs.{Flow.flows, Opened.IsOpen, Opening.leaves-front, Rings.ring-first}
use Rattle.link_box.specs.{Holding.HasWalked, Leaving.leaves, Timely.IsTimely, Turns.HasTurned}
use Rattle.sequence_journal.specs.declared.numbers.TheConstants.{LIMIT}
use Rattle.line_rules.specs.Outlet.{OutletStandsForTicks, owed_by, refused_by}
use Rattle.line_rules.specs.declared.outlet.Outlet.{Outlet}
use Rattle.std.proofs.Common.{◌≡◌, ◌∙◌, ℕ, ◌-◌, ◌<◌, ◌≤◌, ◌==◌, Bool, false, List, ◌++◌}
use Rattle.std.proofs.Common.{length, take, get_or, sym, ap, subst, arith, ⊎_elim, Option, Some}
use Rattle.yasir_ticks.specs.{Bursts.Burst, Bursts.bursts, Ticks.silent, Ticks.bytes_in}
use Rattle.yasir_ticks.specs.declared.tick.Tick.{Tick, TheVariants.Silent, TheVariants.Byte}

-- A header is whole before its first byte leaves.
pub timely : {R M : Type 0} (proto : LineRules R) (macs : Mac M) (B : ℕ) (setup : Setup) → 2 ≤ B
    → IsTimely (profile_of proto macs B LIMIT setup) proto.rules
timely proto macs B setup wide =
    let short = proto.headed.short in
    record {
      in_time = ⊎_elim (λ twelve. omega arith) (λ sixteen. omega arith) macs.tag_size;
    }

pub open-walks : {R M : Type 0} {proto : LineRules R} {macs : Mac M} {B D last earliest : ℕ}
    {waits passes : Bool} {mac : M} {arriving : Arriving B} {ring : DelayRing D} {until : ℕ}
    {outlet : Outlet R} {setup : Setup} {line : List Tick}
    (walks : CheckerWalks proto macs B D last earliest waits passes mac arriving ring until outlet setup
    line)
    → 2 ≤ B → (d : Burst) → walks.waiting ≡ Some d
    → IsOpen proto (profile_of proto macs B LIMIT setup) setup.floor
    (record { floor = last; earliest_start = earliest }) line passes walks.left walks.live
    (owed_by outlet) d
open-walks {R} {M} {proto} {macs} {B} {D} {last} {earliest} {waits} {passes} {mac} {arriving} {ring}
    {until} {outlet} {setup} {line} walks wide d is =
    let W : Option Burst → Type 0 = λ o. HasWalked (profile_of proto macs B LIMIT setup) proto.rules
    setup.floor (length line) (bursts line) (record { floor = last; earliest_start = earliest })
    passes walks.left walks.live (owed_by outlet) o in
    record {
      timely = timely proto macs B setup wide;
      some = omega arith;
      walked = subst W is walks.walked;
    }

-- ---- the turn of a ring that holds more than one live tick: a tick that isn't the last one leaves
-- as it came, whatever the verdict

turned-any : {R : Type 0} (proto : LineRules R) (old new : Outlet R) (p q : Bool) (x : List ℕ)
    (answer u : Tick) → HasTurned proto old new false p x answer u
    → HasTurned proto old new false q x answer u
turned-any proto old new p q x answer Silent turned = turned
turned-any proto old new p q x answer (Byte b) turned =
    λ knows. turned (λ at_last refused. absurd cc)

pub record Moved {R : Type 0} (proto : LineRules R) (left : List ℕ) (live : List Tick)
    (old new : Outlet R) (answer : Tick) : Type 0 where
  pub stands : OutletStandsForTicks proto new (left ++ bytes_in (take 1 live))
  pub answer_is : answer ≡ get_or live 0 Silent
  pub unowed : owed_by new ≡ 0
  pub keeps : refused_by new ≡ refused_by old

pub moved : {R M : Type 0} (proto : LineRules R) {B D : ℕ} (base new : Checker R M B D)
    (entering answer : Tick) → Turned proto base new entering answer
    → (left : List ℕ) (live : List Tick) → OutletStandsForTicks proto base.outlet left
    → ring_ticks base.ring ≡ live ++ silent (D - length live) → owed_by base.outlet ≡ 0
    → (base.until == 0) ≡ false → 1 < length live
    → Moved proto left live base.outlet new.outlet answer
moved proto {B} {D} base new entering answer turned left live stands ring_is none other more =
    let first = ap (λ l. get_or l 0 Silent) ring_is ∙ ring-first live (D - length live) in
    let P : Bool → Type 0 = λ l. HasTurned proto base.outlet new.outlet l (passes_in base.phase)
    left answer (get_or (ring_ticks base.ring) 0 Silent) in
    let still : P false = subst P other (turned.out left stands) in
    let Q : Tick → Type 0 = λ u. HasTurned proto base.outlet new.outlet false false left answer u in
    let turn : Q (get_or live 0 Silent) = subst Q first (turned-any proto base.outlet new.outlet
    (passes_in base.phase) false left answer (get_or (ring_ticks base.ring) 0 Silent) still) in
    let flow = flows proto false left live base.outlet new.outlet false answer (λ there. none)
    (λ there. sym (some-left live more)) (λ there at_last refused. absurd cc) turn in
    record {
      stands = subst (λ x. OutletStandsForTicks proto new.outlet x) (flow.after_is none) flow.stands;
      answer_is = flow.answer_is
          ∙ (ap (λ n. get_or (leaves proto.rules false left live n) 0 Silent) none
          ∙ leaves-front proto.rules false left live 0 (omega arith));
      unowed = flow.unowed more;
      keeps = flow.keeps (omega arith);
    }
