-- A tick that begins no burst comes while no verdict is open.
use Rattle.frame_ending.proofs.Coming.{RunsOn, closed-or-runs_on, come-runs_on, come-silent}
use Rattle.frame_ending.specs.{HasCome.HasCome, declared.box_step.BoxStep.BoxStep}
use Rattle.check_receiver.proofs.Machine.{waiting-none, until-last, flow, still-unowed, ring-waits}
use Rattle.check_receiver.proofs.{Machine.assembled, Settled.left-stays}
use Rattle.check_receiver.specs.Phases.{is_open, passes_in}
use Rattle.check_receiver.{proofs.OpenBursts.timely, specs.Between.CheckerIsBetween, specs.Runs.BeginsNone}
use Rattle.check_receiver.specs.{Stands.CheckerHasTaken, Turning.Turned, declared.checker.Checker.Checker}
use Rattle.frame_ending.proofs.Running.{divided-running, byte-lives, byte-over}
use Rattle.frame_ending.specs.Cuts.{cut_of}
use Rattle.frame_ending.specs.declared.cut.Cut.{Cut, TheVariants.Live, TheVariants.Extra}
use Rattle.{link_format.specs.declared.tag.Mac.Ghosts as Mac, line_rules.specs.Rules.Rules}
use Rattle.line_rules.specs.{RulesLaws.IsLawful, declared.line_rules.LineRules.Ghosts as LineRules}
use Rattle.link_format.specs.{Profile.Profile, Profile.profile_of, Setup.Setup}
use Rattle.link_box.proofs.Resting.{causal, rest-goes, knows-more}
use Rattle.link_box.specs.Checking.{checker, at_floor}
use Rattle.link_box.specs.{Holding.HasWalked, Timely.IsTimely, Verdicts.CheckState}
use Rattle.link_box.specs.declared.check_note.CheckNote.{CheckNote}
use Rattle.sequence_journal.specs.declared.numbers.TheConstants.{LIMIT}
use Rattle.line_rules.specs.Outlet.{OutletRefuses, owed_by}
use Rattle.std.proofs.Common.{◌≡◌, ◌∙◌, ◌⊎◌, ⊎_elim, ℕ, ◌-◌, false, List, [], ◌∷◌, ◌++◌, length}
use Rattle.std.proofs.Common.{◌<◌, drop, sym, ap, subst, arith, Option, None, IfNone}
use Rattle.std.proofs.lemmas.List.{length-drop, append-nil}
use Rattle.yasir_ticks.specs.{Bursts.Burst, Bursts.bursts, Ticks.bytes_in}
use Rattle.yasir_ticks.specs.declared.tick.Tick.{Tick, TheVariants.Silent, TheVariants.Byte}

-- If a byte begins no burst, one is running.
runs-on : (rules : Rules) (lawful : IsLawful rules) (line : List Tick) (b : ℕ)
    → (cut_of rules line (Byte b) ≡ Live b) ⊎ (cut_of rules line (Byte b) ≡ Extra b)
    → RunsOn (length line) (bursts line)
runs-on rules lawful line b which =
    ⊎_elim
    (λ closed.
    let run = divided-running line (bursts line) None
    (record { is = sym (append-nil (bursts line)); are_closed = closed; is_running = tt }) in
    ⊎_elim
    (λ live. let on = (byte-lives rules lawful line b None run live).is in absurd cc)
    (λ extra. let on = (byte-over rules lawful line b None run extra).is in absurd cc) which)
    (λ on. on)
    (closed-or-runs_on line)

pub begins-none : (rules : Rules) (line : List Tick) (t : Tick) (b : ℕ) → t ≡ Byte b
    → (cut_of rules line t ≡ Live b) ⊎ (cut_of rules line t ≡ Extra b) → BeginsNone rules line t
begins-none rules line t b is which =
    let C : Tick → Type 0 = λ u. (cut_of rules line u ≡ Live b) ⊎ (cut_of rules line u ≡ Extra b) in
    let P : Tick → Type 0 = λ u. BeginsNone rules line u in
    subst P (sym is) (subst C is which)

-- After the tick, the walk over the bursts waits for no note.
pub comes : {R : Type 0} (proto : LineRules R) (profile : Profile)
    (timely : IsTimely profile proto.rules) (floor : ℕ) (s : CheckState) (line : List Tick)
    (t : Tick) (emissions : List Burst)
    → HasCome (checker profile proto.rules) (at_floor floor) (length line) (bursts line) s emissions
    None
    → BeginsNone proto.rules line t
    → HasCome (checker profile proto.rules) (at_floor floor) (length line)
    (bursts (line ++ t ∷ [])) s emissions None
comes proto profile timely floor s line Silent emissions come none =
    come-silent (checker profile proto.rules) (causal proto profile timely floor line Silent)
    (at_floor floor) line s emissions None come
comes proto profile timely floor s line (Byte b) emissions come none =
    come-runs_on (checker profile proto.rules) (causal proto profile timely floor line (Byte b))
    (at_floor floor) line s emissions b come (runs-on proto.rules proto.lawful line b none)

pub rest-taken : {R M : Type 0} (proto : LineRules R) (macs : Mac M) {B D : ℕ}
    (old : Checker R M B D) (last : ℕ) (setup : Setup) (line : List Tick) (t : Tick) (cut : Cut)
    (between : CheckerIsBetween proto macs old last setup line t cut) (new : Checker R M B D)
    (step : BoxStep CheckNote) → Turned proto old new Silent step.tick → step.note ≡ None
    → BeginsNone proto.rules line t → is_open old.phase ≡ false
    → CheckerHasTaken proto macs new last setup line t step
rest-taken proto macs {B} {D} old last setup line t cut between new step turned noted begins
    closed =
    let profile : Profile = profile_of proto macs B LIMIT setup in
    let state : CheckState = record { floor = last; earliest_start = old.earliest_start } in
    let W : Option Burst → Type 0 = λ o. HasWalked profile proto.rules setup.floor (length line)
    (bursts line) state (passes_in old.phase) between.walks.left between.walks.live
    (owed_by old.outlet) o in
    let none = waiting-none between.walks.waiting (sym between.walks.waits_is ∙ closed) in
    let walked : W None = subst W none between.walks.walked in
    let K : Option Burst → Type 0 = λ o. IfNone o (passes_in old.phase ≡ false
    → 0 < length between.walks.live
    → OutletRefuses proto old.outlet (between.walks.left ++ bytes_in between.walks.live)) in
    let knows : K None = subst K none between.walks.knows in
    let time = timely proto macs B setup between.wide in
    let until = between.one_less ∙ ap (λ k. k - 1) between.walks.until_is in
    let flows = flow proto macs old new Silent step.tick turned between.walks.left
    between.walks.live between.walks.outlet_is between.walks.ring_is walked.unowed
    (λ there. until-last between.walks.live old.until until there) knows in
    let less = length-drop 1 between.walks.live in
    let one = between.one_less in
    let until_is = between.walks.until_is in
    let few = between.walks.few in
    let delay_is = between.delay_is in
    assembled proto macs setup line t old new Silent step turned between.word_is between.wide
    between.delay_is between.direction_is between.cuts last flows.after
    (drop 1 between.walks.live) None None
    (rest-goes proto profile time setup.floor line t state walked.emissions (passes_in old.phase)
    between.walks.left between.walks.live (owed_by old.outlet) old.outlet new.outlet step.tick flows
    walked.rests
    (comes proto profile time setup.floor state line t walked.emissions walked.come begins))
    noted flows.stands
    (ring-waits proto macs old new step.tick turned between.walks.live between.walks.ring_is
    (omega arith) between.walks.few)
    (omega arith) (omega arith) closed between.walks.mac_stands tt
    (knows-more proto (length line) old.earliest_start walked.emissions (passes_in old.phase)
    between.walks.left between.walks.live (owed_by old.outlet) old.outlet new.outlet step.tick flows
    knows)
    (left-stays old.phase between.before old.until (owed_by old.outlet) (owed_by new.outlet)
    between.left_in one (λ gone unowed. still-unowed proto macs old new Silent step.tick turned
    between.walks.left between.walks.live between.walks.outlet_is between.walks.ring_is
    (omega arith) unowed))
