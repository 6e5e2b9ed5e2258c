-- The phase of a receiver after a step.
use Rattle.check_receiver.specs.Phases.{is_open, passes_in, LeftIn, settled}
use Rattle.check_receiver.specs.declared.phase.Phase.{Phase}
use Rattle.check_receiver.specs.declared.phase.Phase.TheVariants.{Idle, Open, Leaving}
use Rattle.line_rules.specs.{Rules.Rules, declared.line_rules.LineRules.Ghosts as LineRules}
use Rattle.link_format.specs.Profile.{Profile}
use Rattle.link_box.{proofs.Leavings.leaves-none, specs.Holding.HasWalked}
use Rattle.link_box.specs.{Holding.Rests, Leaving.leaves, Verdicts.CheckState}
use Rattle.line_rules.specs.{Outlet.OutletRefuses, Outlet.owed_by, declared.outlet.Outlet.Outlet}
use Rattle.std.proofs.Common.{◌≡◌, ◌∙◌, ℕ, ◌+◌, ◌-◌, ◌<◌, ◌==◌, ◌&&◌, nat_lt, not, Bool, true}
use Rattle.std.proofs.Common.{false, List, [], ◌∷◌, ◌++◌, length, get_or, refl, sym, ap, subst}
use Rattle.std.proofs.Common.{arith, ⊎_elim, Option, Some, None, IfNone, is_some}
use Rattle.std.proofs.lemmas.Bool.{cases_lt, cond-true, cond-false, lt-ltb, le-ltb, eq-eqb, ne_eqb}
use Rattle.yasir_ticks.specs.{Bursts.Burst, Ticks.bytes_in}
use Rattle.yasir_ticks.specs.declared.tick.Tick.{Tick, TheVariants.Silent}

-- ---- what hasn't left yet in a phase

-- If a verdict is open, `LeftIn` asks nothing: the walk says what hasn't left yet.
pub open-left : (p : Phase) (until owed : ℕ) → is_open p ≡ true → LeftIn p until owed
open-left Idle until owed opens = absurd cc
open-left Open until owed opens = tt
open-left (Leaving passed) until owed opens = absurd cc

-- While live ticks leave, and one more hasn't left yet, the phase stays.
pub more-left : (p : Phase) (before until owed : ℕ) → LeftIn p before owed → 0 < before → 0 < until
    → LeftIn p until owed
more-left Idle before until owed left some more = absurd (omega (arith, left.0, some))
more-left Open before until owed left some more = tt
more-left (Leaving passed) before until owed left some more = omega arith

-- Holds if everything has left, in case the receiver is idle: a turn leaves an idle receiver so.
abbrev pub StaysIdle : Phase → ℕ → ℕ → Type 0
StaysIdle Idle until owed = (until ≡ 0) × (owed ≡ 0)
StaysIdle Open until owed = Unit {0}
StaysIdle (Leaving passed) until owed = Unit {0}

pub open-stays : (p : Phase) (until owed : ℕ) → is_open p ≡ true → StaysIdle p until owed
open-stays Idle until owed opens = absurd cc
open-stays Open until owed opens = tt
open-stays (Leaving passed) until owed opens = absurd cc

pub left-stays : (p : Phase) (before until owed later : ℕ) → LeftIn p before owed
    → until ≡ before - 1 → (before ≡ 0 → owed ≡ 0 → later ≡ 0) → StaysIdle p until later
left-stays Idle before until owed later left less still =
    (omega (arith, left.0, less), still left.0 left.1)
left-stays Open before until owed later left less still = tt
left-stays (Leaving passed) before until owed later left less still = tt

-- ---- if everything has left, it makes no difference whether the last burst has passed

rests-any : (rules : Rules) (p q : Bool) (m earliest : ℕ) (left : List ℕ) (live : List Tick)
    (owed : ℕ) (emissions : List Burst) → length live ≡ 0
    → Rests rules p m earliest left live owed emissions
    → Rests rules q m earliest left live owed emissions
rests-any rules p q m earliest left [] owed emissions none rests =
    let same : leaves rules p left [] owed ≡ leaves rules q left [] owed =
    leaves-none rules p left owed ∙ sym (leaves-none rules q left owed) in
    record {
      shows = λ i later. rests.shows i later ∙ ap (λ l. get_or l (i - m) Silent) same;
      ends = λ some.
          let size = ap length same in
          let end = rests.ends (omega arith) in
          omega arith;
    }
rests-any rules p q m earliest left (t ∷ live) owed emissions none rests = absurd (omega arith)

walked-any : (profile : Profile) (rules : Rules) (floor m : ℕ) (ds : List Burst) (s : CheckState)
    (p q : Bool) (left : List ℕ) (live : List Tick) (owed : ℕ) (waiting : Option Burst)
    → length live ≡ 0 → false ≡ is_some waiting
    → HasWalked profile rules floor m ds s p left live owed waiting
    → HasWalked profile rules floor m ds s q left live owed waiting
walked-any profile rules floor m ds s p q left live owed None none closed walked = record {
  emissions = walked.emissions;
  come = walked.come;
  unowed = walked.unowed;
  opens = tt;
  rests = rests-any rules p q m s.earliest_start left live owed walked.emissions none walked.rests;
}
walked-any profile rules floor m ds s p q left live owed (Some d) none closed walked = absurd cc

where-none : (o : Option Burst) (A : Type 0) → A → IfNone o A
where-none None A holds = holds
where-none (Some d) A holds = tt

-- ---- after a turn

module _ {R : Type 0} (proto : LineRules R) (profile : Profile) (floor m : ℕ) (ds : List Burst)
    (s : CheckState) (until : ℕ) (left : List ℕ) (live : List Tick) (outlet : Outlet R)
    (waiting : Option Burst) where
  abbrev pub Walked : Phase → Type 0
  Walked p = HasWalked profile proto.rules floor m ds s (passes_in p) left live (owed_by outlet)
      waiting

  abbrev pub Knows : Phase → Type 0
  Knows p = IfNone waiting (passes_in p ≡ false → 0 < length live
      → OutletRefuses proto outlet (left ++ bytes_in live))

  -- Holds if the receiver is in the phase `p`, with these live ticks and bytes of a fill that
  -- haven't left yet.
  pub record IsIn (p : Phase) : Type 0 where
    pub walked : Walked p
    pub knows : Knows p
    pub waits_is : is_open p ≡ is_some waiting
    pub left_in : LeftIn p until (owed_by outlet)

  pub settles : (p : Phase) → Walked p → Knows p → is_open p ≡ is_some waiting
      → until ≡ length live → StaysIdle p until (owed_by outlet)
      → IsIn (settled p until (nat_lt 0 (owed_by outlet)))
  settles Idle walked knows waits_is until_is stays =
      record { walked = walked; knows = knows; waits_is = waits_is; left_in = stays }
  settles Open walked knows waits_is until_is stays =
      record { walked = walked; knows = knows; waits_is = waits_is; left_in = tt }
  settles (Leaving passed) walked knows waits_is until_is stays =
      let P : Phase → Type 0 = λ p. IsIn p in
      let leaving : 0 < until + owed_by outlet → IsIn (Leaving passed) = λ some.
      record { walked = walked; knows = knows; waits_is = waits_is; left_in = some } in
      ⊎_elim
      (λ more. subst P (sym (cond-true _ _ _ (lt-ltb _ _ more))) (leaving (omega arith)))
      (λ last.
      let over = cond-false _ _ _ (le-ltb _ _ last) in
      ⊎_elim
      (λ fills. subst P (sym (over ∙ cond-true _ _ _ (lt-ltb _ _ fills))) (leaving (omega arith)))
      (λ unowed.
      let none : length live ≡ 0 = omega arith in
      subst P (sym (over ∙ cond-false _ _ _ (le-ltb _ _ unowed)))
      (record {
        walked = walked-any profile proto.rules floor m ds s passed false left live (owed_by outlet)
            waiting none waits_is walked;
        knows = where-none waiting (false ≡ false → 0 < length live
            → OutletRefuses proto outlet (left ++ bytes_in live)) (λ refused some. absurd (omega arith));
        waits_is = waits_is;
        left_in = (omega arith, omega arith);
      }))
      (cases_lt 0 (owed_by outlet)))
      (cases_lt 0 until)
