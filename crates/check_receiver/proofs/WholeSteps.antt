-- A whole step of a receiver: first the value that cuts the link takes the tick, and one step less
-- is left until the last live byte leaves; then everything else takes the tick.
use Rattle.frame_ending.specs.declared.box_step.BoxStep.{BoxStep}
use Rattle.check_receiver.specs.{Between.CheckerIsBetween, Between.IsSilence, Checkings.PassesWith}
use Rattle.check_receiver.specs.{Stands.CheckerStandsAt, Stands.CheckerHasTaken, declared.checker.Checker.Checker}
use Rattle.frame_ending.proofs.Running.{closed-tick, passing-byte}
use Rattle.frame_ending.specs.{Cuts.cut_of, Stands.CutStandsFor}
use Rattle.frame_ending.specs.declared.burst_cut.BurstCut.{BurstCut}
use Rattle.frame_ending.specs.declared.cut.Cut.{Cut, TheVariants.Start}
use Rattle.frame_ending.specs.declared.cut.Cut.TheVariants.{Live, Extra, Pause, Closed, Quiet}
use Rattle.link_format.specs.declared.tag.Mac.{Ghosts as Mac}
use Rattle.line_rules.specs.{Rules.Rules, declared.line_rules.LineRules.Ghosts as LineRules}
use Rattle.link_format.specs.{Profile.profile_of, Setup.Setup}
use Rattle.link_box.specs.declared.check_note.CheckNote.{CheckNote}
use Rattle.sequence_journal.specs.declared.journal.JournalFault.{JournalFault}
use Rattle.sequence_journal.specs.declared.numbers.TheConstants.{LIMIT}
use Rattle.std.proofs.Common.{◌≡◌, ◌∙◌, ◌⊎◌, ⊎_elim, ℕ, ◌-◌, List, [], ◌∷◌, ◌++◌, refl, sym, subst}
use Rattle.std.proofs.Common.{Result, Ok, Err, IfOk, OnErr}
use Rattle.yasir_ticks.specs.declared.tick.Tick.{Tick, TheVariants.Silent, TheVariants.Byte}

-- ---- the cut of a silent tick

pub silence-is : (cut : Cut) → ((n : ℕ) × (cut ≡ Pause n)) ⊎ ((cut ≡ Closed) ⊎ (cut ≡ Quiet))
    → IsSilence cut
silence-is cut which =
    let P : Cut → Type 0 = λ c. IsSilence c in
    ⊎_elim
    (λ pause. subst P (sym pause.1) tt)
    (λ others. ⊎_elim (λ closed. subst P (sym closed) tt) (λ quiet. subst P (sym quiet) tt) others)
    which

pub silence-tick : (rules : Rules) (line : List Tick) (t : Tick) (cut : Cut)
    → cut_of rules line t ≡ cut → IsSilence cut → t ≡ Silent
silence-tick rules line Silent cut is silence = refl
silence-tick rules line (Byte b) (Start c) is silence = absurd silence
silence-tick rules line (Byte b) (Live c) is silence = absurd silence
silence-tick rules line (Byte b) (Extra c) is silence = absurd silence
silence-tick rules line (Byte b) (Pause n) is silence =
    let extra = passing-byte rules line b (Pause n) is tt in absurd cc
silence-tick rules line (Byte b) Closed is silence = closed-tick rules line (Byte b) is
silence-tick rules line (Byte b) Quiet is silence =
    let extra = passing-byte rules line b Quiet is tt in absurd cc

module _ {R M : Type 0} (proto : LineRules R) (macs : Mac M) {B D : ℕ} (old : Checker R M B D)
    (last : ℕ) (cut : BurstCut R) (fewer : ℕ) (one_less : fewer ≡ old.until - 1) (t : Tick)
    (told : Cut)
    (answers : (line : List Tick) → CutStandsFor proto old.cut line
    → told ≡ cut_of proto.rules line t)
    (takes : (line : List Tick) → CutStandsFor proto old.cut line
    → CutStandsFor proto cut (line ++ t ∷ [])) where
  abbrev Before : Setup → List Tick → Type 0
  Before setup line = CheckerStandsAt proto macs old last setup line

  abbrev Between : Cut → Setup → List Tick → Tick → Type 0
  Between what setup line u = CheckerIsBetween proto macs (record old { cut = cut; until = fewer }) last
      setup line u what

  pub between : (what : Cut) → told ≡ what → (setup : Setup) (line : List Tick) → Before setup line
      → Between what setup line t
  between what is setup line stands = record {
    word_is = stands.word_is;
    wide = stands.wide;
    delay_is = stands.delay_is;
    direction_is = stands.direction_is;
    cuts = takes line stands.cuts;
    is_cut = sym (answers line stands.cuts) ∙ is;
    before = old.until;
    one_less = one_less;
    left_in = stands.left_in;
    walks = stands.walks;
  }

  -- If the tick is cut as `what`, and everything else takes a tick that is cut so, the receiver
  -- takes the tick.
  pub taken-then : (what : Cut) → told ≡ what → (new : Checker R M B D) (number : ℕ)
      (step : BoxStep CheckNote)
      → ((setup : Setup) (line : List Tick) → Between what setup line t
      → CheckerHasTaken proto macs new number setup line t step)
      → (setup : Setup) (line : List Tick) → Before setup line
      → CheckerHasTaken proto macs new number setup line t step
  taken-then what is new number step rest setup line stands =
      rest setup line (between what is setup line stands)

  -- If the tick is cut as silence, and the receiver takes a silent tick that is cut so, it takes
  -- the tick.
  pub taken-silence : IsSilence told → (new : Checker R M B D) (number : ℕ)
      (step : BoxStep CheckNote)
      → ((setup : Setup) (line : List Tick) → Between told setup line Silent
      → CheckerHasTaken proto macs new number setup line Silent step)
      → (setup : Setup) (line : List Tick) → Before setup line
      → CheckerHasTaken proto macs new number setup line t step
  taken-silence silence new number step rest setup line stands =
      let at = between told refl setup line stands in
      let P : Tick → Type 0 = λ u. Between told setup line u
      → CheckerHasTaken proto macs new number setup line u step in
      subst P (sym (silence-tick proto.rules line t told at.is_cut silence)) (rest setup line) at

  -- ---- a step that may fail

  module _ (what : Cut) (is : told ≡ what) where
    pub taken-ok : (new : Checker R M B D) (number : ℕ)
        (result : Result (BoxStep CheckNote) JournalFault)
        → IfOk result (λ step. (setup : Setup) (line : List Tick) (u : Tick)
        → Between what setup line u → CheckerHasTaken proto macs new number setup line u step)
        → IfOk result (λ step. (setup : Setup) (line : List Tick) → Before setup line
        → CheckerHasTaken proto macs new number setup line t step)
    taken-ok new number (Ok step) rest = λ setup line stands.
        rest setup line t (between what is setup line stands)
    taken-ok new number (Err fault) rest = tt

    abbrev Passes : Setup → List Tick → Tick → ℕ → Type 0
    Passes setup line u number = PassesWith (profile_of proto macs B LIMIT setup) proto.rules
        setup.floor line u number

    pub passes-err : (Failed : ℕ → Type 0) (result : Result (BoxStep CheckNote) JournalFault)
        → OnErr result ((number : ℕ) × Failed number
        × ((setup : Setup) (line : List Tick) (u : Tick) → Between what setup line u
        → Passes setup line u number))
        → OnErr result ((number : ℕ) × Failed number
        × ((setup : Setup) (line : List Tick) → Before setup line → Passes setup line t number))
    passes-err Failed (Ok step) passes = tt
    passes-err Failed (Err fault) passes = (
      passes.0,
      passes.1,
      λ setup line stands. passes.2 setup line t (between what is setup line stands),
    )
