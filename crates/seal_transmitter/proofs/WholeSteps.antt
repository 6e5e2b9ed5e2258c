-- A whole step of a transmitter: the value that cuts the line takes the tick first, and then
-- everything else does.
use Rattle.frame_ending.specs.declared.box_step.BoxStep.{BoxStep}
use Rattle.frame_ending.proofs.Running.{closed-tick}
use Rattle.frame_ending.specs.{Cuts.cut_of, Stands.CutStandsFor}
use Rattle.frame_ending.specs.declared.burst_cut.BurstCut.{BurstCut}
use Rattle.frame_ending.specs.declared.cut.Cut.{Cut, TheVariants.Closed}
use Rattle.link_format.specs.declared.tag.Mac.{Ghosts as Mac}
use Rattle.line_rules.specs.declared.line_rules.LineRules.{Ghosts as LineRules}
use Rattle.link_format.specs.{Profile.profile_of, Setup.Setup}
use Rattle.link_box.specs.declared.seal_note.SealNote.{SealNote}
use Rattle.seal_transmitter.specs.{Answers.SealsWith, Between.SealerIsBetween, Stands.SealerStandsAt}
use Rattle.seal_transmitter.specs.{Stands.SealerHasTaken, declared.sealer.Sealer.Sealer}
use Rattle.sequence_journal.specs.declared.journal.JournalFault.{JournalFault}
use Rattle.sequence_journal.specs.declared.numbers.TheConstants.{LIMIT}
use Rattle.std.proofs.Common.{◌≡◌, ◌∙◌, ℕ, ◌+◌, List, [], ◌∷◌, ◌++◌, sym, subst, Result, Ok, Err}
use Rattle.std.proofs.Common.{IfOk, OnErr}
use Rattle.yasir_ticks.specs.declared.tick.Tick.{Tick, TheVariants.Silent}

module _ {R M : Type 0} (proto : LineRules R) (macs : Mac M) {B : ℕ} (old : Sealer R M B) (last : ℕ)
    (cut : BurstCut R)
    (t : Tick) (told : Cut)
    (answers : (line : List Tick) → CutStandsFor proto old.cut line
    → told ≡ cut_of proto.rules line t)
    (takes : (line : List Tick) → CutStandsFor proto old.cut line
    → CutStandsFor proto cut (line ++ t ∷ [])) where
  abbrev Before : Setup → List Tick → Type 0
  Before setup line = SealerStandsAt proto macs old last setup line

  abbrev Between : Cut → Setup → List Tick → Tick → Type 0
  Between what setup line u = SealerIsBetween proto macs (record old { cut = cut }) last setup line u what

  between : (what : Cut) → told ≡ what → (setup : Setup) (line : List Tick) → Before setup line
      → Between what setup line t
  between what is setup line stands = record {
    direction_is = stands.direction_is;
    cuts = takes line stands.cuts;
    is_cut = sym (answers line stands.cuts) ∙ is;
    walks = stands.walks;
  }

  -- If the tick is cut as `what`, and everything else takes a tick that is cut so, the transmitter
  -- takes the tick.
  pub taken-then : (what : Cut) → told ≡ what → (new : Sealer R M B) (number : ℕ)
      (step : BoxStep SealNote)
      → ((setup : Setup) (line : List Tick) → Between what setup line t
      → SealerHasTaken proto macs new number setup line t step)
      → (setup : Setup) (line : List Tick) → Before setup line
      → SealerHasTaken proto macs new number setup line t step
  taken-then what is new number step takes_rest setup line stands =
      takes_rest setup line (between what is setup line stands)

  -- ---- the tick that closes a burst is silent

  module _ (is : told ≡ Closed) (new : Sealer R M B) (number : ℕ) where
    abbrev Closes : BoxStep SealNote → Type 0
    Closes step = (setup : Setup) (line : List Tick)
        → Between Closed setup line Silent → SealerHasTaken proto macs new number setup line Silent step

    pub taken-closed : (result : Result (BoxStep SealNote) JournalFault) → IfOk result Closes
        → IfOk result (λ step. (setup : Setup) (line : List Tick) → Before setup line
        → SealerHasTaken proto macs new number setup line t step)
    taken-closed (Ok step) closes = λ setup line stands.
        let at = between Closed is setup line stands in
        let P : Tick → Type 0 = λ u. Between Closed setup line u
        → SealerHasTaken proto macs new number setup line u step in
        subst P (sym (closed-tick proto.rules line t at.is_cut)) (closes setup line) at
    taken-closed (Err fault) closes = tt

    abbrev SealsThen : Tick → Setup → List Tick → Type 0
    SealsThen u setup line =
        SealsWith (profile_of proto macs B LIMIT setup) proto.rules setup.floor line u (last + 1)

    pub seals-closed : (result : Result (BoxStep SealNote) JournalFault)
        → OnErr result ((setup : Setup) (line : List Tick) → Between Closed setup line Silent
        → SealsThen Silent setup line)
        → OnErr result ((setup : Setup) (line : List Tick) → Before setup line
        → SealsThen t setup line)
    seals-closed (Ok step) seals = tt
    seals-closed (Err fault) seals = λ setup line stands.
        let at = between Closed is setup line stands in
        let P : Tick → Type 0 = λ u. Between Closed setup line u → SealsThen u setup line in
        subst P (sym (closed-tick proto.rules line t at.is_cut)) (seals setup line) at
