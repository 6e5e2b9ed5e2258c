-- A whole step of a transmitter of several stations: the value that cuts the line takes the tick
-- first, and then everything else does.
use Rattle.frame_ending.specs.declared.box_step.BoxStep.{BoxStep}
use Rattle.frame_ending.proofs.Running.{closed-tick}
use Rattle.frame_ending.specs.{Cuts.cut_of, Stands.CutStandsFor}
use Rattle.frame_ending.specs.declared.burst_cut.BurstCut.{BurstCut}
use Rattle.frame_ending.specs.declared.cut.Cut.{Cut, TheVariants.Closed}
use Rattle.link_format.specs.declared.tag.Mac.{Ghosts as Mac}
use Rattle.line_rules.specs.declared.line_rules.LineRules.{Ghosts as LineRules}
use Rattle.sequence_journal.specs.declared.journal.JournalFault.{JournalFault}
use Rattle.stations.specs.Shared.{SharedState}
use Rattle.stations.specs.Table.{StationEntry}
use Rattle.station_boxes.specs.Between.{IsBetween}
use Rattle.station_boxes.specs.Stands.{StationsHaveTaken, StationsStandFor}
use Rattle.station_boxes.specs.{Walks.StationSetup, declared.note.StationNote.StationNote}
use Rattle.station_boxes.specs.declared.sealer.StationSealer.{StationSealer}
use Rattle.std.proofs.Common.{◌≡◌, ◌∙◌, ℕ, List, [], ◌∷◌, ◌++◌, sym, subst, Result, Ok, Err}
use Rattle.std.proofs.Common.{IfOk, OnErr}
use Rattle.yasir_ticks.specs.declared.tick.Tick.{Tick, TheVariants.Silent}

module _ {R M : Type 0} (proto : LineRules R) (macs : Mac M) {B : ℕ} (old : StationSealer R M B)
    (table : List StationEntry) (cut : BurstCut R) (t : Tick) (told : Cut)
    (answers : (line : List Tick) → CutStandsFor proto old.cut line
    → told ≡ cut_of proto.rules line t)
    (takes : (line : List Tick) → CutStandsFor proto old.cut line
    → CutStandsFor proto cut (line ++ t ∷ [])) where
  abbrev Before : StationSetup → List Tick → Type 0
  Before setup line = StationsStandFor proto macs old table setup line

  abbrev Between : Cut → StationSetup → SharedState → List Tick → Tick → Type 0
  Between what setup s line u =
      IsBetween proto macs (record old { cut = cut }) table setup s line u what

  between : (what : Cut) → told ≡ what → (setup : StationSetup) (line : List Tick)
      → (stands : Before setup line) → Between what setup stands.state line t
  between what is setup line stands = record {
    naming_is = stands.naming_is;
    direction_is = stands.direction_is;
    cuts = takes line stands.cuts;
    is_cut = sym (answers line stands.cuts) ∙ is;
    free_is = stands.free_is;
    agrees = stands.agrees;
    walks = stands.walks;
  }

  -- If the tick is cut as `what`, and everything else takes a tick that is cut so, the transmitter
  -- takes the tick.
  pub taken-then : (what : Cut) → told ≡ what → (new : StationSealer R M B)
      (now : List StationEntry) (step : BoxStep StationNote)
      → ((setup : StationSetup) (s : SharedState) (line : List Tick) → Between what setup s line t
      → StationsHaveTaken proto macs new now setup line t step)
      → (setup : StationSetup) (line : List Tick) → Before setup line
      → StationsHaveTaken proto macs new now setup line t step
  taken-then what is new now step takes_rest setup line stands =
      takes_rest setup stands.state line (between what is setup line stands)

  -- ---- the tick that closes a burst is silent

  module _ (is : told ≡ Closed) where
    pub taken-closed : (new : StationSealer R M B) (now : List StationEntry)
        (result : Result (BoxStep StationNote) JournalFault)
        → IfOk result (λ step. (setup : StationSetup) (s : SharedState) (line : List Tick)
        → Between Closed setup s line Silent
        → StationsHaveTaken proto macs new now setup line Silent step)
        → IfOk result (λ step. (setup : StationSetup) (line : List Tick) → Before setup line
        → StationsHaveTaken proto macs new now setup line t step)
    taken-closed new now (Ok step) closes = λ setup line stands.
        let at = between Closed is setup line stands in
        let P : Tick → Type 0 = λ u. Between Closed setup stands.state line u
        → StationsHaveTaken proto macs new now setup line u step in
        subst P (sym (closed-tick proto.rules line t at.is_cut)) (closes setup stands.state line) at
    taken-closed new now (Err fault) closes = tt

    pub fails-closed : (Fails : StationSetup → List Tick → Tick → Type 0)
        (result : Result (BoxStep StationNote) JournalFault)
        → OnErr result ((setup : StationSetup) (s : SharedState) (line : List Tick)
        → Between Closed setup s line Silent → Fails setup line Silent)
        → OnErr result ((setup : StationSetup) (line : List Tick) → Before setup line
        → Fails setup line t)
    fails-closed Fails (Ok step) fails = tt
    fails-closed Fails (Err fault) fails = λ setup line stands.
        let at = between Closed is setup line stands in
        let P : Tick → Type 0 = λ u. Between Closed setup stands.state line u
        → Fails setup line u in
        subst P (sym (closed-tick proto.rules line t at.is_cut)) (fails setup stands.state line) at
