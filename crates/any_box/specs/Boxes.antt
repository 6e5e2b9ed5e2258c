-- What the eight boxes are by the definitions, and what they have taken of a line.
use Rattle.std.specs.Prelude.{◌≡◌, ℕ, ◌+◌, List, length, Option}
use Rattle.yasir_ticks.specs.declared.tick.Tick.{Tick}
use Rattle.rtu_frame.specs.declared.rtu.Rtu.{Rtu}
use Rattle.dnp_link_frame.specs.declared.dnp.Dnp.{Dnp}
use Rattle.line_rules.specs.declared.line_rules.LineRules.{Ghosts as LineRules}
use Rattle.link_format.specs.declared.tag.Mac.{Ghosts as Mac}
use Rattle.link_format.specs.declared.macs.{HmacSha1.HmacSha1, HmacSha256.HmacSha256}
use Rattle.link_format.specs.Setup.{Setup}
use Rattle.seal_transmitter.specs.Boxed.{seal_walking}
use Rattle.seal_transmitter.specs.Stands.{SealerStandsAt, sealer_ticks}
use Rattle.seal_transmitter.specs.Stands.{sealer_direction}
use Rattle.check_receiver.specs.Boxed.{check_walking}
use Rattle.check_receiver.specs.Stands.{CheckerStandsAt, checker_ticks}
use Rattle.check_receiver.specs.Stands.{checker_direction}
use Rattle.sequence_journal.specs.declared.link.LinkId.{LinkId}
use Rattle.any_box.specs.declared.any_box.AnyBox.{AnyBox}
use Rattle.any_box.specs.declared.any_box.AnyBox.TheVariants.{RtuSealer18, DnpSealer18}
use Rattle.any_box.specs.declared.any_box.AnyBox.TheVariants.{RtuSealer24, DnpSealer24}
use Rattle.any_box.specs.declared.any_box.AnyBox.TheVariants.{RtuChecker18, DnpChecker18}
use Rattle.any_box.specs.declared.any_box.AnyBox.TheVariants.{RtuChecker24, DnpChecker24}
use Rattle.any_box.specs.declared.any_note.AnyNote.{AnyNote}
use Rattle.any_box.specs.declared.any_note.AnyNote.TheVariants.{OfSealer, OfChecker}
use Rattle.any_box.specs.Noting.{Definition, defined_by, StepsOn, AnyTakesOn}
use Rattle.any_box.specs.declared.defined.DefinedBox.{Ghosts as DefinedBox}
use Rattle.any_box.specs.declared.kind.Kind.{Kind}
use Rattle.any_box.specs.declared.kind.Part.{Part}
use Rattle.any_box.specs.declared.kind.Part.TheVariants.{Sealer, Checker}
use Rattle.command_ends.specs.declared.link.Proto.{Proto}
use Rattle.command_ends.specs.declared.link.Proto.TheVariants as Of
use Rattle.command_ends.specs.declared.link.Profile.{Profile}
use Rattle.command_ends.specs.declared.link.Profile.TheVariants.{Y18, Y24}

-- which of the eight a box is
abbrev pub box_kind : AnyBox → Kind
box_kind (RtuSealer18 value) = record { part = Sealer; proto = Of.Rtu; profile = Y18 }
box_kind (DnpSealer18 value) = record { part = Sealer; proto = Of.Dnp3; profile = Y18 }
box_kind (RtuSealer24 value) = record { part = Sealer; proto = Of.Rtu; profile = Y24 }
box_kind (DnpSealer24 value) = record { part = Sealer; proto = Of.Dnp3; profile = Y24 }
box_kind (RtuChecker18 value) = record { part = Checker; proto = Of.Rtu; profile = Y18 }
box_kind (DnpChecker18 value) = record { part = Checker; proto = Of.Dnp3; profile = Y18 }
box_kind (RtuChecker24 value) = record { part = Checker; proto = Of.Rtu; profile = Y24 }
box_kind (DnpChecker24 value) = record { part = Checker; proto = Of.Dnp3; profile = Y24 }

-- how many ticks a box has taken
abbrev pub box_ticks_in : AnyBox → ℕ
box_ticks_in (RtuSealer18 value) = sealer_ticks value
box_ticks_in (DnpSealer18 value) = sealer_ticks value
box_ticks_in (RtuSealer24 value) = sealer_ticks value
box_ticks_in (DnpSealer24 value) = sealer_ticks value
box_ticks_in (RtuChecker18 value) = checker_ticks value
box_ticks_in (DnpChecker18 value) = checker_ticks value
box_ticks_in (RtuChecker24 value) = checker_ticks value
box_ticks_in (DnpChecker24 value) = checker_ticks value

-- the link of a box: the label of its protocol, its direction, and the delay of its profile
abbrev pub own_link : AnyBox → LinkId
own_link (RtuSealer18 value) = record { label = 1; dir = sealer_direction value; profile = 18 }
own_link (DnpSealer18 value) = record { label = 2; dir = sealer_direction value; profile = 18 }
own_link (RtuSealer24 value) = record { label = 1; dir = sealer_direction value; profile = 24 }
own_link (DnpSealer24 value) = record { label = 2; dir = sealer_direction value; profile = 24 }
own_link (RtuChecker18 value) = record { label = 1; dir = checker_direction value; profile = 18 }
own_link (DnpChecker18 value) = record { label = 2; dir = checker_direction value; profile = 18 }
own_link (RtuChecker24 value) = record { label = 1; dir = checker_direction value; profile = 24 }
own_link (DnpChecker24 value) = record { label = 2; dir = checker_direction value; profile = 24 }

-- The rules of the two protocols, and the MACs of the two profiles.
module _ (rtu : LineRules Rtu) (dnp : LineRules Dnp) (short : Mac HmacSha1)
    (long : Mac HmacSha256) where
  -- the definition of each of the eight
  abbrev pub definition_by : Part → Proto → Profile → Definition
  definition_by Sealer Of.Rtu Y18 = defined_by (seal_walking rtu short 2) OfSealer
  definition_by Sealer Of.Dnp3 Y18 = defined_by (seal_walking dnp short 2) OfSealer
  definition_by Sealer Of.Rtu Y24 = defined_by (seal_walking rtu long 4) OfSealer
  definition_by Sealer Of.Dnp3 Y24 = defined_by (seal_walking dnp long 4) OfSealer
  definition_by Checker Of.Rtu Y18 = defined_by (check_walking rtu short 2) OfChecker
  definition_by Checker Of.Dnp3 Y18 = defined_by (check_walking dnp short 2) OfChecker
  definition_by Checker Of.Rtu Y24 = defined_by (check_walking rtu long 4) OfChecker
  definition_by Checker Of.Dnp3 Y24 = defined_by (check_walking dnp long 4) OfChecker

  abbrev pub definition_of : Kind → Definition
  definition_of kind = definition_by kind.part kind.proto kind.profile

  -- Holds if a box with this setup has taken these ticks, and the last number that it used is this
  -- one.
  abbrev pub AnyBoxStandsAt : AnyBox → ℕ → Setup → List Tick → Type 0
  AnyBoxStandsAt (RtuSealer18 value) = SealerStandsAt rtu short value
  AnyBoxStandsAt (DnpSealer18 value) = SealerStandsAt dnp short value
  AnyBoxStandsAt (RtuSealer24 value) = SealerStandsAt rtu long value
  AnyBoxStandsAt (DnpSealer24 value) = SealerStandsAt dnp long value
  AnyBoxStandsAt (RtuChecker18 value) = CheckerStandsAt rtu short value
  AnyBoxStandsAt (DnpChecker18 value) = CheckerStandsAt dnp short value
  AnyBoxStandsAt (RtuChecker24 value) = CheckerStandsAt rtu long value
  AnyBoxStandsAt (DnpChecker24 value) = CheckerStandsAt dnp long value

-- What the boxes are by the definitions.
module _ (boxes : DefinedBox AnyBox) where
  -- Holds if a box has taken this tick after whatever line it had taken, and is still the same one
  -- of the eight.
  pub record AnySteps (old : AnyBox) (before : ℕ) (new : AnyBox) (after : ℕ) (t tick : Tick)
      (note : Option AnyNote) : Type 0 where
    pub kind_is : box_kind new ≡ box_kind old
    pub link_is : own_link new ≡ own_link old
    pub counted : box_ticks_in new ≡ box_ticks_in old + 1
    pub steps : StepsOn (boxes.defined (box_kind new)) (boxes.stands old) (boxes.stands new) before after t
        tick note

  -- Holds if a box has taken this run after whatever line it had taken, and is still the same one
  -- of the eight.
  pub record AnyTakesRun (old new : AnyBox) (run answer : List Tick) : Type 0 where
    pub kind_is : box_kind new ≡ box_kind old
    pub link_is : own_link new ≡ own_link old
    pub counted : box_ticks_in new ≡ box_ticks_in old + length run
    pub takes : AnyTakesOn (boxes.defined (box_kind new)) (boxes.stands old) (boxes.stands new) run answer
