-- The four spacers of a live line: what each hears, and what its steps send.
use Rattle.std.specs.Prelude.{◌≡◌, ℕ, List, [], ◌∷◌, ◌++◌, length}
use Rattle.yasir_ticks.specs.declared.tick.Tick.{Tick}
use Rattle.device_model.specs.Frames.{FrameRead, frames_lent}
use Rattle.device_model.specs.RtuReads.{rtu_reads}
use Rattle.device_model.specs.HuntFamily.{dnp_family_reads}
use Rattle.device_model.specs.declared.device.Device.{Ghosts as Device}
use Rattle.device_model.specs.declared.rtu.RtuDevice.{RtuDevice}
use Rattle.line_spacer.specs.Stands.{SpacerStandsFor, AnswersSpaced, ticks_spaced}
use Rattle.line_spacer.specs.declared.spacer.SpaceStep.{SpaceStep}
use Rattle.any_box.specs.declared.any_box.AnySpacer.{AnySpacer}
use Rattle.any_box.specs.declared.any_box.AnySpacer.TheVariants.{RtuSpacer18, DnpSpacer18}
use Rattle.any_box.specs.declared.any_box.AnySpacer.TheVariants.{RtuSpacer24, DnpSpacer24}
use Rattle.any_box.specs.declared.kind.SpacerKind.{SpacerKind}
use Rattle.command_ends.specs.Links.{gap_of}
use Rattle.command_ends.specs.declared.link.Proto.{Proto}
use Rattle.command_ends.specs.declared.link.Proto.TheVariants.{Rtu, Dnp3}
use Rattle.command_ends.specs.declared.link.Profile.TheVariants.{Y18, Y24}
use Rattle.any_box.specs.declared.defined.DefinedSpacer.{Ghosts as DefinedSpacer}
use Rattle.dnp_link_frame.specs.declared.dnp.Dnp.{Dnp}
use Rattle.any_box.specs.declared.forgetful.ForgetfulDevice.{ForgetfulDevice}

-- The frames that a spacer for a protocol reads of a line. For DNP3 it hears as a device that forgets
-- what it has taken at 18 silent ticks in a row.
abbrev pub reads_by : Proto → List Tick → List FrameRead
reads_by Rtu = rtu_reads
reads_by Dnp3 = dnp_family_reads 18

abbrev pub reads_of : SpacerKind → List Tick → List FrameRead
reads_of kind = reads_by kind.proto

-- the least number of silent ticks that it leaves between two frames
abbrev pub spacer_gap : SpacerKind → ℕ
spacer_gap kind = gap_of kind.profile

-- the kind of a spacer
abbrev pub spacer_kind : AnySpacer → SpacerKind
spacer_kind (RtuSpacer18 spacer) = record { proto = Rtu; profile = Y18 }
spacer_kind (DnpSpacer18 spacer) = record { proto = Dnp3; profile = Y18 }
spacer_kind (RtuSpacer24 spacer) = record { proto = Rtu; profile = Y24 }
spacer_kind (DnpSpacer24 spacer) = record { proto = Dnp3; profile = Y24 }

-- The devices as which a spacer hears a line.
module _ (rtu : Device RtuDevice) (dnp : Device (ForgetfulDevice Dnp)) where
  -- how many ticks a spacer has taken
  abbrev pub spacer_ticks_in : AnySpacer → ℕ
  spacer_ticks_in (RtuSpacer18 spacer) = ticks_spaced rtu spacer
  spacer_ticks_in (RtuSpacer24 spacer) = ticks_spaced rtu spacer
  spacer_ticks_in (DnpSpacer18 spacer) = ticks_spaced dnp spacer
  spacer_ticks_in (DnpSpacer24 spacer) = ticks_spaced dnp spacer

  -- Holds if a spacer, with room for `room` frames to wait, has taken this line.
  abbrev pub AnySpacerStandsAt : ℕ → AnySpacer → List Tick → Type 0
  AnySpacerStandsAt room (RtuSpacer18 spacer) line = SpacerStandsFor rtu room spacer line
  AnySpacerStandsAt room (RtuSpacer24 spacer) line = SpacerStandsFor rtu room spacer line
  AnySpacerStandsAt room (DnpSpacer18 spacer) line = SpacerStandsFor dnp room spacer line
  AnySpacerStandsAt room (DnpSpacer24 spacer) line = SpacerStandsFor dnp room spacer line

-- What the spacers are by the definitions.
module _ (spacers : DefinedSpacer AnySpacer) where
  -- Holds if a step takes tick `t` after this line, and returns the next tick of the spaced line
  -- and the frame that is lost, if one is, which has the bytes `bytes`.
  pub record SpacerAdds (kind : SpacerKind) (room : ℕ) (new : AnySpacer) (line : List Tick) (t : Tick)
      (step : SpaceStep) : Type 0 where
    pub stands : spacers.stands room new (line ++ t ∷ [])
    pub bytes : List ℕ
    pub answers : AnswersSpaced (reads_of kind) (spacer_gap kind) room line (t ∷ []) (step.tick ∷ [])
        (length line) (frames_lent step.lost bytes)

  -- Holds if a step takes tick `t` as `SpacerAdds` says, whatever line the spacer had taken, and the
  -- spacer's kind stays the same.
  pub record SpacerStepsOn (old new : AnySpacer) (t : Tick) (step : SpaceStep) : Type 0 where
    pub kind_is : spacer_kind new ≡ spacer_kind old
    pub adds : (room : ℕ) (line : List Tick) → spacers.stands room old line
        → SpacerAdds (spacer_kind old) room new line t step
