-- What the functions that C calls for a spacer do.
use Rattle.any_box.specs.declared.any_box.AnySpacer.{AnySpacer}
use Rattle.any_box.specs.declared.defined.DefinedSpacer.{Ghosts as DefinedSpacer}
use Rattle.std.specs.Prelude.{◌≡◌, ◌≢◌, ℕ, ◌≤◌, ◌⊎◌, Option, Some, None}
use Rattle.yasir_ticks.specs.declared.tick.Tick.{Tick}
use Rattle.line_spacer.specs.declared.spacer.SpaceStep.{SpaceStep}
use Rattle.any_box.specs.HeldSpacers.{BeginsSpacer}
use Rattle.any_box.specs.declared.kind.SpacerKind.{SpacerKind}
use Rattle.command_ends.specs.Links.{label_of, delay_of}
use Rattle.any_box.specs.declared.held_spacer.HeldSpacer.{HeldSpacer}
use Rattle.yasir_c.specs.Answers.{tick_bytes, tick_in}
use Rattle.yasir_c.specs.Holding.{HoldsOne, SpacesTick, SpacesNoTick}
use Rattle.yasir_c.specs.declared.held.Held.{Held}
use Rattle.yasir_c.specs.declared.held.Held.TheVariants.{Spacer}
use Rattle.yasir_c.specs.declared.spaced.Spaced.{Spaced}
use Rattle.yasir_c.specs.declared.status.Status.{Status}
use Rattle.yasir_c.specs.declared.status.Status.TheVariants as Is

-- the numbers of a protocol and a profile by which C names a spacer
abbrev pub spacer_numbers : SpacerKind → ℕ × ℕ
spacer_numbers kind = (label_of kind.proto, delay_of kind.profile)

-- Holds if these numbers name no spacer.
abbrev pub NamesNoSpacer : ℕ → ℕ → Type 0
NamesNoSpacer protocol profile = (kind : SpacerKind) → (protocol, profile) ≢ spacer_numbers kind

-- Holds if this is the spacer that these numbers name, or if there is none, and they name none.
abbrev pub NamesSpacer : ℕ → ℕ → Option SpacerKind → Type 0
NamesSpacer protocol profile None = NamesNoSpacer protocol profile
NamesSpacer protocol profile (Some kind) = (protocol, profile) ≡ spacer_numbers kind

-- whether a frame is lost, and the tick of its first byte
abbrev pub lost_numbers : Option ℕ → ℕ × ℕ
lost_numbers None = (0, 0)
lost_numbers (Some start) = (1, start)

-- what C reads of a step
abbrev pub spaced_of : SpaceStep → Spaced
spaced_of step = record {
  lost_start = (lost_numbers step.lost).1;
  is_byte = (tick_bytes step.tick).0;
  byte = (tick_bytes step.tick).1;
  is_lost = (lost_numbers step.lost).0;
  unused = 0;
}

-- What the spacers are by the definitions.
module _ (spacers : DefinedSpacer AnySpacer) where
  -- Holds if a spacer begins with room for a frame or more, and the handle, which held nothing,
  -- holds it.
  pub record MakesSpacer (protocol profile room : ℕ) (old new : Option Held) : Type 0 where
    pub held : HeldSpacer
    pub kind : SpacerKind
    pub old_is : old ≡ None
    pub new_is : new ≡ Some (Spacer held)
    pub kind_is : (protocol, profile) ≡ spacer_numbers kind
    pub some_room : 1 ≤ room
    pub begins : BeginsSpacer spacers kind room held

  -- What has happened, by the status: the handle holds a spacer that begins, or there is a cause
  -- for none, and the handle holds what it held.
  abbrev pub MakesSpacerBy : ℕ → ℕ → ℕ → Option Held → Option Held → Status → Type 0
  MakesSpacerBy protocol profile room old new Is.Done =
      MakesSpacer protocol profile room old new
  MakesSpacerBy protocol profile room old new Is.BadArgument =
      (new ≡ old) × (NamesNoSpacer protocol profile ⊎ ((room ≡ 0) ⊎ HoldsOne old))
  MakesSpacerBy protocol profile room old new Is.NoMemory = new ≡ old
  MakesSpacerBy protocol profile room old new status = ⊥

  -- Holds if the spacer in a handle has taken a tick, and C reads what its step returns.
  pub record SpacesOnce (old new : Option Held) (number : ℕ) (answer : Spaced) : Type 0 where
    pub t : Tick
    pub step : SpaceStep
    pub tick_is : tick_in number ≡ Some t
    pub takes : SpacesTick spacers old new t step
    pub answer_is : answer ≡ spaced_of step

  -- What has happened, by the status: the spacer has taken a tick, or there is a cause not to, and
  -- nothing has changed.
  abbrev pub SpacesBy : Option Held → Option Held → ℕ → Spaced → Spaced → Status → Type 0
  SpacesBy old new number answer_old answer_new Is.Done = SpacesOnce old new number answer_new
  SpacesBy old new number answer_old answer_new Is.BadArgument =
      (new ≡ old) × (answer_new ≡ answer_old) × (tick_in number ≡ None)
  SpacesBy old new number answer_old answer_new status =
      (new ≡ old) × (answer_new ≡ answer_old) × SpacesNoTick old status
