-- A receiver in the middle of a step: the value that cuts the link has taken the tick, one step
-- less is left until the last live byte leaves, and everything else is as before.
use Rattle.std.specs.Prelude.{◌≡◌, ℕ, ◌+◌, ◌-◌, ◌≤◌, true, List, [], ◌∷◌, ◌++◌, Option, Some, None}
use Rattle.std.specs.Prelude.{Result, Ok, Err}
use Rattle.yasir_ticks.specs.declared.tick.Tick.{Tick}
use Rattle.line_rules.specs.declared.line_rules.LineRules.{Ghosts as LineRules}
use Rattle.frame_ending.specs.declared.cut.Cut.{Cut}
use Rattle.frame_ending.specs.declared.cut.Cut.TheVariants.{Start, Live, Extra, Closed, Pause}
use Rattle.frame_ending.specs.declared.cut.Cut.TheVariants.{Quiet}
use Rattle.frame_ending.specs.Cuts.{cut_of}
use Rattle.frame_ending.specs.Stands.{CutStandsFor}
use Rattle.link_format.specs.declared.tag.Mac.{Ghosts as Mac}
use Rattle.link_format.specs.Tag.{direction_number}
use Rattle.yasir_ticks.specs.Bursts.{Burst}
use Rattle.frame_ending.specs.SoFar.{last_burst}
use Rattle.link_format.specs.Profile.{IsWordLen}
use Rattle.link_format.specs.Setup.{Setup}
use Rattle.link_box.specs.declared.check_note.CheckNote.{CheckNote}
use Rattle.link_box.specs.declared.check_note.CheckNote.TheVariants.{Passed, Refused, Dropped}
use Rattle.link_box.specs.declared.check_note.RefusedWhy.{RefusedWhy}
use Rattle.link_box.specs.Verdicts.{Verdict}
use Rattle.link_box.specs.Verdicts.Verdict.{passed_with, refused}
use Rattle.check_receiver.specs.Stands.{MacHolds, CheckerWalks}
use Rattle.check_receiver.specs.Phases.{LeftIn, is_open, passes_in}
use Rattle.line_rules.specs.Outlet.{owed_by}
use Rattle.check_receiver.specs.declared.arriving.Arriving.{Arriving}
use Rattle.check_receiver.specs.declared.checker.Checker.{Checker}

module _ {R M : Type 0} (proto : LineRules R) (macs : Mac M) {B D : ℕ} (value : Checker R M B D)
    (last : ℕ) (setup : Setup) (line : List Tick) where
  -- Holds if `value` is a receiver in the middle of the step for the tick `t`, after `line`: the
  -- value that cuts the link has taken `t` and cuts it as `cut`, one step less is left until the
  -- last live byte leaves, and everything else is as it was after `line`.
  pub record CheckerIsBetween (t : Tick) (cut : Cut) : Type 0 where
    pub word_is : IsWordLen B
    pub wide : 2 ≤ B
    pub delay_is : D ≡ 4 + B + macs.TAG
    pub direction_is : direction_number value.direction ≡ setup.direction
    pub cuts : CutStandsFor proto value.cut (line ++ t ∷ [])
    pub is_cut : cut_of proto.rules line t ≡ cut
    pub before : ℕ
    pub one_less : value.until ≡ before - 1
    pub left_in : LeftIn value.phase before (owed_by value.outlet)
    pub walks : CheckerWalks proto macs B D last value.earliest_start (is_open value.phase)
        (passes_in value.phase) value.mac value.arriving value.ring before value.outlet setup line

  -- Holds if the tick `t` is the last byte of the trailer of the burst whose verdict is open, a
  -- byte that isn't live, and the receiver has already kept it with the other bytes of the trailer.
  pub record BurstIsWhole (t : Tick) : Type 0 where
    pub word_is : IsWordLen B
    pub wide : 2 ≤ B
    pub delay_is : D ≡ 4 + B + macs.TAG
    pub direction_is : direction_number value.direction ≡ setup.direction
    pub cuts : CutStandsFor proto value.cut (line ++ t ∷ [])
    pub byte : ℕ
    pub is_cut : cut_of proto.rules line t ≡ Extra byte
    pub mac : M
    pub arriving : Arriving B
    pub before : ℕ
    pub one_less : value.until ≡ before - 1
    pub last_place : value.until ≡ 1
    pub walks : CheckerWalks proto macs B D last value.earliest_start true (passes_in value.phase) mac
        arriving value.ring before value.outlet setup line
    pub key_text : List ℕ
    pub mac_is : macs.stands value.mac setup.key key_text
    pub mac_holds : (d : Burst) → last_burst (line ++ t ∷ []) ≡ Some d
        → MacHolds proto macs setup value.mac value.arriving d

-- the verdict on a burst with a whole trailer: it passes with this number, or is refused for this
-- reason
abbrev pub verdict_told : Result ℕ RefusedWhy → Verdict
verdict_told (Ok number) = passed_with number
verdict_told (Err why) = refused why

-- Holds if a tick that is cut so is silent.
abbrev pub IsSilence : Cut → Type 0
IsSilence (Start b) = ⊥
IsSilence (Live b) = ⊥
IsSilence (Extra b) = ⊥
IsSilence (Pause n) = Unit {0}
IsSilence Closed = Unit {0}
IsSilence Quiet = Unit {0}

-- Holds if no burst passes in a step with this note, so that nothing is committed.
abbrev pub IsNoPass : Option CheckNote → Type 0
IsNoPass None = Unit {0}
IsNoPass (Some (Passed number start len)) = ⊥
IsNoPass (Some (Refused start why)) = Unit {0}
IsNoPass (Some (Dropped start why)) = Unit {0}
