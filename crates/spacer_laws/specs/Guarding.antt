-- A spacer behind the receiver: what a device is given, whatever it makes of bytes and of silence.
use Rattle.std.specs.Prelude.{◌≡◌, ℕ, ◌≤◌, List, [], ◌∷◌, ◌++◌, map}
use Rattle.yasir_ticks.specs.Ticks.{silent}
use Rattle.yasir_ticks.specs.declared.tick.Tick.{Tick}
use Rattle.yasir_ticks.specs.declared.tick.Tick.TheVariants.{Byte}
use Rattle.line_rules.specs.Rules.{Rules}
use Rattle.frame_ending.specs.Longer.{Begins}
use Rattle.device_model.specs.Frames.{FrameRead}
use Rattle.sequence_journal.specs.Uptimes.{RiseFrom}
use Rattle.link_format.specs.NumberedFrame.{NumberedFrame, numbers_of}
use Rattle.link_format.specs.Profile.{Profile}
use Rattle.link_box.specs.Sealing.{sealed}
use Rattle.link_box.specs.Checking.{passed, received_line}
use Rattle.receiver_laws.specs.Accounted.{IsSubsequence, IsAccountedFor, forged}
use Rattle.receiver_laws.specs.Headline.{bytes_sealed}
use Rattle.line_spacer.specs.Spacing.{spaced_line}

-- a frame, and the silent ticks that come before it
pub record Placed : Type 0 where
  pub quiet : ℕ
  pub frame : NumberedFrame

-- these frames, without the silent ticks before them
abbrev pub frames_placed : List Placed → List NumberedFrame
frames_placed ps = map (λ p. p.frame) ps

-- the ticks of these frames, one after the other, each whole and after its silent ticks
abbrev pub placed_ticks : List Placed → List Tick
placed_ticks [] = []
placed_ticks (p ∷ ps) =
    silent p.quiet ++ (map (λ b. Byte b) p.frame.frame ++ placed_ticks ps)

-- Holds if at least `least` silent ticks come before the first of these frames, and at least `gap`
-- before each of the others.
abbrev pub StandApart : ℕ → ℕ → List Placed → Type 0
StandApart gap least [] = Unit {0}
StandApart gap least (p ∷ ps) = (least ≤ p.quiet) × StandApart gap gap ps

-- Holds if this line carries only silence and some of these frames, whole, in their order and at
-- least `gap` silent ticks apart. The line may break off inside the last one. The numbers of these
-- frames rise from the floor, so none is there twice.
pub record CarriesOnly (gap floor : ℕ) (frames : List NumberedFrame) (line : List Tick) : Type 0
  where
    pub placed : List Placed
    pub rest : ℕ
    pub front : Begins line (placed_ticks placed ++ silent rest)
    pub apart : StandApart gap 0 placed
    pub among : IsSubsequence (frames_placed placed) frames
    pub rise : RiseFrom floor (numbers_of (frames_placed placed))

-- A transmitter has sealed frames of a device's line. Whatever happened to them on the link, a
-- spacer behind the receiver gives only frames that have passed, and silence. If none of the frames
-- that passed is forged, it gives only frames that were sealed, in their order.
pub record GivesOnlySealed (profile : Profile) (rules : Rules) (heard : List Tick → List FrameRead)
    (gap cap seal_floor check_floor : ℕ) (line link : List Tick) : Type 0 where
  pub only_passed : CarriesOnly gap check_floor (passed profile rules check_floor link)
      (spaced_line heard gap cap (received_line profile rules check_floor link))
  pub only_sealed :
      forged (sealed profile rules seal_floor line) (passed profile rules check_floor link) ≡ []
      → IsSubsequence (bytes_sealed (frames_placed only_passed.placed))
      (bytes_sealed (sealed profile rules seal_floor line))
  pub accounted : IsAccountedFor seal_floor check_floor (sealed profile rules seal_floor line)
      (passed profile rules check_floor link)
