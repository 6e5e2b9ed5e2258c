-- A live line of two ways of which nothing was read, over the journals of both.
use Rattle.std.specs.Prelude.{◌≡◌, ℕ, List, [], Option}
use Rattle.yasir_io.specs.Disks.{Slots}
use Rattle.link_format.specs.Setup.{Setup, setup_of}
use Rattle.sequence_journal.specs.Journal.{Fits, journal_floor}
use Rattle.link_box.specs.Walking.{number_used_after}
use Rattle.link_box.specs.declared.box_trait.LinkBox.{Ghosts as LinkBox}
use Rattle.line_commands.specs.declared.spacers.LineSpacer.{Ghosts as LineSpacer}
use Rattle.live_line.specs.Guarded.{guarded_made, GuardedStands, IsGuardedReady}
use Rattle.live_line.specs.PlainBoxes.{plain_made, plain_taken, plain_number, IsPlainReady}
use Rattle.live_line.specs.PlainBoxes.{PlainStands}
use Rattle.live_line.specs.WayBoxLaws.{plain-number, guarded-number}
use Rattle.live_line.specs.WayLines.{MayTake, IsAhead, StandsOver, HasTakenOn, disk_in, most_in}
use Rattle.live_line.specs.WayLines.{way_in}
use Rattle.live_line.specs.declared.guarded_box.GuardedBox.{GuardedBox}
use Rattle.live_line.specs.declared.plain_box.PlainBox.{PlainBox}
use Rattle.live_line.specs.declared.way_box.WayBox.{Ghosts as WayBox}
use Rattle.live_line.specs.declared.ways.Way.{Way}
use Rattle.live_ways.specs.Driving.{HasReadNothing}
use Rattle.live_ways.specs.LiveLine.{box_on, lines_on}
use Rattle.live_ways.specs.WayCommand.{BothWays}
use Rattle.live_ways.specs.WayLoads.{journal_on}
use Rattle.live_ways.specs.declared.both_ways.LiveLine.{LiveLine}
use Rattle.live_ways.specs.declared.loads.BothJournals.{BothJournals}

-- what is said of a box without a spacer
abbrev pub plain_way : {B N : Type 0} → LinkBox B N → (N → List ℕ) → WayBox (PlainBox B)
plain_way b line_of = record {
  made = plain_made b line_of;
  number_for = number_used_after b.walking;
  stands = PlainStands b line_of;
  taken = plain_taken b line_of;
  number = plain_number;
  ready = IsPlainReady b line_of;
  number_is = plain-number b line_of;
}

-- what is said of a box with a spacer behind it
abbrev pub guarded_way : {B N G : Type 0} → LinkBox B N → (N → List ℕ) → LineSpacer G
    → WayBox (GuardedBox B G)
guarded_way b line_of g = record {
  made = guarded_made b line_of g;
  number_for = number_used_after b.walking;
  stands = GuardedStands b line_of g;
  taken = λ value. plain_taken b line_of value.plain;
  number = λ value. plain_number value.plain;
  ready = IsGuardedReady b line_of g;
  number_is = guarded-number b line_of g;
}

-- how the box of each way is set up with this key over these journals
abbrev pub setups : BothWays → List ℕ → BothJournals → Way → Setup
setups line key journals way = setup_of key (line.dir way) (journal_floor (journal_on journals way))

module _ {X Y : Type 0} (x : WayBox X) (y : WayBox Y) where
  -- Nothing was read of the stream, the boxes have taken no tick, and nothing waits. Each disk is
  -- taken to hold the journal of its way.
  pub record BeginsBoth (line : LiveLine X Y) (journals : BothJournals) (ahead : Way → ℕ)
      (setup : Way → Setup) : Type 0 where
    pub nothing : HasReadNothing line
    pub journal : (way : Way) → disk_in (lines_on line way) ≡ journal_on journals way
    pub most : (way : Way) → most_in (lines_on line way) ≡ ahead way
    pub may : (way : Way) → MayTake (box_on x y way) (lines_on line way)
    pub ahead_by : (way : Way) → IsAhead (lines_on line way)
    pub stands : (way : Way) (told : Option Slots) → Fits (journal_on journals way) told
        → StandsOver (lines_on line way) told
    pub none : (way : Way) → (box_on x y way).taken (way_in (lines_on line way)) ≡ 0
    pub taken : (way : Way) → HasTakenOn (box_on x y way) (lines_on line way) (setup way) [] []
