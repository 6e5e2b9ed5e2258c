-- One way of a live line as a consumer of ticks: what it makes of them waits, and is handed on
-- whenever there is no room for more.
use Rattle.std.specs.Prelude.{◌≡◌, ◌≢◌, ℕ, ◌+◌, ◌≤◌, List, ◌++◌, IfSome, IfErr, Result, OnOk}
use Rattle.yasir_io.specs.declared.disk.SlotDisk.{Ghosts as SlotDisk}
use Rattle.yasir_ticks.specs.Ticks.{ticks_in}
use Rattle.yasir_ticks.specs.declared.tick.Tick.{Tick}
use Rattle.link_format.specs.Setup.{Setup}
use Rattle.sequence_journal.specs.Late.{HasFloorBetween}
use Rattle.tick_drive.specs.Consumers.{Consuming, IsDiskCause, is_journal_fault, is_write_fault}
use Rattle.tick_drive.specs.declared.consumer.Stop.{Stop}
use Rattle.tick_drive.specs.declared.consumer.Stop.TheVariants.{WriteFault, JournalFault, NoMemory}
use Rattle.line_texts.specs.Sending.{LineAndNotes}
use Rattle.line_commands.specs.History.{History}
use Rattle.line_commands.specs.declared.port.Port.{Ghosts as Port}
use Rattle.live_line.specs.BothWays.{HandedBoth, HandedBothFronts}
use Rattle.live_line.specs.WayLines.{WayOutside, HasTakenOn, KeepsImages, PortKept, IsAhead, StandsOver}
use Rattle.live_line.specs.WayLines.{MayTake, way_in, kept_in, settled_in, floor_in, most_in, link_in}
use Rattle.live_line.specs.declared.way_box.WayBox.{Ghosts as WayBox}
use Rattle.live_line.specs.declared.ways.Way.{Way}

-- What is made of both ways, how the history began, what was read since, the setup of the box of
-- this way, and the line of the other way of which all that is made is handed on.
pub record WayOrigin : Type 0 where
  pub made : Way → LineAndNotes
  pub start : History
  pub read : List ℕ
  pub setup : Setup
  pub beside : Way → List Tick

module _ {X P D : Type 0} (x : WayBox X) (p : Port P) (d : SlotDisk D) (way : Way) where
  -- The box has taken this line. What it makes of the first ticks, `early`, is handed on, and the
  -- disk was settled for them. What it makes of the others waits.
  pub record WayStands (at : WayOutside X P D) (origin : WayOrigin) (line : List Tick) : Type 0
    where
      pub makes : origin.made way ≡ x.made origin.setup
      pub early : Way → List Tick
      pub others : (other : Way) → other ≢ way → early other ≡ origin.beside other
      pub handed : HandedBoth origin.made origin.start (p.history at.port) origin.read early
      pub taken : HasTakenOn x at.lines origin.setup (early way) line

  -- The same, and nothing waits.
  pub record WayHanded (at : WayOutside X P D) (origin : WayOrigin) (line : List Tick) : Type 0
    where
      pub stands : WayStands at origin line
      pub all : stands.early way ≡ line

  -- A settle failed after the box had taken this line. What it makes of the first ticks, `early`,
  -- was handed on before, and nothing since. The disk has a floor from the last number used for
  -- these to the number that was to be written.
  pub record StopsAtSettle (at : WayOutside X P D) (origin : WayOrigin) (line : List Tick) :
      Type 0 where
    pub early : Way → List Tick
    pub later : List Tick
    pub is : line ≡ early way ++ later
    pub others : (other : Way) → other ≢ way → early other ≡ origin.beside other
    pub handed : HandedBoth origin.made origin.start (p.history at.port) origin.read early
    pub reached : x.number_for origin.setup (early way) ≤ floor_in at.lines
    pub floors : IfSome (d.told at.disk) (HasFloorBetween (link_in at.lines)
        (x.number_for origin.setup (early way))
        (x.number_for origin.setup line + most_in at.lines))

  -- A write or a flush failed after the box had taken this line and the disk was settled for it.
  pub record StopsAtWrite (at : WayOutside X P D) (origin : WayOrigin) (line : List Tick) :
      Type 0 where
    pub lines : Way → List Tick
    pub is : lines way ≡ line
    pub others : (other : Way) → other ≢ way → lines other ≡ origin.beside other
    pub fronts : HandedBothFronts origin.made origin.start (p.history at.port) origin.read lines
    pub settled : settled_in at.lines ≡ x.number_for origin.setup line
    pub ahead : IsAhead at.lines
    pub stands : StandsOver at.lines (d.told at.disk)

  -- why it was stopped at the last tick of a line; never for lack of memory, since it takes none
  abbrev pub WayStops : WayOutside X P D → Stop → WayOrigin → List Tick → Type 0
  WayStops at JournalFault origin line = StopsAtSettle at origin line
  WayStops at WriteFault origin line = StopsAtWrite at origin line
  WayStops at NoMemory origin line = ⊥

  -- It may take ticks, and the disk is as its journal knows it.
  pub record IsAbleWay (at : WayOutside X P D) : Type 0 where
    pub may : MayTake x at.lines
    pub ahead : IsAhead at.lines
    pub stands : StandsOver at.lines (d.told at.disk)

  -- What calls do to the disk's images and to the counts of faults, if the last of them returned
  -- `result`.
  pub record WayWent (old new : WayOutside X P D) (result : Result (Unit {0}) Stop) : Type 0 where
    pub images : KeepsImages d (kept_in old.lines) (kept_in new.lines) old.disk new.disk
    pub disk : IsDiskCause (d.faults old.disk) (d.faults new.disk) (is_journal_fault result)
    pub port : PortKept p old.port new.port (is_write_fault result)

  -- what a way promises as a consumer
  abbrev pub way_filtering : Consuming (WayOutside X P D)
  way_filtering = record {
    Origin = WayOrigin;
    stands = λ at origin items. WayStands at origin (ticks_in items);
    stopped = λ at stop origin items. WayStops at stop origin (ticks_in items);
    taken = λ at. x.taken (way_in at.lines);
    able = IsAbleWay;
    went = WayWent;
  }

  -- All that waited was handed on, or the way was stopped. It has taken no tick.
  pub record HandsAll (old new : WayOutside X P D) (result : Result (Unit {0}) Stop) : Type 0 where
    pub taken : x.taken (way_in new.lines) ≡ x.taken (way_in old.lines)
    pub handed : OnOk result ((origin : WayOrigin) (line : List Tick) → WayStands old origin line
        → WayHanded new origin line)
    pub stopped : IfErr result (λ stop. (origin : WayOrigin) (line : List Tick)
        → WayStands old origin line → WayStops new stop origin line)
    pub settled : OnOk result (settled_in new.lines ≡ x.number (way_in new.lines))
    pub able : OnOk result (IsAbleWay new)
    pub went : WayWent old new result
