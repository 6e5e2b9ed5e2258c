-- What the status of a run says of it, from how its box was driven over a live line.
use Rattle.{frame_ending.specs.Causal.IsCausal, link_format.specs.declared.dir.Dir.Dir}
use Rattle.link_box.specs.{Walking.frames_of, declared.box_trait.LinkBox.Ghosts as LinkBox}
use Rattle.link_format.specs.{NumberedFrame.numbers_of, Setup.Setup, Setup.setup_of}
use Rattle.sequence_journal.specs.Journal.{journal_link, journal_floor, HasFloorAtLeast, Fits}
use Rattle.sequence_journal.specs.{Journal.IsCrashSafe, Loading.IsLoaded, Loading.KeepsLoadable}
use Rattle.sequence_journal.specs.Late.{HasFloorBetween}
use Rattle.sequence_journal.specs.{Slots.floor_of, Uptimes.RiseFrom}
use Rattle.sequence_journal.specs.declared.{journal.Journal.Journal, link.LinkId.LinkId}
use Rattle.std.proofs.Common.{◌≡◌, ◌∙◌, ℕ, ◌+◌, inl, inr, List, [], ◌++◌, Option, Some, None, refl, sym}
use Rattle.std.proofs.Common.{ap, subst, true, false, ◌≤◌, arith, IfSome, IsSomeAnd}
use Rattle.tick_drive.specs.{Input.is_read_fault, declared.consumer.Stop.Stop}
use Rattle.yasir_io.specs.{Causes.Rose, Disks.Slots, Disks.OneImage, Disks.LeavesOnly}
use Rattle.yasir_io.specs.declared.disk.SlotDisk.{Ghosts as SlotDisk}
use Rattle.yasir_ticks.specs.{Ticks.ticks_in, declared.tick.Tick.Tick}
use Rattle.tick_drive.specs.declared.consumer.Stop.TheVariants as stops
use Rattle.line_commands.proofs.Floors.{told_before, keeps_floor, keeps_from_load, keeps_throughout}
use Rattle.line_commands.proofs.Walking.{walk-boxed}
use Rattle.line_commands.specs.{BoxLines.ToldFloor, Boxes.Boxed, Boxes.IsBoxed, LinkBoxed.boxed_of}
use Rattle.line_commands.specs.ReplaysBox.{boxed_with, KeepsFloor, LeavesUptime, KeepsFloorThroughout}
use Rattle.live_commands.specs.AheadLines.{box_in, disk_in, most_in, number_in, settled_in}
use Rattle.line_commands.specs.{BoxLinesLaws.floor_from_less, ReplaysBox.has_stopped}
use Rattle.live_commands.proofs.Clear.{all_handed, all_settled}
use Rattle.live_commands.proofs.TextEndsLaws.{no_true, text_by}
use Rattle.live_commands.specs.{Filtering.LiveOrigin, Filtering.Filters, LiveCommand.Around}
use Rattle.live_commands.specs.LiveCommand.{around, Carries, HaltsBox, EndsLine, RunsLine, PortCauses}
use Rattle.live_commands.specs.LiveCommand.{left_ahead}
use Rattle.live_commands.specs.LiveLine.{Live, LiveGoes, HeardAt, HaltsAt, Drives, is_lowered_at}
use Rattle.line_commands.specs.{History.History, declared.port.Port.Ghosts as Port}
use Rattle.{command_ends.specs.Endings.status_of}
use Rattle.tick_drive.specs.declared.end.End.{End, TheVariants.Whole}
use Rattle.tick_drive.specs.declared.end.End.TheVariants.{Refused, TooLong, ReadFault, Stopped}

-- What an end says of the line is what its status says of the run.
runs_of : {P D : Type 0} (p : Port P) (d : SlotDisk D) (link : LinkId) (boxes : ℕ → Boxed)
    (rest ahead : ℕ) (before after : Around P D) (end : End)
    → EndsLine p d link boxes rest ahead before after end
    → (is_read_fault end ≡ true → Rose (p.read_faults before.port) (p.read_faults after.port))
    → RunsLine p d link boxes rest ahead before after (status_of end)
runs_of p d link boxes rest ahead before after ReadFault ends rose = (ends, rose refl)
runs_of p d link boxes rest ahead before after (Stopped stops.JournalFault) ends rose = inl ends
runs_of p d link boxes rest ahead before after (Stopped stops.NoMemory) ends rose =
    elim ends.ends [
      | inl within ↦ within.ends
      | inr last ↦ last.1.holds
    ]
runs_of p d link boxes rest ahead before after end ends rose = ends

-- What has a floor has one between numbers that it isn't beyond.
told_between : (link : LinkId) (low floor high : ℕ) → low ≤ floor → floor ≤ high
    → (told : Option Slots) → ToldFloor link floor told
    → IfSome told (HasFloorBetween link low high)
told_between link low floor high below above None told = tt
told_between link low floor high below above (Some slots) told =
    subst (λ f. IsSomeAnd f (λ n. (low ≤ n) × (n ≤ high))) (sym told) (below, above)

-- What an end says of the port's counts of faults is what its status says of them.
pub port_causes : {P D B : Type 0} (p : Port P) (d : SlotDisk D) (old new : Live B P D) (end : End)
    → LiveGoes p d old new end → PortCauses p old.port new.port (status_of end)
port_causes p d old new ReadFault goes = record {
  never_falls = goes.reads.never_falls;
  no_read = λ other. absurd (other refl);
  no_write = λ _. goes.outputs.same refl;
  write = λ e. cc;
}
port_causes p d old new (Stopped stops.WriteFault) goes = record {
  never_falls = goes.reads.never_falls;
  no_read = λ _. goes.reads.same refl;
  no_write = λ other. absurd (other refl);
  write = λ e. goes.outputs.failed refl;
}
port_causes p d old new end goes = record {
  never_falls = goes.reads.never_falls;
  no_read = λ _. goes.reads.same refl;
  no_write = λ _. goes.outputs.same refl;
  write = λ e. cc;
}

module _ {B N P D : Type 0} (b : LinkBox B N) (line_of : N → List ℕ) (p : Port P) (d : SlotDisk D)
    (link : LinkId) (key : List ℕ) (dir : Dir) (rest : ℕ) (journal : Journal) (before : D)
    (old new : Live B P D)
    (causal : (value : B) (last : ℕ) (setup : Setup) (line : List Tick)
    → b.stands value last setup line → IsCausal (b.walking.walker setup))
    (rising : (setup : Setup) (line : List Tick)
    → RiseFrom setup.floor (numbers_of (frames_of b.walking setup line)))
    (load : IsLoaded link (d.told before) (d.told old.disk) (d.may_leave before)
    (d.may_leave old.disk) journal)
    (safe : OneImage (d.told before) (d.may_leave before)
    → IsCrashSafe journal (d.told old.disk) (d.may_leave old.disk))
    (fits : Fits journal (d.told old.disk))
    (same : disk_in old.live_box.lines ≡ journal) (zero : old.live_box.ticks ≡ 0)
    (ahead : ℕ) (most : most_in old.live_box.lines ≡ ahead)
    (begins : (history : History) (link : LinkId) (told : Option Slots)
    → journal_link journal ≡ link → Fits journal told
    → Filters b line_of old.live_box.lines history told (record {
      start = history;
      read = [];
      link = link;
      setup = setup_of key dir (journal_floor journal);
    }) [])
    (end : End) (drives : Drives b line_of p d rest old new end) where
  abbrev floor : ℕ
  floor = journal_floor journal

  abbrev setup : Setup
  setup = setup_of key dir floor

  abbrev box : Boxed
  box = boxed_of b.walking line_of setup

  abbrev origin : LiveOrigin
  origin = record { start = p.history old.port; read = []; link = link; setup = setup }

  abbrev heard_of : LiveOrigin
  heard_of = record { start = p.history old.port; read = drives.heard.text; link = link; setup = setup }

  abbrev at_first : Around P D
  at_first = around old.port before

  abbrev at_last : Around P D
  at_last = around new.port new.disk

  begun : Filters b line_of old.live_box.lines (p.history old.port) (d.told old.disk) origin []
  begun = begins (p.history old.port) link (d.told old.disk) load.link_is fits

  laws : IsBoxed box floor
  laws = walk-boxed b.walking line_of setup
      (causal (box_in old.live_box.lines) (number_in old.live_box.lines) setup [] begun.stood.steps)
      (rising setup)

  -- the disk's journal at the end
  abbrev last : Journal
  last = disk_in new.live_box.lines

  keeps : (n : ℕ) → journal_link last ≡ link → n ≤ journal_floor last
      → KeepsFloor d link n before new.disk
  keeps n served is one c left = floor_from_less link n (journal_floor last) is c
      (keeps_floor d link journal before old.disk load safe
      (disk_in old.live_box.lines) last new.disk same drives.heard.goes.images.is_kept
      served one c left)

  floor_before : ToldFloor link floor (d.told before)
  floor_before = told_before d link journal before old.disk load safe

  -- Each image that the disk may leave makes an uptime with the numbers of the line.
  uptime_to : (line : List Tick) → journal_link last ≡ link
      → box.number line ≤ journal_floor last
      → LeavesUptime d link (box.numbers line) before new.disk
  uptime_to line served is one starts told image left = record {
    floor = floor;
    loads = subst (ToldFloor link floor) told floor_before;
    rise = laws.rising line;
    leaves = subst (λ n. HasFloorAtLeast link n image) (sym (laws.last_is line))
        (keeps _ served is one image left);
  }

  most_last : most_in new.live_box.lines ≡ ahead
  most_last = drives.heard.goes.images.most ∙ most

  -- A floor from a number to one above it, as the slots tell it.
  floor_between : (at : End) → at ≡ end → has_stopped at ≡ false → (n : ℕ)
      → n ≤ journal_floor last → journal_floor last ≤ n + ahead
      → number_in new.live_box.lines ≡ n
      → ToldFloor link (journal_floor last) (d.told new.disk)
      → IfSome (d.told new.disk) (HasFloorBetween link n (n + left_ahead ahead at))
  floor_between ReadFault is goes_on n low high number told =
      told_between link n (journal_floor last) (n + ahead) low high (d.told new.disk) told
  floor_between (Stopped stop) is goes_on n low high number told = absurd (no_true goes_on)
  floor_between at is goes_on n low high number told =
      told_between link n (journal_floor last) (n + 0) low
      (omega (arith, number, drives.lowered (subst (λ e. is_lowered_at e ≡ true) is refl)))
      (d.told new.disk) told

  carries : has_stopped end ≡ false → (line : List Tick) → HeardAt b line_of p d new heard_of line
      → Carries p d link (left_ahead ahead end) box at_first at_last drives.heard.text line
  carries goes_on line heard =
      let filters = heard.filters in
      let clear = drives.heard.clear goes_on in
      let settled : settled_in new.live_box.lines ≡ box.number (ticks_in heard.items) =
      all_settled b line_of new.live_box.lines (d.told new.disk) (p.history new.port) heard_of
      (ticks_in heard.items) clear filters.stood in
      let least : box.number (ticks_in heard.items) ≤ journal_floor last =
      omega (arith, settled, clear.ahead.covers) in
      let greatest : journal_floor last ≤ box.number (ticks_in heard.items) + ahead =
      omega (arith, settled, clear.ahead.within, most_last) in
      subst (Carries p d link (left_ahead ahead end) box at_first at_last drives.heard.text)
      heard.are (record {
        handed = all_handed b line_of new.live_box.lines (d.told new.disk) (p.history new.port)
            heard_of (ticks_in heard.items) clear filters.over;
        images = keeps _ filters.link_is least;
        uptime = uptime_to (ticks_in heard.items) filters.link_is least;
        floor_told = floor_between end refl goes_on (box.number (ticks_in heard.items)) least
            greatest filters.stood.number_is filters.floor_told;
      })

  halts : (stop : Stop) (line : List Tick) → HaltsAt b line_of p d new heard_of stop line
      → HaltsBox p d link ahead box at_first at_last drives.heard.text stop line
  halts stops.JournalFault line halted =
      let at = halted.stops in record {
        line = at.early;
        later = at.later;
        more = halted.more;
        all = ap (λ l. l ++ halted.more) (sym at.is) ∙ halted.are;
        handed = at.handed;
        images = keeps _ at.link_is at.not_below;
        uptime = uptime_to at.early at.link_is at.not_below;
        floor_told = subst (λ m. IfSome (d.told new.disk) (HasFloorBetween link
            (box.number at.early) (box.number (at.early ++ at.later) + m))) most_last
            (subst (λ l. IfSome (d.told new.disk) (HasFloorBetween link
            (box.number at.early) (box.number l + most_in new.live_box.lines))) at.is
            at.floor_told);
      }
  halts stops.WriteFault line halted =
      let at = halted.stops in
      record {
        line = ticks_in halted.items;
        more = halted.more;
        all = halted.are;
        fronts = at.fronts;
        images = keeps _ at.link_is at.not_below;
        uptime = uptime_to (ticks_in halted.items) at.link_is at.not_below;
        floor_told = told_between link (box.number (ticks_in halted.items)) (journal_floor last)
            (box.number (ticks_in halted.items) + ahead) at.not_below
            (omega (arith, at.within, most_last)) (d.told new.disk) at.floor_told;
      }
  halts stops.NoMemory line halted = halted.stops

  ends_line : EndsLine p d link (boxed_with (boxed_of b.walking line_of) key dir) rest ahead
      at_first at_last end
  ends_line = record {
    floor = floor;
    text = drives.heard.text;
    floor_before = floor_before;
    came = drives.heard.came;
    ends = text_by (HeardAt b line_of p d new heard_of)
        (Carries p d link (left_ahead ahead end) box at_first at_last drives.heard.text)
        (HaltsAt b line_of p d new heard_of)
        (HaltsBox p d link ahead box at_first at_last drives.heard.text) rest _ end carries
        (λ stopped. halts) drives.heard.text
        (drives.heard.ends origin zero refl (record { items = []; are = refl; filters = begun }));
    from_load = keeps_from_load d link journal before old.disk load safe
        (disk_in old.live_box.lines) new.disk same drives.heard.goes.images.any_moment;
  }

  pub throughout : ((slots : Slots) (floor : ℕ) → d.told before ≡ Some slots
      → OneImage (d.told before) (d.may_leave before) → floor_of link slots ≡ Some floor
      → LeavesOnly d.moment d.left_since before old.disk (KeepsLoadable link slots floor))
      → KeepsFloorThroughout d link before new.disk
  throughout loading = keeps_throughout d link journal before old.disk load safe
      (disk_in old.live_box.lines) new.disk same loading
      drives.heard.goes.images.any_moment

  pub runs_line : RunsLine p d link (boxed_with (boxed_of b.walking line_of) key dir) rest ahead
      at_first at_last (status_of end)
  runs_line = runs_of p d link (boxed_with (boxed_of b.walking line_of) key dir) rest ahead
      at_first at_last end ends_line drives.heard.goes.reads.failed
