-- What the status says of a run of a box, from how the drive over the input and the last settle
-- ended.
use Rattle.{frame_ending.specs.Causal.IsCausal, link_format.specs.declared.dir.Dir.Dir}
use Rattle.link_box.specs.{Walking.frames_of, declared.box_trait.LinkBox.Ghosts as LinkBox}
use Rattle.link_format.specs.{NumberedFrame.numbers_of, Setup.Setup, Setup.setup_of}
use Rattle.sequence_journal.specs.Journal.{journal_link, journal_floor, HasFloorAtLeast}
use Rattle.sequence_journal.specs.Journal.{IsCrashSafe}
use Rattle.sequence_journal.specs.Late.{disk_journal, disk_floor, late_link, HasFloorBetween}
use Rattle.sequence_journal.specs.Loading.{IsLoaded, KeepsLoadable}
use Rattle.sequence_journal.specs.{Slots.floor_of, Uptimes.RiseFrom}
use Rattle.sequence_journal.specs.declared.{journal.Journal.Journal, link.LinkId.LinkId}
use Rattle.std.proofs.Common.{◌≡◌, ◌∙◌, ℕ, ◌≤◌, inl, true, false, List, [], ◌++◌}
use Rattle.std.proofs.Common.{length, length-append, map, take, drop, Option, Some, None, Result}
use Rattle.std.proofs.Common.{OnOk}
use Rattle.std.proofs.Common.{refl, sym, ap, subst, append-nil, arith}
use Rattle.std.proofs.lemmas.List.{take-append-drop}
use Rattle.{std.specs.Prelude.IfSome, tick_drive.specs.declared.consumer.Stop.Stop}
use Rattle.tick_drive.specs.{Drive.Drives, Drive.drive_answer_of}
use Rattle.tick_drive.specs.Consumers.{IsSinkCause, is_write_fault}
use Rattle.yasir_io.specs.Disks.{Slots, OneImage, LeavesOnly}
use Rattle.yasir_io.specs.declared.{disk.SlotDisk.Ghosts as SlotDisk, sink.Sink.Ghosts as Sink}
use Rattle.yasir_io.specs.declared.source.Source.{Ghosts as Source}
use Rattle.yasir_ticks.proofs.{CanonicalLaws.canonical_text-stands, TextLaws.ended_items-begin}
use Rattle.yasir_ticks.{proofs.TickRuns.ticks_in-ticks, specs.CanonicalText.canonical_text}
use Rattle.yasir_ticks.specs.{TickText.IsTickText, TickText.ended_items, Ticks.Item, Ticks.ticks_in}
use Rattle.yasir_ticks.specs.{Ticks.AreTicks, Ticks.Item.tick, declared.tick.Tick.Tick}
use Rattle.tick_drive.specs.declared.consumer.Stop.TheVariants as stops
use Rattle.line_commands.proofs.Floors.{told_before, keeps_floor, keeps_from_load, keeps_throughout}
use Rattle.line_commands.{proofs.Walking.walk-boxed, specs.BoxLines.BoxOrigin, specs.BoxLines.Outputs}
use Rattle.line_commands.specs.BoxLines.{ToldFloor, DrivesBox, State}
use Rattle.line_commands.specs.BoxLines.{StopsBox, HasFinished, KeepsImages, MayDrive, BoxLinesGoOn}
use Rattle.line_commands.specs.{BoxLines.outputs_of, BoxLinesLaws.drives-then}
use Rattle.line_commands.specs.{BoxLines.driving, BoxLines.state_of_lines, BoxLinesLaws.floor_from_less}
use Rattle.line_commands.specs.{Boxes.Boxed, Boxes.IsBoxed, LinkBoxed.boxed_of}
use Rattle.line_commands.specs.ReplaysBox.{Around, around, KeepsFloor, KeepsFloorFromLoad}
use Rattle.line_commands.specs.ReplaysBox.{LeavesUptime, KeepsFloorThroughout, boxed_with, texts_of}
use Rattle.line_commands.specs.ReplaysBox.{EndsBox, SendsFronts, HaltsBox, OtherwiseRuns, RunsBox}
use Rattle.line_commands.specs.OverInput.{has_stopped, OfFront, MakesAll, MakesFront, EndsAs}
use Rattle.line_commands.proofs.OverInput.{answer_ok, front-take, all_driven, stop_driven}
use Rattle.line_commands.proofs.OverInput.{front_of_all, ends_over}
use Rattle.line_commands.proofs.FrontsSent.{fronts_of_all}
use Rattle.line_commands.specs.Sending.{made_by, CommandHasSentFronts}
use Rattle.line_commands.specs.declared.box_lines.BoxLines.{BoxLines}
use Rattle.line_texts.specs.{Sending.SinkTexts, Sending.sink_texts}
use Rattle.command_ends.specs.{Causes.InputCause, Causes.SinkCause, Endings.status_of}
use Rattle.command_ends.specs.declared.status.Status.{Status}
use Rattle.tick_drive.proofs.ItemLaws.{ticks_in-append}
use Rattle.tick_drive.specs.declared.end.End.{End, TheVariants.Whole}
use Rattle.tick_drive.specs.declared.end.End.TheVariants.{Refused, TooLong, ReadFault, Stopped}

-- ---- whole lines

-- the whole lines of a front of a canonical text represent a front of its ticks
whole_lines-begin : (ticks : List Tick) (front rest : List ℕ) → AreTicks ticks
    → canonical_text ticks ≡ front ++ rest
    → (more : List Tick) × (ticks ≡ ticks_in (ended_items front) ++ more)
whole_lines-begin ticks front rest are is =
    let right = subst (λ text. IsTickText 0 text (map tick ticks)) is
    (canonical_text-stands ticks are) in
    let begins = ended_items-begin 0 front rest (map tick ticks) right in (
      ticks_in begins.0,
      sym (ticks_in-ticks ticks) ∙ ap ticks_in begins.1
          ∙ ticks_in-append (ended_items front) begins.0,
    )

-- The last number of a front of a line isn't above that of the line.
number-take : (box : Boxed) (floor : ℕ) (line : List Tick) (p : ℕ) → IsBoxed box floor
    → box.number (take p line) ≤ box.number line
number-take box floor line p laws =
    subst (λ l. box.number (take p line) ≤ box.number l) (take-append-drop p line)
    (laws.rises (take p line) (drop p line))

-- The whole lines that `out` got have no more ticks than the line, since a box makes as many ticks
-- as it takes.
few_in_lines : (box : Boxed) (floor : ℕ) (line : List Tick) (before now : SinkTexts)
    → IsBoxed box floor → (sent : CommandHasSentFronts box before now line)
    → length (ticks_in (ended_items sent.text.front)) ≤ length line
few_in_lines box floor line before now laws sent =
    let begins = whole_lines-begin (box.other_line line) sent.text.front sent.text.rest
    sent.are sent.text.all in
    let sum = ap length begins.1 ∙ length-append (ticks_in (ended_items sent.text.front))
    begins.0 in
    let same = laws.long line in
    omega (arith, sum, same)

-- ---- a drive that wasn't stopped, and causes

-- A drive that was stopped didn't take a whole input.
pub not_whole : (end : End) → has_stopped end ≡ true → end ≡ Whole → ⊥
not_whole Whole stopped is = cc
not_whole end stopped is = cc

pub sink_cause_of_stop : (out_before out_now log_before log_now : ℕ) (end : End)
    → has_stopped end ≡ true
    → IsSinkCause out_before out_now log_before log_now (is_write_fault (drive_answer_of end))
    → SinkCause out_before out_now log_before log_now (status_of end)
sink_cause_of_stop out_before out_now log_before log_now (Stopped stops.WriteFault) stopped h =
    h.failed refl
sink_cause_of_stop out_before out_now log_before log_now (Stopped stops.JournalFault) stopped h =
    (h.out_same refl, h.log_never_falls)
sink_cause_of_stop out_before out_now log_before log_now (Stopped stops.NoMemory) stopped h =
    (h.out_same refl, h.log_never_falls)
sink_cause_of_stop out_before out_now log_before log_now end stopped h = cc

-- A box with its key and direction, over the journal of its link, that was driven over an input.
-- `before` is what was outside before the journal was loaded, and `loaded` the disk after that.
-- `old` is the box when the drive began, and `last` the box when it was stopped, or when all that
-- waited had been written. `ended` is what was outside then. After a whole input, `rest` silent
-- ticks follow.
pub record BoxDrive (B S O L D : Type 0) : Type 0 where
  pub link : LinkId
  pub key : List ℕ
  pub dir : Dir
  pub journal : Journal
  pub rest : ℕ
  pub before : Around S O L D
  pub loaded : D
  pub old : BoxLines B
  pub last : BoxLines B
  pub ended : Around S O L D

-- the box's setup
abbrev pub setup_in : {B S O L D : Type 0} → BoxDrive B S O L D → Setup
setup_in drive = setup_of drive.key drive.dir (journal_floor drive.journal)

-- what was driven, as it was when the drive began, and at the end
abbrev pub begun_state : {B S O L D : Type 0} → BoxDrive B S O L D → State B O L D
begun_state drive = state_of_lines drive.old drive.before.out drive.before.log drive.loaded

abbrev pub last_state : {B S O L D : Type 0} → BoxDrive B S O L D → State B O L D
last_state drive = state_of_lines drive.last drive.ended.out drive.ended.log drive.ended.disk

module _ {B N S O L D : Type 0} (b : LinkBox B N) (line_of : N → List ℕ) (s : Source S)
    (o : Sink O) (l : Sink L) (d : SlotDisk D) (drive : BoxDrive B S O L D) where
  -- The box was driven to this state, and the input ended as `end` says.
  abbrev pub HasDriven : State B O L D → End → Type 0
  HasDriven state end = Drives (driving b line_of o l d) 0 drive.rest (s.left drive.before.input)
      (s.left drive.ended.input) (begun_state drive) state end

  -- What is known of the run from the loading of its journal on.
  pub record IsRun : Type 0 where
    pub laws : IsBoxed (boxed_of b.walking line_of (setup_in drive)) (journal_floor drive.journal)
    pub begun : (texts : SinkTexts) → DrivesBox b line_of drive.old
        (record { link = drive.link; setup = setup_in drive; texts = texts })
        (record { out = texts.out; log = texts.log; slots = d.told drive.loaded }) []
    pub floor_before : ToldFloor drive.link (journal_floor drive.journal) (d.told drive.before.disk)
    pub images : late_link drive.last.late ≡ drive.link
        → KeepsFloor d drive.link (disk_floor drive.last.late) drive.before.disk drive.ended.disk
    pub since_load : KeepsFloorFromLoad d drive.link (journal_floor drive.journal) drive.before.disk
        drive.ended.disk
    pub throughout : KeepsFloorThroughout d drive.link drive.before.disk drive.ended.disk

  -- If the journal was loaded, the box began over it, and the calls kept the images, then `IsRun`
  -- holds.
  pub is_run : ((value : B) (last : ℕ) (setup : Setup) (line : List Tick)
      → b.stands value last setup line → IsCausal (b.walking.walker setup))
      → ((setup : Setup) (line : List Tick)
      → RiseFrom setup.floor (numbers_of (frames_of b.walking setup line)))
      → IsLoaded drive.link (d.told drive.before.disk) (d.told drive.loaded)
      (d.may_leave drive.before.disk) (d.may_leave drive.loaded) drive.journal
      → (OneImage (d.told drive.before.disk) (d.may_leave drive.before.disk)
      → IsCrashSafe drive.journal (d.told drive.loaded) (d.may_leave drive.loaded))
      → ((slots : Slots) (floor : ℕ) → d.told drive.before.disk ≡ Some slots
      → OneImage (d.told drive.before.disk) (d.may_leave drive.before.disk)
      → floor_of drive.link slots ≡ Some floor
      → LeavesOnly d.moment d.left_since drive.before.disk drive.loaded
      (KeepsLoadable drive.link slots floor))
      → disk_journal drive.old.late ≡ drive.journal
      → ((link : LinkId) (texts : SinkTexts) (told : Option Slots)
      → journal_link drive.journal ≡ link → DrivesBox b line_of drive.old
      (record { link = link; setup = setup_in drive; texts = texts })
      (record { out = texts.out; log = texts.log; slots = told }) [])
      → KeepsImages o l d (begun_state drive) (last_state drive) → IsRun
  is_run causal rising load safe loading same begins images = record {
    laws =
        let begun =
        begins drive.link (sink_texts None None) (d.told drive.loaded) load.link_is in
        walk-boxed b.walking line_of (setup_in drive)
        (causal drive.old.line_box (journal_floor drive.old.journal) (setup_in drive) []
        begun.took.stood.steps) (rising (setup_in drive));
    begun = λ texts. begins drive.link texts (d.told drive.loaded) load.link_is;
    floor_before = told_before d drive.link drive.journal drive.before.disk drive.loaded load safe;
    images = keeps_floor d drive.link drive.journal drive.before.disk drive.loaded load safe
        (disk_journal drive.old.late) (disk_journal drive.last.late) drive.ended.disk same
        images.is_kept;
    since_load = keeps_from_load d drive.link drive.journal drive.before.disk drive.loaded load
        safe (disk_journal drive.old.late) drive.ended.disk same images.any_moment;
    throughout = keeps_throughout d drive.link drive.journal drive.before.disk drive.loaded load
        safe (disk_journal drive.old.late) drive.ended.disk same loading images.any_moment;
  }

-- A drive wasn't stopped.
module _ {B N O L D : Type 0} (b : LinkBox B N) (line_of : N → List ℕ) (o : Sink O) (l : Sink L)
    (d : SlotDisk D) (rest : ℕ) (before now : Option (List ℕ)) (begun state : State B O L D)
    (end : End) (other : has_stopped end ≡ false)
    (driven : Drives (driving b line_of o l d) 0 rest before now begun state end) where
  pub able_then : MayDrive b line_of state.lines (d.told state.disk)
  able_then = subst (λ r. OnOk r (MayDrive b line_of state.lines (d.told state.disk)))
      (answer_ok end other) driven.gives.is_able

  -- what the drive did, and then the calls after it
  pub went_then : (last : State B O L D) (result : Result (Unit {0}) Stop)
      → BoxLinesGoOn o l d state last result → BoxLinesGoOn o l d begun last result
  went_then last result went = drives-then b line_of o l d begun state last result
      (subst (λ r. BoxLinesGoOn o l d begun state r) (answer_ok end other) driven.gives.went) went

-- A box was driven, and was stopped, or finished.
module _ {B N S O L D : Type 0} (b : LinkBox B N) (line_of : N → List ℕ) (s : Source S)
    (o : Sink O) (l : Sink L) (d : SlotDisk D) (drive : BoxDrive B S O L D)
    (run : IsRun b line_of s o l d drive) where
  abbrev box : Boxed
  box = boxed_of b.walking line_of (setup_in drive)

  abbrev boxes : ℕ → Boxed
  boxes = boxed_with (boxed_of b.walking line_of) drive.key drive.dir

  abbrev texts : SinkTexts
  texts = texts_of o l drive.before

  abbrev slots : Option Slots
  slots = d.told drive.ended.disk

  abbrev origin : BoxOrigin
  origin = record { link = drive.link; setup = setup_in drive; texts = texts }

  abbrev Driven : State B O L D → End → Type 0
  Driven = HasDriven b line_of s o l d drive

  -- what the input had left at first, and had left at the end
  abbrev at_first : Option (List ℕ)
  at_first = s.left drive.before.input

  abbrev at_last : Option (List ℕ)
  at_last = s.left drive.ended.input

  -- No image has a floor below one that isn't above the disk's.
  keeps : (n : ℕ) → late_link drive.last.late ≡ drive.link → n ≤ disk_floor drive.last.late
      → KeepsFloor d drive.link n drive.before.disk drive.ended.disk
  keeps n served within one c left =
      floor_from_less drive.link n (disk_floor drive.last.late) within c (run.images served one c left)

  -- Each image makes an uptime: the box's numbers rise from the floor that the slots had, and the
  -- last one isn't above the image's floor.
  uptime_to : (line : List Tick) → late_link drive.last.late ≡ drive.link
      → box.number line ≤ disk_floor drive.last.late
      → LeavesUptime d drive.link (box.numbers line) drive.before.disk drive.ended.disk
  uptime_to line served within one starts told image left = record {
    floor = journal_floor drive.journal;
    loads = subst (ToldFloor drive.link (journal_floor drive.journal)) told run.floor_before;
    rise = run.laws.rising line;
    leaves = subst (λ n. HasFloorAtLeast drive.link n image) (sym (run.laws.last_is line))
        (keeps _ served within one image left);
  }

  -- the sinks at the end of the run
  module _ (out : O) (log : L) where
    abbrev after : Around S O L D
    after = around drive.ended.input out log drive.ended.disk

    abbrev outputs : Outputs
    outputs = record { out = o.held out; log = l.held log; slots = slots }

    abbrev Runs : Status → Type 0
    Runs = RunsBox s o l d drive.link boxes drive.before after drive.rest

    abbrev Ends : List Tick → Type 0
    Ends = EndsBox s o l d drive.link boxes drive.before after

    abbrev Halts : Stop → List Tick → Type 0
    Halts = HaltsBox s o l d drive.link boxes drive.before after

    abbrev Finished : List Tick → Type 0
    Finished = HasFinished b line_of drive.last origin outputs

    -- All that waited was written.
    ends_box : (line : List Tick) → Finished line → Ends line
    ends_box line at =
        let served = at.settled.link_is in
        let within : box.number line ≤ disk_floor drive.last.late =
        omega (arith, at.settled.floor) in
        record {
          floor = journal_floor drive.journal;
          floor_before = run.floor_before;
          replays = record {
            sent = at.sent;
            images = keeps _ served within;
            uptime = uptime_to line served within;
          };
          from_load = run.since_load;
          floor_told = at.settled.floor_told;
        }

    -- The sinks have got fronts of what the box makes of this line.
    fronts : (line : List Tick) → CommandHasSentFronts box texts (texts_of o l after) line
        → late_link drive.last.late ≡ drive.link → box.number line ≤ disk_floor drive.last.late
        → SendsFronts s o l d drive.link boxes drive.before after (journal_floor drive.journal) line
    fronts line sent served within = record {
      floor_before = run.floor_before;
      sent = sent;
      images = keeps _ served within;
      uptime = uptime_to line served within;
      from_load = run.since_load;
      few = few_in_lines box (journal_floor drive.journal) line texts (texts_of o l after) run.laws
          sent;
      lines =
          let below = number-take box (journal_floor drive.journal) line
          (length (ticks_in (ended_items sent.text.front))) run.laws in
          keeps _ served (omega (arith, below, within));
    }

    -- The box was stopped when it had taken the last of these items.
    halts_box : (stop : Stop) (items : List Item)
        → StopsBox b line_of drive.last stop origin outputs items → Halts stop (ticks_in items)
    halts_box stops.JournalFault items at =
        let early = front-take at.early at.later (ticks_in items) (sym at.is) in record {
          floor = journal_floor drive.journal;
          early = length at.early;
          fronts = subst (SendsFronts s o l d drive.link boxes drive.before after
              (journal_floor drive.journal)) early
              (fronts at.early at.sent at.link_is at.not_below);
          floor_told = subst (λ t. IfSome slots (HasFloorBetween drive.link (box.number t)
              (box.number (ticks_in items)))) early at.floor_told;
        }
    halts_box stops.WriteFault items at = record {
      floor = journal_floor drive.journal;
      fronts = fronts (ticks_in items) at.sent at.settled.link_is
          (omega (arith, at.settled.floor));
      floor_told = at.settled.floor_told;
    }
    halts_box stops.NoMemory items at = absurd at

    halts_at : (stop : Stop) (items : List Item)
        → StopsBox b line_of drive.last stop origin outputs items
        → OfFront (Halts stop) (ticks_in items)
    halts_at stop items at = record {
      early = ticks_in items;
      later = [];
      is = append-nil (ticks_in items);
      makes = halts_box stop items at;
    }

    of_stop : (stop : Stop) → MakesFront drive.rest at_first at_last (Halts stop)
        → Runs (status_of (Stopped stop))
    of_stop stops.WriteFault made = made
    of_stop stops.JournalFault made = inl made
    of_stop stops.NoMemory made = absurd made.makes

  -- ---- the drive was stopped

  pub drive_stops : (end : End) → has_stopped end ≡ true → Driven (last_state drive) end
      → Runs drive.ended.out drive.ended.log (status_of end)
  drive_stops (Stopped stop) stopped driven =
      of_stop drive.ended.out drive.ended.log stop
      (stop_driven drive.rest at_first at_last (driving b line_of o l d) (begun_state drive)
      (last_state drive) origin (run.begun texts) (Finished drive.ended.out drive.ended.log)
      (Halts drive.ended.out drive.ended.log) stop driven
      (λ stop items at. halts_at drive.ended.out drive.ended.log stop items at))
  drive_stops end stopped driven = cc

  -- ---- the input ended, and then all that waited was to be written

  -- What follows from what the box had taken when the input had ended.
  taken_at : (made : List Tick → Type 0) (end : End) → has_stopped end ≡ false
      → (state : State B O L D) → Driven state end
      → ((items : List Item) → DrivesBox b line_of state.lines origin (outputs_of o l d state) items
      → made (ticks_in items))
      → MakesAll drive.rest at_first at_last made end
  taken_at made end other state driven then = all_driven drive.rest at_first at_last
      (driving b line_of o l d) (begun_state drive) state origin (run.begun texts) made
      (λ stop line. ⊥) end other driven then

  -- The disk or a write failed.
  pub finish_stops : (end : End) → has_stopped end ≡ false → (state : State B O L D)
      → Driven state end → (stop : Stop)
      → ((origin : BoxOrigin) (items : List Item)
      → DrivesBox b line_of state.lines origin (outputs_of o l d state) items
      → StopsBox b line_of drive.last stop origin (outputs_of o l d (last_state drive)) items)
      → Runs drive.ended.out drive.ended.log (status_of (Stopped stop))
  finish_stops end other state driven stop stops =
      of_stop drive.ended.out drive.ended.log stop
      (front_of_all drive.rest at_first at_last (Halts drive.ended.out drive.ended.log stop) end
      (taken_at (OfFront (Halts drive.ended.out drive.ended.log stop)) end other state driven
      (λ items at. halts_at drive.ended.out drive.ended.log stop items (stops origin items at))))

  -- A box never stops for lack of memory, so the input's count isn't below the one before.
  pub input_of_stop : (before now : ℕ) → before ≤ now → (stop : Stop)
      → Runs drive.ended.out drive.ended.log (status_of (Stopped stop))
      → InputCause before now (status_of (Stopped stop))
  input_of_stop before now never_falls stops.NoMemory runs = absurd runs
  input_of_stop before now never_falls stop runs = never_falls

  -- What waited was written, and the sinks were flushed, or a flush failed.
  pub all_runs : (out : O) (log : L) → o.held out ≡ o.held drive.ended.out
      → l.held log ≡ l.held drive.ended.log → (end : End) → has_stopped end ≡ false
      → (state : State B O L D) → Driven state end
      → ((origin : BoxOrigin) (items : List Item)
      → DrivesBox b line_of state.lines origin (outputs_of o l d state) items
      → HasFinished b line_of drive.last origin (outputs_of o l d (last_state drive))
      (ticks_in items))
      → (status : Status) → EndsAs end status → Runs out log status
  all_runs out log out_same log_same end other state driven finish status is =
      ends_over drive.rest at_first at_last (Finished out log) (Ends out log)
      (Halts out log stops.WriteFault)
      (OtherwiseRuns s o l d drive.link boxes drive.before (after out log) drive.rest) end other
      (taken_at (Finished out log) end other state driven
      (λ items at. rw (out_same, log_same) (finish origin items at)))
      (λ line at. ends_box out log line at)
      (λ line at. record {
        floor = journal_floor drive.journal;
        fronts = fronts out log line
            (fronts_of_all (made_by box) texts (texts_of o l (after out log)) line at.sent)
            at.settled.link_is (omega (arith, at.settled.floor));
        floor_told = at.settled.floor_told;
      }) status is
