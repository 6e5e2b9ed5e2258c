-- What one byte of a stream of both ways does.
use Rattle.line_commands.proofs.Reading.{read_begins}
use Rattle.line_commands.specs.declared.port.Port.{Ghosts as Port}
use Rattle.line_commands.specs.Counted.{capped}
use Rattle.live_commands.specs.declared.live_box.TheConstants.{MAX_LIVE_TICKS}
use Rattle.live_line.proofs.HandingBoth.{same_way}
use Rattle.live_line.proofs.Running.{images_none}
use Rattle.live_line.specs.BothWays.{lines_in}
use Rattle.live_line.specs.WayLines.{HasTakenOn, KeepsImages, kept_in, way_in, way_outside}
use Rattle.live_line.specs.WayRuns.{WayOrigin, WayWent, IsAbleWay}
use Rattle.live_line.specs.WayText.{HasParted, BeginsLine, AddsByte, RefusesLine, text_on, IsWithin}
use Rattle.live_line.specs.WayText.{IsLettered}
use Rattle.live_line.specs.declared.way_box.WayBox.{Ghosts as WayBox}
use Rattle.live_line.specs.declared.ways.Way.{Way}
use Rattle.live_line.specs.declared.ways.Way.TheVariants.{Outgoing, Incoming}
use Rattle.live_ways.specs.BothDisks.{disk_on}
use Rattle.live_ways.specs.Ends.{is_way, is_disk_end, is_read_end, is_write_end}
use Rattle.live_ways.specs.LiveLine.{LineAt, line_at, LineOrigin, LineStands, HeardAt, LineGoes}
use Rattle.live_ways.specs.LiveLine.{TakesBytes, EndsInBytes, IsReadyLine, made_on, kept_on}
use Rattle.live_ways.specs.LiveLine.{box_on, reader_on, lines_on, BoxOn}
use Rattle.live_ways.specs.WayEnds.{BeginsStream}
use Rattle.live_ways.specs.WayReading.{WayHas, WayReads, TakesByte, way_at}
use Rattle.live_ways.specs.WayReading.{IsReadyWay}
use Rattle.live_ways.specs.declared.both_disks.BothDisks.{BothDisks}
use Rattle.live_ways.specs.declared.both_ways.LiveLine.{LiveLine}
use Rattle.live_ways.specs.declared.way_end.WayEnd.{WayEnd}
use Rattle.live_ways.specs.declared.way_end.WayEnd.TheVariants.{Whole, NoWay}
use Rattle.live_ways.specs.declared.way_end.WayEnd.TheVariants.{Stopped}
use Rattle.live_ways.specs.declared.way_reader.WayReader.{WayReader}
use Rattle.std.proofs.Common.{◌≡◌, ◌≢◌, ◌∙◌, ℕ, ◌⊎◌, List, [], ◌∷◌, ◌++◌, Ok, Err, Some, None, true}
use Rattle.std.proofs.Common.{false}
use Rattle.std.proofs.Common.{refl, ap, sym, subst, arith, inl, inr, Option, Result, ◌≤◌, Bool}
use Rattle.tick_drive.proofs.Causes.{disk_none}
use Rattle.tick_drive.specs.Consumers.{IsDiskCause, is_journal_fault, is_write_fault}
use Rattle.tick_drive.specs.declared.consumer.Stop.{Stop}
use Rattle.tick_drive.specs.declared.consumer.Stop.TheVariants.{WriteFault, JournalFault, NoMemory}
use Rattle.yasir_io.specs.Disks.{Slots}
use Rattle.yasir_io.specs.declared.disk.SlotDisk.{Ghosts as SlotDisk}
use Rattle.yasir_ticks.specs.TickText.{lines_of, line_after}
use Rattle.yasir_ticks.specs.declared.tick.Tick.{Tick}

-- what is false isn't true
pub no_true : {b : Bool} → b ≡ false → b ≡ true → ⊥
no_true is_false is_true = cc

-- With what a reader of both ways has parted, and readers of both texts, a right stream may begin.
pub last_of : (within : Option Way) (last : List ℕ) → IsWithin within last
    → (last ≡ []) ⊎ IsLettered last
last_of None last is = inl is
last_of (Some way) last is = inr (way, is)

module _ {X Y P D : Type 0} (x : WayBox X) (y : WayBox Y) (p : Port P) (d : SlotDisk D) where
  pub stream_begins : (at : LineAt X Y P D) (origin : LineOrigin) (stream : List ℕ)
      → LineStands x y p d at origin stream → BeginsStream stream
  stream_begins at origin stream stands = record {
    lettered = stands.parted.lettered;
    last = last_of at.line.ways.within (lines_of stream).last stands.parted.within;
    begins = λ way. read_begins (reader_on at.line way).reader (text_on way stream)
        (stands.reads way).has_read;
  }

  -- What the boxes have heard of the lines that ended.
  pub stands_heard : (at : LineAt X Y P D) (origin : LineOrigin) (stream : List ℕ)
      → LineStands x y p d at origin stream → HeardAt x y p d at origin (lines_in stream)
  stands_heard at origin stream stands = record {
    early = stands.early;
    handed = stands.handed;
    taken = λ way. (stands.reads way).taken;
  }

-- holds if an end has no cause but the text
pub record IsOfStream (end : WayEnd) : Type 0 where
  pub no_disk : (way : Way) → is_disk_end way end ≡ false
  pub no_read : is_read_end end ≡ false
  pub no_write : is_write_end end ≡ false

-- ---- calls that left port, disks and lines as they were

module _ {X Y P D : Type 0} (x : WayBox X) (y : WayBox Y) (p : Port P) (d : SlotDisk D)
    (only_now : (disk : D) (c : Slots) → d.left_since disk (d.moment disk) c → d.may_leave disk c)
    (line next : LiveLine X Y) (port : P) (disks : BothDisks D)
    (same : (way : Way) → lines_on next way ≡ lines_on line way) where
  pub goes_same : (end : WayEnd) → IsOfStream end
      → LineGoes x y p d (line_at line port disks) (line_at next port disks) end
  goes_same end calm = record {
    images = λ way. subst (λ lines. KeepsImages d (kept_on line way) (kept_in lines)
        (disk_on disks way) (disk_on disks way)) (sym (same way))
        (images_none d only_now (kept_on line way) (disk_on disks way));
    disks = λ way. subst (IsDiskCause (d.faults (disk_on disks way)) (d.faults (disk_on disks way)))
        (sym (calm.no_disk way)) (disk_none (d.faults (disk_on disks way)));
    reads = record {
      never_falls = omega arith;
      failed = λ e. absurd (no_true calm.no_read e);
      same = λ e. refl;
    };
    same = λ e to. refl;
    failed = λ e. absurd (no_true calm.no_write e);
  }

  pub heard_same : (origin : LineOrigin) (lines : Way → List Tick)
      → HeardAt x y p d (line_at line port disks) origin lines
      → HeardAt x y p d (line_at next port disks) origin lines
  heard_same origin lines heard = record {
    early = heard.early;
    handed = heard.handed;
    taken = λ way. subst (λ at. HasTakenOn (box_on x y way) at (origin.setup way)
        (heard.early way) (lines way)) (sym (same way)) (heard.taken way);
  }

  pub ready_same : ((way : Way) → (reader_on next way).ticks ≡ (reader_on line way).ticks)
      → IsReadyLine x y p d (line_at line port disks)
      → IsReadyLine x y p d (line_at next port disks)
  ready_same ticks ready way = record {
    able = subst (λ at. IsAbleWay (box_on x y way) p d way (way_outside at port (disk_on disks way)))
        (sym (same way)) (ready way).able;
    counted = ap (λ at. (box_on x y way).taken (way_in at)) (same way)
        ∙ (ready way).counted ∙ sym (ticks way);
    few = subst (λ n. n ≤ MAX_LIVE_TICKS) (sym (ticks way)) (ready way).few;
  }

-- ---- a byte that is the letter of a line, or of no way

module _ {X Y P D : Type 0} (x : WayBox X) (y : WayBox Y) (p : Port P) (d : SlotDisk D)
    (only_now : (disk : D) (c : Slots) → d.left_since disk (d.moment disk) c → d.may_leave disk c)
    (line next : LiveLine X Y) (port : P) (disks : BothDisks D) (byte : ℕ)
    (same : (way : Way) → reader_on next way ≡ reader_on line way) where
  abbrev was : LineAt X Y P D
  was = line_at line port disks

  abbrev now : LineAt X Y P D
  now = line_at next port disks

  pub letter_taken : IsReadyLine x y p d was
      → ((stream : List ℕ) → HasParted line.ways stream → BeginsLine next.ways stream byte)
      → TakesBytes x y p d was now (byte ∷ [])
  letter_taken ready begins = record {
    ready = ready_same x y p d only_now line next port disks
        (λ way. ap (λ (r : WayReader (BoxOn X Y way)). r.lines) (same way))
        (λ way. ap (λ (r : WayReader (BoxOn X Y way)). r.ticks) (same way)) ready;
    goes = goes_same x y p d only_now line next port disks
        (λ way. ap (λ (r : WayReader (BoxOn X Y way)). r.lines) (same way)) Whole
        (record { no_disk = λ way. refl; no_read = refl; no_write = refl });
    left = refl;
    takes = λ origin stream stands. let begun = begins stream stands.parted in record {
      parted = begun.parted;
      early = stands.early;
      handed = stands.handed;
      reads = λ way. subst (WayHas (box_on x y way) (reader_on next way) (origin.setup way)
          (stands.early way)) (sym (begun.same way))
          (subst (λ r. WayHas (box_on x y way) r (origin.setup way) (stands.early way)
          (text_on way stream)) (sym (same way)) (stands.reads way));
    };
  }

  pub letter_refused : (number : ℕ) → IsReadyLine x y p d was
      → ((stream : List ℕ) → HasParted line.ways stream → number ≡ capped (line_after stream))
      → ((stream : List ℕ) → HasParted line.ways stream → RefusesLine stream byte)
      → EndsInBytes x y p d was now (NoWay number) (byte ∷ [])
  letter_refused number ready number_is refuses = record {
    goes = goes_same x y p d only_now line next port disks
        (λ way. ap (λ (r : WayReader (BoxOn X Y way)). r.lines) (same way)) (NoWay number)
        (record { no_disk = λ way. refl; no_read = refl; no_write = refl });
    left = refl;
    no_read = refl;
    ready = λ e. ready_same x y p d only_now line next port disks
        (λ way. ap (λ (r : WayReader (BoxOn X Y way)). r.lines) (same way))
        (λ way. ap (λ (r : WayReader (BoxOn X Y way)). r.ticks) (same way)) ready;
    ends = λ origin stream stands. let refused = refuses stream stands.parted in record {
      front = stream;
      later = byte ∷ [];
      is = refl;
      begins = stream_begins x y p d was origin stream stands;
      ends = record {
        byte = byte;
        rest = [];
        is = refl;
        begins = refused.begins;
        is_no_letter = refused.is_no_letter;
        line_is = number_is stream stands.parted;
        heard = heard_same x y p d only_now line next port disks
            (λ way. ap (λ (r : WayReader (BoxOn X Y way)). r.lines) (same way)) origin
            (lines_in stream) (stands_heard x y p d was origin stream stands);
      };
    };
  }

-- ---- a byte of the text of a way

-- how calls on a way ended, as an end of the stream
abbrev pub stop_in : Way → Result (Unit {0}) Stop → WayEnd
stop_in way (Ok x) = Whole
stop_in way (Err stop) = Stopped way stop

write_as : (way : Way) (result : Result (Unit {0}) Stop)
    → is_write_fault result ≡ is_write_end (stop_in way result)
write_as way (Ok tt) = refl
write_as way (Err WriteFault) = refl
write_as way (Err JournalFault) = refl
write_as way (Err NoMemory) = refl

no_read_in : (way : Way) (result : Result (Unit {0}) Stop) → is_read_end (stop_in way result) ≡ false
no_read_in way (Ok tt) = refl
no_read_in way (Err stop) = refl

own_disk : (way : Way) (result : Result (Unit {0}) Stop)
    → is_disk_end way (stop_in way result) ≡ is_journal_fault result
own_disk way (Ok tt) = refl
own_disk way (Err WriteFault) = refl
own_disk Outgoing (Err JournalFault) = refl
own_disk Incoming (Err JournalFault) = refl
own_disk way (Err NoMemory) = refl

is_other : (way other : Way) → other ≢ way → is_way way other ≡ false
is_other Outgoing Outgoing apart = absurd (apart refl)
is_other Outgoing Incoming apart = refl
is_other Incoming Outgoing apart = refl
is_other Incoming Incoming apart = absurd (apart refl)

other_disk : (way other : Way) (result : Result (Unit {0}) Stop) → other ≢ way
    → is_disk_end other (stop_in way result) ≡ false
other_disk way other (Ok tt) apart = refl
other_disk way other (Err WriteFault) apart = refl
other_disk way other (Err JournalFault) apart = is_other way other apart
other_disk way other (Err NoMemory) apart = refl

-- the origin of a way of a line
abbrev pub origin_by : {X Y : Type 0} → WayBox X → WayBox Y → Way → LineOrigin
    → (Way → List Tick) → WayOrigin
origin_by x y w origin early = record {
  made = made_on x y origin.setup;
  start = origin.start;
  read = origin.read;
  setup = origin.setup w;
  beside = early;
}

-- what a way has read
pub reads_on : {X Y P D : Type 0} (x : WayBox X) (y : WayBox Y) (p : Port P) (d : SlotDisk D)
    (line : LiveLine X Y) (port : P) (disks : BothDisks D) (w : Way) (origin : LineOrigin)
    (stream : List ℕ) → (stands : LineStands x y p d (line_at line port disks) origin stream)
    → WayReads (box_on x y w) p d w (reader_on line w) port (disk_on disks w)
    (origin_by x y w origin stands.early) (text_on w stream)
reads_on x y p d line port disks w origin stream stands = record {
  has_read = (stands.reads w).has_read;
  stands = record {
    makes = refl;
    early = stands.early;
    others = λ other apart. refl;
    handed = stands.handed;
    taken = (stands.reads w).taken;
  };
  count = (stands.reads w).count;
}

-- another way may take more, as before
pub ready_beside : {X Y P D : Type 0} (x : WayBox X) (y : WayBox Y) (p : Port P) (d : SlotDisk D)
    (line next : LiveLine X Y) (port port' : P) (disks disks' : BothDisks D) (w : Way)
    → ((way : Way) → way ≢ w → reader_on next way ≡ reader_on line way)
    → ((way : Way) → way ≢ w → disk_on disks' way ≡ disk_on disks way)
    → IsReadyLine x y p d (line_at line port disks) → (way : Way) → way ≢ w
    → IsReadyWay (box_on x y way) p d way (reader_on next way) port' (disk_on disks' way)
ready_beside x y p d line next port port' disks disks' w same same_disk ready way apart =
    let was_ready = ready way in
    subst (IsReadyWay (box_on x y way) p d way (reader_on next way) port')
    (sym (same_disk way apart))
    (subst (λ r. IsReadyWay (box_on x y way) p d way r port' (disk_on disks way))
    (sym (same way apart)) (record {
      able = record {
        may = was_ready.able.may;
        ahead = was_ready.able.ahead;
        stands = was_ready.able.stands;
      };
      counted = was_ready.counted;
      few = was_ready.few;
    }))

module _ {X Y P D : Type 0} (x : WayBox X) (y : WayBox Y) (p : Port P) (d : SlotDisk D)
    (only_now : (disk : D) (c : Slots) → d.left_since disk (d.moment disk) c → d.may_leave disk c)
    (line next : LiveLine X Y) (port port' : P) (disks disks' : BothDisks D) (w : Way)
    (same : (way : Way) → way ≢ w → reader_on next way ≡ reader_on line way)
    (same_disk : (way : Way) → way ≢ w → disk_on disks' way ≡ disk_on disks way) where
  abbrev before : LineAt X Y P D
  before = line_at line port disks

  abbrev after : LineAt X Y P D
  after = line_at next port' disks'

  -- what holds of the own way and of each other way holds of each
  each : (Of : Way → Type 0) → Of w → ((way : Way) → way ≢ w → Of way) → (way : Way) → Of way
  each Of own others way = elim (same_way w way) [
    | inl is ↦ subst Of (sym is) own
    | inr apart ↦ others way apart
  ]

  pub goes_on_way : (result : Result (Unit {0}) Stop) → WayWent (box_on x y w) p d w
      (way_at (reader_on line w) port (disk_on disks w))
      (way_at (reader_on next w) port' (disk_on disks' w)) result
      → LineGoes x y p d before after (stop_in w result)
  goes_on_way result went = record {
    images = each (λ way. KeepsImages d (kept_on line way) (kept_on next way) (disk_on disks way)
        (disk_on disks' way)) went.images (λ way apart.
        subst (λ disk. KeepsImages d (kept_on line way) (kept_on next way) (disk_on disks way) disk)
        (sym (same_disk way apart))
        (subst (λ (r : WayReader (BoxOn X Y way)). KeepsImages d (kept_on line way)
        (kept_in r.lines) (disk_on disks way) (disk_on disks way)) (sym (same way apart))
        (images_none d only_now (kept_on line way) (disk_on disks way))));
    disks = each (λ way. IsDiskCause (d.faults (disk_on disks way)) (d.faults (disk_on disks' way))
        (is_disk_end way (stop_in w result)))
        (subst (IsDiskCause (d.faults (disk_on disks w)) (d.faults (disk_on disks' w)))
        (sym (own_disk w result)) went.disk)
        (λ way apart. subst (λ disk. IsDiskCause (d.faults (disk_on disks way)) (d.faults disk)
        (is_disk_end way (stop_in w result))) (sym (same_disk way apart))
        (subst (IsDiskCause (d.faults (disk_on disks way)) (d.faults (disk_on disks way)))
        (sym (other_disk w way result apart)) (disk_none (d.faults (disk_on disks way)))));
    reads = record {
      never_falls = omega (arith, went.port.read_same);
      failed = λ e. absurd (no_true (no_read_in w result) e);
      same = λ e. went.port.read_same;
    };
    same = λ e. went.port.same (write_as w result ∙ e);
    failed = λ e. went.port.failed (write_as w result ∙ e);
  }

  pub way_taken : (byte : ℕ) → TakesByte (box_on x y w) p d w (reader_on line w) (reader_on next w)
      port port' (disk_on disks w) (disk_on disks' w) byte → IsReadyLine x y p d before
      → ((stream : List ℕ) → HasParted line.ways stream → AddsByte next.ways w stream byte)
      → TakesBytes x y p d before after (byte ∷ [])
  way_taken byte takes ready adds = record {
    ready = each (λ way. IsReadyWay (box_on x y way) p d way (reader_on next way) port'
        (disk_on disks' way)) takes.ready
        (ready_beside x y p d line next port port' disks disks' w same same_disk ready);
    goes = goes_on_way (Ok tt) takes.went;
    left = takes.went.port.left_same;
    takes = λ origin stream stands.
        let added = adds stream stands.parted in
        let reads = takes.takes (origin_by x y w origin stands.early) (text_on w stream)
        (reads_on x y p d line port disks w origin stream stands) in
        record {
          parted = added.parted;
          early = reads.stands.early;
          handed = reads.stands.handed;
          reads = each (λ way. WayHas (box_on x y way) (reader_on next way) (origin.setup way)
              (reads.stands.early way) (text_on way (stream ++ byte ∷ [])))
              (subst (WayHas (box_on x y w) (reader_on next w) (origin.setup w)
              (reads.stands.early w)) (sym added.own) (record {
                has_read = reads.has_read;
                taken = reads.stands.taken;
                count = reads.count;
              }))
              (λ way apart. subst (WayHas (box_on x y way) (reader_on next way) (origin.setup way)
              (reads.stands.early way)) (sym (added.others way apart))
              (subst (λ e. WayHas (box_on x y way) (reader_on next way) (origin.setup way) e
              (text_on way stream)) (sym (reads.stands.others way apart))
              (subst (λ r. WayHas (box_on x y way) r (origin.setup way) (stands.early way)
              (text_on way stream)) (sym (same way apart)) (stands.reads way))));
        };
  }
