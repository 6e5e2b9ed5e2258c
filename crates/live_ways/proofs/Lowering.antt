-- The floors of both disks are brought down behind a stream that has ended.
use Rattle.line_commands.specs.BoxLinesLaws.{floor_from_less}
use Rattle.link_format.specs.Setup.{Setup}
use Rattle.line_commands.specs.declared.port.Port.{Ghosts as Port}
use Rattle.live_line.proofs.HandingBoth.{same_way}
use Rattle.live_line.proofs.Running.{between_as}
use Rattle.live_line.specs.WayLines.{HasTakenOn, KeepsImages, Lowers, IsAhead, MayTake}
use Rattle.live_line.specs.WayLines.{kept_in, settled_in, floor_in, link_in, most_in, disk_in}
use Rattle.live_line.specs.declared.way_box.WayBox.{Ghosts as WayBox}
use Rattle.live_line.specs.declared.way_lines.WayLines.{WayLines}
use Rattle.live_line.specs.declared.ways.Way.{Way}
use Rattle.live_line.specs.declared.ways.Way.TheVariants.{Outgoing, Incoming}
use Rattle.live_ways.proofs.BothTaken.{no_true}
use Rattle.live_ways.proofs.Finishing.{within_by, last_by, within_stops, last_stops}
use Rattle.live_ways.proofs.HandedAs.{handed_as}
use Rattle.live_ways.proofs.PieceTaken.{goes_calm, of_stream}
use Rattle.live_ways.proofs.WayFaults.{told_between}
use Rattle.live_ways.specs.BothDisks.{disk_on}
use Rattle.live_ways.specs.Driving.{HearsStream, Drives, LowersBehind, FailsToLower}
use Rattle.live_ways.specs.Driving.{IsLevel, IsSameOn, LowersOn, MayLower}
use Rattle.live_ways.specs.Ends.{is_disk_end, is_lowered_end, is_read_end, is_stopped_end, is_way}
use Rattle.live_ways.specs.LiveLine.{LineAt, line_at, LineOrigin, LineGoes, HeardAt, HandedAt}
use Rattle.live_ways.specs.LiveLine.{HaltsAt}
use Rattle.live_ways.specs.LiveLine.{SettleFails, IsAbleLine, box_on, lines_on, kept_on}
use Rattle.live_ways.specs.LiveLine.{made_on, number_on, read_further}
use Rattle.live_ways.specs.WayEnds.{EndsReading, EndsWithin, EndsAtLast, closed}
use Rattle.live_ways.specs.declared.both_disks.BothDisks.{BothDisks}
use Rattle.live_ways.specs.declared.both_ways.LiveLine.{LiveLine}
use Rattle.live_ways.specs.declared.way_end.WayEnd.{WayEnd}
use Rattle.live_ways.specs.declared.way_end.WayEnd.TheVariants.{Whole, Refused, NoWay, TooLong}
use Rattle.live_ways.specs.declared.way_end.WayEnd.TheVariants.{TooManyBytes, ReadFault, Stopped}
use Rattle.sequence_journal.proofs.SlotLemmas.{if_some_weaker}
use Rattle.sequence_journal.specs.Ahead.{ahead_by, ahead_disk, ahead_floor, ahead_link}
use Rattle.sequence_journal.specs.Ahead.{ahead_number}
use Rattle.sequence_journal.specs.Journal.{HasFloorAtLeast, HasFloorFrom, IsCrashSafe}
use Rattle.sequence_journal.specs.Late.{HasFloorBetween}
use Rattle.sequence_journal.specs.declared.ahead.AheadJournal.{AheadJournal}
use Rattle.sequence_journal.specs.declared.journal.JournalFault.{JournalFault as Fault}
use Rattle.std.proofs.Common.{◌≡◌, ◌≢◌, ◌∙◌, ◌⊎◌, ℕ, ◌+◌, ◌≤◌, List, [], ◌++◌, IfSome, Result, Ok}
use Rattle.std.proofs.Common.{Err}
use Rattle.std.proofs.Common.{true, false, refl, ap, sym, subst, inl, inr, append-nil, arith}
use Rattle.std.proofs.Math.Nat.{le_refl}
use Rattle.std.specs.Io.KnownBytes.{IsAtEnd}
use Rattle.tick_drive.proofs.Causes.{disk_none, disk_then}
use Rattle.tick_drive.specs.Consumers.{IsDiskCause}
use Rattle.tick_drive.specs.declared.consumer.Stop.{Stop}
use Rattle.tick_drive.specs.declared.consumer.Stop.TheVariants.{JournalFault}
use Rattle.yasir_io.proofs.Moments.{leaves_then, leaves_weaker}
use Rattle.yasir_io.specs.Disks.{Slots, LeavesOnly}
use Rattle.yasir_io.specs.declared.disk.SlotDisk.{Ghosts as SlotDisk}
use Rattle.yasir_ticks.specs.declared.tick.Tick.{Tick}

-- ---- ends

pub goes_on_at : (end : WayEnd) → is_lowered_end end ≡ true → is_stopped_end end ≡ false
goes_on_at ReadFault e = cc
goes_on_at (Stopped way stop) e = cc
goes_on_at Whole e = refl
goes_on_at (Refused way bad) e = refl
goes_on_at (NoWay line) e = refl
goes_on_at (TooLong way what count) e = refl
goes_on_at (TooManyBytes count) e = refl

no_read_at : (end : WayEnd) → is_lowered_end end ≡ true → is_read_end end ≡ false
no_read_at ReadFault e = cc
no_read_at (Stopped way stop) e = cc
no_read_at Whole e = refl
no_read_at (Refused way bad) e = refl
no_read_at (NoWay line) e = refl
no_read_at (TooLong way what count) e = refl
no_read_at (TooManyBytes count) e = refl

module _ (Heard Then : (Way → List Tick) → Type 0)
    (Halts Stops : Way → Stop → (Way → List Tick) → Type 0) (rest : Way → ℕ) (at_end : Type 0)
    (stream : List ℕ) where
  module _ (then : (lines : Way → List Tick) → Heard lines → Then lines) where
    -- Behind a stream that no fault ended, something else holds of what was heard.
    by : (end : WayEnd) → is_stopped_end end ≡ false
        → EndsReading Heard Halts rest at_end end stream → is_read_end end ≡ false
        → EndsReading Then Stops rest at_end end stream
    by Whole calm (inl at) read = inl (within_by Heard Then Halts Stops Whole stream calm then at)
    by Whole calm (inr at) read =
        inr (at.0, last_by Heard Then Halts Stops rest Whole (closed stream) calm then at.1)
    by (Refused way bad) calm (inl at) read =
        inl (within_by Heard Then Halts Stops (Refused way bad) stream calm then at)
    by (Refused way bad) calm (inr at) read = inr (
      at.0,
      last_by Heard Then Halts Stops rest (Refused way bad) (closed stream) calm then at.1,
    )
    by (NoWay line) calm (inl at) read =
        inl (within_by Heard Then Halts Stops (NoWay line) stream calm then at)
    by (NoWay line) calm (inr at) read = inr (
      at.0,
      last_by Heard Then Halts Stops rest (NoWay line) (closed stream) calm then at.1,
    )
    by (TooLong way what count) calm (inl at) read =
        inl (within_by Heard Then Halts Stops (TooLong way what count) stream calm then at)
    by (TooLong way what count) calm (inr at) read = inr (
      at.0,
      last_by Heard Then Halts Stops rest (TooLong way what count) (closed stream) calm then at.1,
    )
    by (TooManyBytes count) calm (inl at) read =
        inl (within_by Heard Then Halts Stops (TooManyBytes count) stream calm then at)
    by (TooManyBytes count) calm (inr at) read = inr (
      at.0,
      last_by Heard Then Halts Stops rest (TooManyBytes count) (closed stream) calm then at.1,
    )
    by (Stopped way stop) calm at read = cc
    by ReadFault calm at read = cc

    pub reading_by : (end : WayEnd) → is_lowered_end end ≡ true
        → EndsReading Heard Halts rest at_end end stream
        → EndsReading Then Stops rest at_end end stream
    reading_by end lowered at = by end (goes_on_at end lowered) at (no_read_at end lowered)

  module _ (w : Way) (stop : Stop)
      (stops : (lines : Way → List Tick) → Heard lines → Stops w stop lines) where
    within : (end : WayEnd) → is_stopped_end end ≡ false
        → EndsWithin Heard Halts end stream
        → EndsReading Then Stops rest at_end (Stopped w stop) stream
    within end calm at = inl (within_stops Heard Then Halts Stops w stop stops end stream calm at)

    last : (end : WayEnd) → is_stopped_end end ≡ false → at_end
        → EndsAtLast Heard Halts rest end (closed stream)
        → EndsReading Then Stops rest at_end (Stopped w stop) stream
    last end calm ended at = inr (
      ended,
      last_stops Heard Then Halts Stops w stop stops rest end (closed stream) calm at,
    )

    -- Behind a stream that no fault ended, a way was stopped.
    pub reading_stops : (end : WayEnd) → is_lowered_end end ≡ true
        → EndsReading Heard Halts rest at_end end stream
        → EndsReading Then Stops rest at_end (Stopped w stop) stream
    reading_stops Whole e (inl at) = within Whole refl at
    reading_stops Whole e (inr at) = last Whole refl at.0 at.1
    reading_stops (Refused way bad) e (inl at) = within (Refused way bad) refl at
    reading_stops (Refused way bad) e (inr at) = last (Refused way bad) refl at.0 at.1
    reading_stops (NoWay line) e (inl at) = within (NoWay line) refl at
    reading_stops (NoWay line) e (inr at) = last (NoWay line) refl at.0 at.1
    reading_stops (TooLong way what count) e (inl at) = within (TooLong way what count) refl at
    reading_stops (TooLong way what count) e (inr at) = last (TooLong way what count) refl at.0 at.1
    reading_stops (TooManyBytes count) e (inl at) = within (TooManyBytes count) refl at
    reading_stops (TooManyBytes count) e (inr at) = last (TooManyBytes count) refl at.0 at.1
    reading_stops ReadFault e at = cc
    reading_stops (Stopped way other) e at = cc

-- ---- both ways by each

pub of_both : (Of : Way → Type 0) → Of Outgoing → Of Incoming → (way : Way) → Of way
of_both Of outgoing incoming Outgoing = outgoing
of_both Of outgoing incoming Incoming = incoming

-- what isn't the outgoing way is the incoming one
pub of_incoming : (Of : Way → Type 0) → Of Incoming → (way : Way) → way ≢ Outgoing → Of way
of_incoming Of incoming Outgoing apart = absurd (apart refl)
of_incoming Of incoming Incoming apart = incoming

pub of_outgoing : (Of : Way → Type 0) → Of Outgoing → (way : Way) → way ≢ Incoming → Of way
of_outgoing Of outgoing Outgoing apart = outgoing
of_outgoing Of outgoing Incoming apart = absurd (apart refl)

-- ---- one way

module _ {Z D : Type 0} (d : SlotDisk D) where
  -- The floor of a way's disk was brought down to the number for which it was settled, or towards
  -- it, or nothing was done.
  pub record ComesDown (old new : WayLines Z) (before now : D) : Type 0 where
    pub same : new ≡ record old { kept = kept_in new }
    pub number : settled_in new ≡ settled_in old
    pub link : link_in new ≡ link_in old
    pub most : most_in new ≡ most_in old
    pub not_below : settled_in old ≤ floor_in new
    pub is_kept : IsCrashSafe (disk_in old) (d.told before) (d.may_leave before)
        → IsCrashSafe (disk_in new) (d.told now) (d.may_leave now)
    pub any_moment : IsCrashSafe (disk_in old) (d.told before) (d.may_leave before)
        → LeavesOnly d.moment d.left_since before now
        (HasFloorAtLeast (link_in old) (settled_in old))

  pub down_by : (old new : WayLines Z) (before now : D) (result : Result (Unit {0}) Fault)
      → Lowers d old new before now result → ComesDown old new before now
  down_by old new before now result lowers = record {
    same = lowers.same;
    number = lowers.number;
    link = lowers.link;
    most = lowers.most;
    not_below = lowers.not_below;
    is_kept = lowers.is_kept;
    any_moment = lowers.any_moment;
  }

  pub down_none : ((disk : D) (c : Slots) → d.left_since disk (d.moment disk) c
      → d.may_leave disk c) → (lines : WayLines Z) (disk : D) → IsAhead lines
      → ComesDown lines lines disk disk
  down_none only_now lines disk ahead = record {
    same = refl;
    number = refl;
    link = refl;
    most = refl;
    not_below = ahead.covers;
    is_kept = λ safe. safe;
    any_moment = λ safe. record {
      later = le_refl _;
      each = λ c left. floor_from_less (link_in lines) (settled_in lines) (floor_in lines)
          ahead.covers c (safe.floors c (only_now disk c left));
      before = λ t c le left. inl left;
    };
  }

  -- What calls left of the images of a disk before, they leave with this too.
  pub images_down : (first : AheadJournal) (old new : WayLines Z) (start before now : D)
      → ahead_floor first ≡ ahead_number first → KeepsImages d first (kept_in old) start before
      → ComesDown old new before now → KeepsImages d first (kept_in new) start now
  images_down first old new start before now level kept down = record {
    link = down.link ∙ kept.link;
    most = down.most ∙ kept.most;
    settles = omega (arith, kept.settles, down.number);
    rises = omega (arith, level, kept.settles, down.not_below);
    is_kept = λ safe. down.is_kept (kept.is_kept safe);
    any_moment = λ safe. leaves_then d.moment d.left_since start before now _
        (kept.any_moment safe)
        (leaves_weaker d.moment d.left_since before now
        (HasFloorAtLeast (link_in old) (settled_in old)) (HasFloorFrom (ahead_disk first))
        (λ c has. floor_from_less (ahead_link first) (ahead_floor first) (settled_in old)
        (omega (arith, level, kept.settles)) c
        (subst (λ link. HasFloorAtLeast link (settled_in old) c) kept.link has))
        (down.any_moment (kept.is_kept safe)));
  }

module _ {Z D : Type 0} (z : WayBox Z) (d : SlotDisk D) (old new : WayLines Z) (before now : D)
    (down : ComesDown d old new before now) where
  pub taken_down : (setup : Setup) (early line : List Tick) → HasTakenOn z old setup early line
      → HasTakenOn z new setup early line
  taken_down setup early line taken = subst (λ lines. HasTakenOn z lines setup early line)
      (sym down.same) (record {
        stood = taken.stood;
        settled = down.number ∙ taken.settled;
        later = taken.later;
        is = taken.is;
        answer = taken.answer;
        note = taken.note;
        noted = taken.noted;
        waits = taken.waits;
      })

  pub may_down : MayTake z old → MayTake z new
  may_down may = subst (MayTake z) (sym down.same) (record {
    ready = may.ready;
    room = may.room;
    ended = may.ended;
    level = omega (arith, may.level, down.number);
  })

-- ---- both ways

module _ {X Y P D : Type 0} (x : WayBox X) (y : WayBox Y) (p : Port P) (d : SlotDisk D)
    (only_now : (disk : D) (c : Slots) → d.left_since disk (d.moment disk) c → d.may_leave disk c)
    (rest : Way → ℕ) (old : LineAt X Y P D) (line next : LiveLine X Y) (port : P)
    (disks disks' : BothDisks D) (level : IsLevel old.line) (end : WayEnd)
    (hears : HearsStream x y p d rest old (line_at line port disks) end)
    (lowered : is_lowered_end end ≡ true) where
  abbrev mid : LineAt X Y P D
  mid = line_at line port disks

  abbrev new : LineAt X Y P D
  new = line_at next port disks'

  abbrev DownOn : Way → Type 0
  DownOn way = ComesDown d (lines_on line way) (lines_on next way) (disk_on disks way)
      (disk_on disks' way)

  able : IsAbleLine x y p d mid
  able = hears.able (goes_on_at end lowered)

  goes_whole : LineGoes x y p d old mid Whole
  goes_whole = goes_calm x y p d old mid end Whole
      (of_stream end (goes_on_at end lowered) (no_read_at end lowered)) (of_stream Whole refl refl)
      hears.goes

  module _ (down : (way : Way) → DownOn way) where
    heard_down : (origin : LineOrigin) (lines : Way → List Tick) → HeardAt x y p d mid origin lines
        → HeardAt x y p d new origin lines
    heard_down origin lines heard = record {
      early = heard.early;
      handed = heard.handed;
      taken = λ way. taken_down (box_on x y way) d (lines_on line way) (lines_on next way)
          (disk_on disks way) (disk_on disks' way) (down way) (origin.setup way) (heard.early way)
          (lines way) (heard.taken way);
    }

    handed_down : (origin : LineOrigin) (lines : Way → List Tick)
        → HandedAt x y p d mid origin lines → HandedAt x y p d new origin lines
    unfolding heard_down
    handed_down origin lines handed =
        record { heard = heard_down origin lines handed.heard; all = handed.all }

    images : (way : Way) → KeepsImages d (kept_on old.line way) (kept_on next way)
        (disk_on old.disks way) (disk_on disks' way)
    images way = images_down d (kept_on old.line way) (lines_on line way) (lines_on next way)
        (disk_on old.disks way) (disk_on disks way) (disk_on disks' way) (level way)
        (goes_whole.images way) (down way)

  -- ---- both floors were brought down

  module _ (lowers : (way : Way) → LowersOn d line next disks disks' way (Ok tt)) where
    all_down : (way : Way) → DownOn way
    all_down way = down_by d (lines_on line way) (lines_on next way) (disk_on disks way)
        (disk_on disks' way) (Ok tt) (lowers way)

    able_down : IsAbleLine x y p d new
    able_down way = record {
      may = may_down (box_on x y way) d (lines_on line way) (lines_on next way) (disk_on disks way)
          (disk_on disks' way) (all_down way) (able way).may;
      ahead = record {
        covers = omega (arith, (lowers way).number, (lowers way).lowered);
        within = omega (arith, (lowers way).number, (lowers way).lowered);
      };
      stands = (lowers way).stands;
    }

    pub drives_down : Drives x y p d rest old new end
    drives_down = record {
      heard = record {
        stream = hears.stream;
        goes = record {
          images = images all_down;
          disks = λ way. subst (λ n. IsDiskCause (d.faults (disk_on old.disks way)) n
              (is_disk_end way end)) (sym (lowers way).cause.same) (hears.goes.disks way);
          reads = hears.goes.reads;
          same = hears.goes.same;
          failed = hears.goes.failed;
        };
        came = hears.came;
        able = λ e. able_down;
        ends = λ origin none clear.
            let further : LineOrigin = read_further origin hears.stream in
            reading_by (HandedAt x y p d mid further) (HandedAt x y p d new further)
            (HaltsAt x y p d mid further) (HaltsAt x y p d new further) rest
            (IsAtEnd (p.left port)) hears.stream (handed_down all_down further) end lowered
            (hears.ends origin none clear);
      };
      lowered = λ e way. (lowers way).lowered ∙ sym (lowers way).number;
    }

  -- ---- the disk of a way failed

  module _ (w : Way) (fails : FailsToLower d line next disks disks' w) where
    -- the floor of the other way's disk was brought down, or nothing of it has changed
    other_down : (way : Way)
        → LowersOn d line next disks disks' way (Ok tt) ⊎ IsSameOn d line next disks disks' way
        → DownOn way
    other_down way (inl lowers) = down_by d (lines_on line way) (lines_on next way)
        (disk_on disks way) (disk_on disks' way) (Ok tt) lowers
    other_down way (inr same) = subst (λ lines. ComesDown d (lines_on line way) lines
        (disk_on disks way) (disk_on disks' way)) (sym same.lines)
        (subst (ComesDown d (lines_on line way) (lines_on line way) (disk_on disks way))
        (sym same.disk) (down_none d only_now (lines_on line way) (disk_on disks way)
        (able way).ahead))

    each_down : (way : Way) → DownOn way
    each_down way = elim (same_way w way) [
      | inl is ↦ subst DownOn (sym is) (down_by d (lines_on line w) (lines_on next w)
          (disk_on disks w) (disk_on disks' w) (Err fails.fault) fails.lowers)
      | inr apart ↦ other_down way (fails.others way apart)
    ]

    own_cause : IsDiskCause (d.faults (disk_on disks w)) (d.faults (disk_on disks' w)) true
    own_cause = record {
      never_falls = fails.lowers.cause.never_falls;
      failed = λ e. fails.lowers.cause.failed;
      same = λ e. cc;
    }

    other_cause : (way : Way)
        → LowersOn d line next disks disks' way (Ok tt) ⊎ IsSameOn d line next disks disks' way
        → IsDiskCause (d.faults (disk_on disks way)) (d.faults (disk_on disks' way)) false
    other_cause way (inl lowers) = subst (λ n. IsDiskCause (d.faults (disk_on disks way)) n false)
        (sym lowers.cause.same) (disk_none (d.faults (disk_on disks way)))
    other_cause way (inr same) = subst (λ disk. IsDiskCause (d.faults (disk_on disks way))
        (d.faults disk) false) (sym same.disk) (disk_none (d.faults (disk_on disks way)))

    way_itself : (way : Way) → is_way way way ≡ true
    way_itself Outgoing = refl
    way_itself Incoming = refl

    another_way : (way other : Way) → other ≢ way → is_way way other ≡ false
    another_way Outgoing Outgoing apart = absurd (apart refl)
    another_way Outgoing Incoming apart = refl
    another_way Incoming Outgoing apart = refl
    another_way Incoming Incoming apart = absurd (apart refl)

    cause : (way : Way) → IsDiskCause (d.faults (disk_on old.disks way))
        (d.faults (disk_on disks' way)) (is_disk_end way (Stopped w JournalFault))
    cause way = disk_then (d.faults (disk_on old.disks way)) (d.faults (disk_on disks way))
        (d.faults (disk_on disks' way)) (is_way w way) (goes_whole.disks way)
        (elim (same_way w way) [
          | inl is ↦ subst (λ v. IsDiskCause (d.faults (disk_on disks v))
              (d.faults (disk_on disks' v)) (is_way w v)) (sym is)
              (subst (IsDiskCause (d.faults (disk_on disks w)) (d.faults (disk_on disks' w)))
              (sym (way_itself w)) own_cause)
          | inr apart ↦ subst (IsDiskCause (d.faults (disk_on disks way))
              (d.faults (disk_on disks' way))) (sym (another_way w way apart))
              (other_cause way (fails.others way apart))
        ])

    -- the floor of each disk, from the number for which it was settled
    floor_by : (way : Way)
        → LowersOn d line next disks disks' way (Ok tt) ⊎ IsSameOn d line next disks disks' way
        → IfSome (d.told (disk_on disks' way)) (HasFloorBetween (link_in (lines_on next way))
        (settled_in (lines_on line way))
        (settled_in (lines_on line way) + most_in (lines_on next way)))
    floor_by way (inl lowers) = told_between (link_in (lines_on next way))
        (settled_in (lines_on line way))
        (settled_in (lines_on line way) + most_in (lines_on next way))
        (floor_in (lines_on next way)) (omega (arith, lowers.lowered))
        (omega (arith, lowers.lowered)) (d.told (disk_on disks' way)) lowers.stands.fits.floor
    floor_by way (inr same) = subst (λ disk. IfSome (d.told disk)
        (HasFloorBetween (link_in (lines_on next way)) (settled_in (lines_on line way))
        (settled_in (lines_on line way) + most_in (lines_on next way)))) (sym same.disk)
        (subst (λ lines. IfSome (d.told (disk_on disks way)) (HasFloorBetween (link_in lines)
        (settled_in (lines_on line way)) (settled_in (lines_on line way) + most_in lines)))
        (sym same.lines) (told_between (link_in (lines_on line way)) (settled_in (lines_on line way))
        (settled_in (lines_on line way) + most_in (lines_on line way))
        (floor_in (lines_on line way)) (able way).ahead.covers (able way).ahead.within
        (d.told (disk_on disks way)) (able way).stands.fits.floor))

    own_floor : IfSome (d.told (disk_on disks' w)) (HasFloorBetween (link_in (lines_on next w))
        (settled_in (lines_on line w)) (settled_in (lines_on line w) + most_in (lines_on next w)))
    own_floor = if_some_weaker (HasFloorBetween (link_in (lines_on line w))
        (settled_in (lines_on line w)) (floor_in (lines_on line w)))
        (HasFloorBetween (link_in (lines_on next w)) (settled_in (lines_on line w))
        (settled_in (lines_on line w) + most_in (lines_on next w))) (d.told (disk_on disks' w))
        (λ slots has. between_as slots (link_in (lines_on line w)) (link_in (lines_on next w)) _ _ _
        _ fails.lowers.link (le_refl _) (omega (arith, (able w).ahead.within, fails.lowers.most))
        has) fails.lowers.failed

    floor_told : (way : Way) → IfSome (d.told (disk_on disks' way))
        (HasFloorBetween (link_in (lines_on next way)) (settled_in (lines_on line way))
        (settled_in (lines_on line way) + most_in (lines_on next way)))
    floor_told way = elim (same_way w way) [
      | inl is ↦ subst (λ v. IfSome (d.told (disk_on disks' v))
          (HasFloorBetween (link_in (lines_on next v)) (settled_in (lines_on line v))
          (settled_in (lines_on line v) + most_in (lines_on next v)))) (sym is) own_floor
      | inr apart ↦ floor_by way (fails.others way apart)
    ]

    -- All was handed on before.
    fails_then : (origin : LineOrigin) (lines : Way → List Tick)
        → HandedAt x y p d mid origin lines → SettleFails x y p d new origin lines
    fails_then origin lines handed =
        let settled : (way : Way) → settled_in (lines_on line way)
        ≡ number_on x y origin.setup way (lines way) =
        λ way. (handed.heard.taken way).settled ∙ ap (number_on x y origin.setup way) (handed.all way) in
        record {
          early = lines;
          later = λ way. [];
          more = λ way. [];
          all = λ way. append-nil (lines way ++ []) ∙ append-nil (lines way);
          handed = handed_as (made_on x y origin.setup) handed.heard.early lines handed.all
              origin.start (p.history port) origin.read handed.heard.handed;
          reached = λ way. omega (arith, settled way, (each_down way).not_below);
          floors = λ way. subst (λ l. IfSome (d.told (disk_on disks' way))
              (HasFloorBetween (ahead_link (kept_on next way))
              (number_on x y origin.setup way (lines way))
              (number_on x y origin.setup way l + ahead_by (kept_on next way))))
              (sym (append-nil (lines way)))
              (subst (λ n. IfSome (d.told (disk_on disks' way))
              (HasFloorBetween (ahead_link (kept_on next way)) n
              (n + ahead_by (kept_on next way)))) (settled way) (floor_told way));
        }

    pub drives_stopped : Drives x y p d rest old new (Stopped w JournalFault)
    drives_stopped = record {
      heard = record {
        stream = hears.stream;
        goes = record {
          images = images each_down;
          disks = cause;
          reads = record {
            never_falls = goes_whole.reads.never_falls;
            failed = λ e. cc;
            same = λ e. goes_whole.reads.same refl;
          };
          same = λ e. goes_whole.same refl;
          failed = λ e. cc;
        };
        came = hears.came;
        able = λ e. cc;
        ends = λ origin none clear.
            let further : LineOrigin = read_further origin hears.stream in
            reading_stops (HandedAt x y p d mid further) (HandedAt x y p d new further)
            (HaltsAt x y p d mid further) (HaltsAt x y p d new further) rest
            (IsAtEnd (p.left port)) hears.stream w JournalFault (fails_then further) end lowered
            (hears.ends origin none clear);
      };
      lowered = λ e. cc;
    }

-- ---- a stream that was driven to its end

module _ {X Y P D : Type 0} (x : WayBox X) (y : WayBox Y) (p : Port P) (d : SlotDisk D)
    (only_now : (disk : D) (c : Slots) → d.left_since disk (d.moment disk) c → d.may_leave disk c)
    (rest : Way → ℕ) (old : LineAt X Y P D) (line next : LiveLine X Y) (port : P)
    (disks disks' : BothDisks D) (level : IsLevel old.line) (end : WayEnd)
    (hears : HearsStream x y p d rest old (line_at line port disks) end) where
  drives_as_heard : is_lowered_end end ≡ false → Drives x y p d rest old (line_at line port disks) end
  drives_as_heard none = record { heard = hears; lowered = λ e. absurd (no_true none e) }

  -- what is done behind a stream that no fault ended
  drives_after : (result : WayEnd) → (lowered : is_lowered_end end ≡ true)
      → ((result ≡ end) × ((way : Way) → LowersOn d line next disks disks' way (Ok tt)))
      ⊎ ((w : Way) × ((result ≡ Stopped w JournalFault) × FailsToLower d line next disks disks' w))
      → Drives x y p d rest old (line_at next port disks') result
  drives_after result lowered (inl all) = subst (Drives x y p d rest old (line_at next port disks'))
      (sym all.0) (drives_down x y p d only_now rest old line next port disks disks' level end hears
      lowered all.1)
  drives_after result lowered (inr one) = subst (Drives x y p d rest old (line_at next port disks'))
      (sym one.1.0) (drives_stopped x y p d only_now rest old line next port disks disks' level end
      hears lowered one.0 one.1.1)

  pub drives_lowered : (result : WayEnd) → LowersBehind d line next disks disks' end result
      → Drives x y p d rest old (line_at next port disks') result
  drives_lowered result (inl none) =
      subst (λ e. Drives x y p d rest old (line_at next port disks') e) (sym none.3)
      (subst (λ at. Drives x y p d rest old (line_at next port at) end) (sym none.2)
      (subst (λ at. Drives x y p d rest old (line_at at port disks) end) (sym none.1)
      (drives_as_heard none.0)))
  drives_lowered result (inr after) = drives_after result after.goes_on after.answer

  -- the floors of the disks may be brought down, unless a fault ended the stream
  pub may_lower : is_lowered_end end ≡ true → (way : Way)
      → MayLower d (lines_on line way) (disk_on disks way)
  may_lower lowered way = let able = hears.able (goes_on_at end lowered) way in
      record { ahead = able.ahead; stands = able.stands }
