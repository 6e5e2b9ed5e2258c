-- How a stream of both ways ends, once what waits is handed on.
use Rattle.line_commands.specs.declared.port.Port.{Ghosts as Port}
use Rattle.live_line.specs.BothWays.{lines_in}
use Rattle.live_line.specs.declared.way_box.WayBox.{Ghosts as WayBox}
use Rattle.live_line.specs.declared.ways.Way.{Way}
use Rattle.live_ways.proofs.BytesTaken.{goes_then}
use Rattle.live_ways.proofs.Hearing.{clear_handed}
use Rattle.live_ways.proofs.BothTaken.{stream_begins}
use Rattle.live_ways.proofs.PieceTaken.{behind_by, heard_of, goes_calm, of_stream}
use Rattle.live_ways.specs.Driving.{TakesEnd, HearsStream}
use Rattle.live_ways.specs.Ends.{end_in, is_stopped_end, is_read_end}
use Rattle.live_ways.specs.LiveLine.{LineAt, LineOrigin, HeardAt, HandedAt, HaltsAt}
use Rattle.live_ways.specs.LiveLine.{LineGoes, HandsBoth, HandsBehind, StandsClear, HearsAll}
use Rattle.live_ways.specs.LiveLine.{FailsToHear, EndsHearing, HearAnswer, read_further}
use Rattle.live_ways.specs.LiveLine.{after_handing, EndsHanded}
use Rattle.live_ways.specs.WayEnds.{EndsWithin, EndsAtLast, EndsReading, closed}
use Rattle.live_ways.specs.declared.way_end.WayEnd.{WayEnd}
use Rattle.live_ways.specs.declared.way_end.WayEnd.TheVariants.{Whole, Refused, NoWay, TooLong}
use Rattle.live_ways.specs.declared.way_end.WayEnd.TheVariants.{TooManyBytes, ReadFault, Stopped}
use Rattle.std.proofs.Common.{◌≡◌, ◌∙◌, ℕ, List, [], ◌++◌, Ok, Err, Result, true, false, refl, ap}
use Rattle.std.proofs.Common.{sym}
use Rattle.std.proofs.Common.{subst, inl, inr}
use Rattle.std.specs.Io.KnownBytes.{prepend_known, IsAtEnd}
use Rattle.tick_drive.specs.declared.consumer.Stop.{Stop}
use Rattle.yasir_io.specs.declared.disk.SlotDisk.{Ghosts as SlotDisk}
use Rattle.yasir_ticks.specs.declared.tick.Tick.{Tick}

-- ---- ends, if something else holds of what was heard

module _ (Heard Then : (Way → List Tick) → Type 0)
    (Halts Stops : Way → Stop → (Way → List Tick) → Type 0) where
  pub within_by : (end : WayEnd) (stream : List ℕ) → is_stopped_end end ≡ false
      → ((lines : Way → List Tick) → Heard lines → Then lines)
      → EndsWithin Heard Halts end stream → EndsWithin Then Stops end stream
  within_by end stream calm then at = record {
    front = at.front;
    later = at.later;
    is = at.is;
    begins = at.begins;
    ends = behind_by Heard Then Halts Stops end at.front at.later calm then at.ends;
  }

  pub last_by : (rest : Way → ℕ) (end : WayEnd) (stream : List ℕ) → is_stopped_end end ≡ false
      → ((lines : Way → List Tick) → Heard lines → Then lines)
      → EndsAtLast Heard Halts rest end stream → EndsAtLast Then Stops rest end stream
  last_by rest Whole stream calm then at = record { right = at.right; holds = then _ at.holds }
  last_by rest (Refused way bad) stream calm then at = within_by (Refused way bad) stream calm then at
  last_by rest (NoWay line) stream calm then at = within_by (NoWay line) stream calm then at
  last_by rest (TooLong way what count) stream calm then at =
      within_by (TooLong way what count) stream calm then at
  last_by rest (TooManyBytes count) stream calm then at =
      within_by (TooManyBytes count) stream calm then at
  last_by rest ReadFault stream calm then at = within_by ReadFault stream calm then at
  last_by rest (Stopped way stop) stream calm then at = cc

  -- A way was stopped behind what was heard.
  module _ (w : Way) (stop : Stop)
      (stops : (lines : Way → List Tick) → Heard lines → Stops w stop lines) where
    pub within_stops : (end : WayEnd) (stream : List ℕ) → is_stopped_end end ≡ false
        → EndsWithin Heard Halts end stream → EndsWithin Then Stops (Stopped w stop) stream
    within_stops end stream calm at = record {
      front = at.front;
      later = at.later;
      is = at.is;
      begins = at.begins;
      ends = stops (lines_in at.front) (heard_of Heard Halts end at.front at.later calm at.ends);
    }

    pub last_stops : (rest : Way → ℕ) (end : WayEnd) (stream : List ℕ)
        → is_stopped_end end ≡ false → EndsAtLast Heard Halts rest end stream
        → EndsAtLast Then Stops rest (Stopped w stop) stream
    last_stops rest Whole stream calm at = inr (record {
      right = at.right;
      holds = stops _ at.holds;
    })
    last_stops rest (Refused way bad) stream calm at =
        inl (within_stops (Refused way bad) stream calm at)
    last_stops rest (NoWay line) stream calm at = inl (within_stops (NoWay line) stream calm at)
    last_stops rest (TooLong way what count) stream calm at =
        inl (within_stops (TooLong way what count) stream calm at)
    last_stops rest (TooManyBytes count) stream calm at =
        inl (within_stops (TooManyBytes count) stream calm at)
    last_stops rest ReadFault stream calm at = inl (within_stops ReadFault stream calm at)
    last_stops rest (Stopped way other) stream calm at = cc

-- If a way was stopped, it makes no difference what was heard.
module _ (Heard Then : (Way → List Tick) → Type 0)
    (Halts : Way → Stop → (Way → List Tick) → Type 0) where
  last_as : (rest : Way → ℕ) (end : WayEnd) (stream : List ℕ) → is_stopped_end end ≡ true
      → EndsAtLast Heard Halts rest end stream → EndsAtLast Then Halts rest end stream
  last_as rest (Stopped way stop) stream is (inl at) = inl (record {
    front = at.front;
    later = at.later;
    is = at.is;
    begins = at.begins;
    ends = at.ends;
  })
  last_as rest (Stopped way stop) stream is (inr at) =
      inr (record { right = at.right; holds = at.holds })
  last_as rest Whole stream is at = cc
  last_as rest (Refused way bad) stream is at = cc
  last_as rest (NoWay line) stream is at = cc
  last_as rest (TooLong way what count) stream is at = cc
  last_as rest (TooManyBytes count) stream is at = cc
  last_as rest ReadFault stream is at = cc

-- ---- what the end of a stream leaves

module _ {X Y P D : Type 0} (x : WayBox X) (y : WayBox Y) (p : Port P) (d : SlotDisk D) where
  module _ (rest : Way → ℕ) (old mid new : LineAt X Y P D) (end : WayEnd)
      (taken : TakesEnd x y p d rest (HeardAt x y p d mid) old mid end) where
    finishes : is_stopped_end end ≡ false → HandsBoth x y p d mid new (Ok tt)
        → TakesEnd x y p d rest (HandedAt x y p d new) old new end
    finishes calm hands =
        let of = of_stream end calm taken.no_read in
        let whole = of_stream Whole refl refl in
        record {
          goes = goes_calm x y p d old new Whole end whole of (goes_then x y p d old mid new Whole
              (goes_calm x y p d old mid end Whole of whole taken.goes) hands.goes);
          left = hands.left ∙ taken.left;
          no_read = taken.no_read;
          able = λ e. hands.able;
          ends = λ origin stream was. last_by (HeardAt x y p d mid origin)
              (HandedAt x y p d new origin) (HaltsAt x y p d mid origin) (HaltsAt x y p d new origin)
              rest end (closed stream) calm (hands.handed origin) (taken.ends origin stream was);
        }

    finish_stops : (stop : WayEnd) → is_stopped_end end ≡ false
        → HandsBoth x y p d mid new (Err stop)
        → TakesEnd x y p d rest (HandedAt x y p d new) old new stop
    finish_stops stop calm hands =
        let at = hands.stopped in
        let is : stop ≡ Stopped at.0 at.1.0 = at.1.1.0 in
        subst (TakesEnd x y p d rest (HandedAt x y p d new) old new) (sym is) (record {
          goes = goes_then x y p d old mid new (Stopped at.0 at.1.0)
              (goes_calm x y p d old mid end Whole (of_stream end calm taken.no_read)
              (of_stream Whole refl refl) taken.goes) (subst (LineGoes x y p d mid new) is hands.goes);
          left = hands.left ∙ taken.left;
          no_read = refl;
          able = λ e. cc;
          ends = λ origin stream was. last_stops (HeardAt x y p d mid origin)
              (HandedAt x y p d new origin) (HaltsAt x y p d mid origin) (HaltsAt x y p d new origin)
              at.0 at.1.0 (at.1.1.1 origin) rest end (closed stream) calm
              (taken.ends origin stream was);
        })

    finish_none : is_stopped_end end ≡ true
        → TakesEnd x y p d rest (HandedAt x y p d mid) old mid end
    finish_none is = record {
      goes = taken.goes;
      left = taken.left;
      no_read = taken.no_read;
      able = taken.able;
      ends = λ origin stream was. last_as (HeardAt x y p d mid origin) (HandedAt x y p d mid origin)
          (HaltsAt x y p d mid origin) rest end (closed stream) is (taken.ends origin stream was);
    }

  finish_after : (rest : Way → ℕ) (old mid new : LineAt X Y P D)
      (ended answer : Result (Unit {0}) WayEnd)
      → TakesEnd x y p d rest (HeardAt x y p d mid) old mid (end_in ended)
      → is_stopped_end (end_in ended) ≡ false → HandsBoth x y p d mid new answer
      → TakesEnd x y p d rest (HandedAt x y p d new) old new (end_in (after_handing ended answer))
  finish_after rest old mid new ended (Ok tt) taken calm hands =
      finishes rest old mid new (end_in ended) taken calm hands
  finish_after rest old mid new ended (Err stop) taken calm hands =
      finish_stops rest old mid new (end_in ended) taken stop calm hands

  pub finish_answer : (rest : Way → ℕ) (old mid new : LineAt X Y P D)
      (ended result : Result (Unit {0}) WayEnd)
      → TakesEnd x y p d rest (HeardAt x y p d mid) old mid (end_in ended)
      → HandsBehind x y p d mid new ended result
      → TakesEnd x y p d rest (HandedAt x y p d new) old new (end_in result)
  finish_answer rest old mid new ended result taken (inl none) =
      subst (λ r. TakesEnd x y p d rest (HandedAt x y p d new) old new (end_in r)) (sym none.2)
      (subst (λ at. TakesEnd x y p d rest (HandedAt x y p d at) old at (end_in ended))
      (sym none.1) (finish_none rest old mid mid (end_in ended) taken none.0))
  finish_answer rest old mid new ended result taken (inr after) =
      subst (λ r. TakesEnd x y p d rest (HandedAt x y p d new) old new (end_in r)) (sym after.is)
      (finish_after rest old mid new ended after.answer taken after.goes_on after.hands)

-- ---- a whole stream

-- what an end says inside a stream, it says of all that was read
reading_within : (Heard : (Way → List Tick) → Type 0)
    (Halts : Way → Stop → (Way → List Tick) → Type 0) (rest : Way → ℕ) (at_end : Type 0)
    (end : WayEnd) (stream : List ℕ) → is_read_end end ≡ false → EndsWithin Heard Halts end stream
    → EndsReading Heard Halts rest at_end end stream
reading_within Heard Halts rest at_end ReadFault stream calm at = cc
reading_within Heard Halts rest at_end Whole stream calm at = inl at
reading_within Heard Halts rest at_end (Refused way bad) stream calm at = inl at
reading_within Heard Halts rest at_end (NoWay line) stream calm at = inl at
reading_within Heard Halts rest at_end (TooLong way what count) stream calm at = inl at
reading_within Heard Halts rest at_end (TooManyBytes count) stream calm at = inl at
reading_within Heard Halts rest at_end (Stopped way stop) stream calm at = inl at

-- what an end says where the input ended, it says of all that was read
reading_last : (Heard : (Way → List Tick) → Type 0)
    (Halts : Way → Stop → (Way → List Tick) → Type 0) (rest : Way → ℕ) (at_end : Type 0)
    (end : WayEnd) (stream : List ℕ) → is_read_end end ≡ false → at_end
    → EndsAtLast Heard Halts rest end (closed stream) → EndsReading Heard Halts rest at_end end stream
reading_last Heard Halts rest at_end ReadFault stream calm ended at = cc
reading_last Heard Halts rest at_end Whole stream calm ended at = inr (ended, at)
reading_last Heard Halts rest at_end (Refused way bad) stream calm ended at = inr (ended, at)
reading_last Heard Halts rest at_end (NoWay line) stream calm ended at = inr (ended, at)
reading_last Heard Halts rest at_end (TooLong way what count) stream calm ended at =
    inr (ended, at)
reading_last Heard Halts rest at_end (TooManyBytes count) stream calm ended at = inr (ended, at)
reading_last Heard Halts rest at_end (Stopped way stop) stream calm ended at = inr (ended, at)

module _ {X Y P D : Type 0} (x : WayBox X) (y : WayBox Y) (p : Port P) (d : SlotDisk D)
    (rest : Way → ℕ) (old : LineAt X Y P D) where
  -- Nothing was read before, and all that was made of it is handed on.
  clear_at : (origin : LineOrigin) → origin.read ≡ [] → StandsClear x y p d old origin []
      → StandsClear x y p d old origin origin.read
  clear_at origin none clear = subst (StandsClear x y p d old origin) (sym none) clear

  -- The bytes that were read are all of the stream.
  all_read : (origin : LineOrigin) (more : List ℕ) → origin.read ≡ [] → origin.read ++ more ≡ more
  all_read origin more none = ap (λ l. l ++ more) none

  fails_hearing : (new : LineAt X Y P D) → FailsToHear x y p d old new
      → HearsStream x y p d rest old new ReadFault
  fails_hearing new fails = record {
    stream = fails.more;
    goes = fails.heard.goes;
    came = fails.heard.came;
    able = λ e way. (fails.ready way).able;
    ends = λ origin none clear.
        let further : LineOrigin = read_further origin fails.more in
        let now : StandsClear x y p d new further fails.more =
        subst (StandsClear x y p d new further) (all_read origin fails.more none)
        (fails.heard.hears origin (clear_at origin none clear)) in
        record {
          begins = stream_begins x y p d new further fails.more now.stands;
          heard = clear_handed x y p d new further fails.more now;
        };
  }

  ends_hearing : (new : LineAt X Y P D) (end : WayEnd) → is_read_end end ≡ false
      → EndsHearing x y p d old new end → HearsStream x y p d rest old new end
  ends_hearing new end calm ended = record {
    stream = ended.more;
    goes = ended.goes;
    came = ended.came;
    able = λ e way. (ended.ready e way).able;
    ends = λ origin none clear.
        let further : LineOrigin = read_further origin ended.more in
        reading_within (HandedAt x y p d new further) (HaltsAt x y p d new further) rest
        (IsAtEnd (p.left new.port)) end ended.more calm
        (subst (EndsHanded x y p d new end further) (all_read origin ended.more none)
        (ended.ends origin (clear_at origin none clear)));
  }

  pub stream_ended : (new : LineAt X Y P D) (end : WayEnd) → HearAnswer x y p d old new (Err end)
      → HearsStream x y p d rest old new end
  stream_ended new end (inl failed) = subst (HearsStream x y p d rest old new) (sym failed.0)
      (fails_hearing new failed.1)
  stream_ended new end (inr ended) = ends_hearing new end ended.0 ended.1

  pub stream_heard : (mid new : LineAt X Y P D) (end : WayEnd) → HearsAll x y p d old mid
      → TakesEnd x y p d rest (HandedAt x y p d new) mid new end
      → HearsStream x y p d rest old new end
  stream_heard mid new end heard finish = record {
    stream = heard.more;
    goes = goes_then x y p d old mid new end heard.heard.goes finish.goes;
    came = heard.heard.came ∙ ap (prepend_known heard.more) (sym finish.left);
    able = finish.able;
    ends = λ origin none clear.
        let further : LineOrigin = read_further origin heard.more in
        let now : StandsClear x y p d mid further heard.more =
        subst (StandsClear x y p d mid further) (all_read origin heard.more none)
        (heard.heard.hears origin (clear_at origin none clear)) in
        reading_last (HandedAt x y p d new further) (HaltsAt x y p d new further) rest
        (IsAtEnd (p.left new.port)) end heard.more finish.no_read
        (subst IsAtEnd (sym finish.left) heard.at_end)
        (finish.ends further heard.more now.stands);
  }
