-- What a box has heard of a line if one call more was made.
use Rattle.link_box.specs.declared.box_trait.LinkBox.{Ghosts as LinkBox}
use Rattle.live_commands.specs.AheadLines.{MayDrive}
use Rattle.live_commands.specs.Filtering.{LiveOrigin, GoesOn, filtering}
use Rattle.live_commands.specs.FilteringLaws.{images_none, images_then, outputs_none, outputs_then}
use Rattle.live_commands.specs.LiveLine.{Live, outside_of, IsReady, LiveGoes, HeardAt}
use Rattle.live_commands.specs.LiveLine.{TakenAt, EndsAt, Given, HoldsBack, StopsHearing, TakesBytes}
use Rattle.live_commands.specs.LiveLine.{EndsInBytes, TakesFirst, GiveAnswer}
use Rattle.line_commands.proofs.Reading.{read_begins}
use Rattle.line_commands.specs.Lines.{HasRead, ReadsLine, FeedAnswer, IsOfText}
use Rattle.line_commands.specs.declared.{lines.LineReader.LineReader, port.Port.Ghosts as Port}
use Rattle.std.proofs.Common.{inl, ◌≡◌, ◌∙◌, ℕ, suc, ◌+◌, ◌-◌, ◌<◌, ◌≤◌, List, [], ◌++◌}
use Rattle.std.proofs.Common.{length, take, drop, get_or, Ok, Err, false}
use Rattle.std.proofs.Common.{refl, sym, ap, subst, arith, append-nil, append_assoc, drop-cons}
use Rattle.std.proofs.{Common.length-append, Common.length-drop, lemmas.List.take-append-drop}
use Rattle.{std.proofs.lemmas.List.take_all, tick_drive.proofs.Causes.disk_none}
use Rattle.tick_drive.proofs.{Causes.disk_then, ItemLaws.ticks_in-append}
use Rattle.tick_drive.specs.Consumers.{Gives, is_journal_fault, is_write_fault}
use Rattle.tick_drive.specs.{Drive.drive_answer_of, Input.is_read_fault}
use Rattle.tick_drive.specs.declared.{consumer.Stop.Stop, end.End.End, end.End.TheVariants.Whole}
use Rattle.tick_drive.specs.declared.end.End.TheVariants.{Refused, TooLong, ReadFault, Stopped}
use Rattle.tick_drive.specs.declared.end.TooMuch.TheVariants.{Ticks, Bytes}
use Rattle.yasir_io.specs.{Disks.Slots, declared.disk.SlotDisk.Ghosts as SlotDisk}
use Rattle.yasir_ticks.specs.{TickText.BeginsTickText, TickText.ended_items, Ticks.Item, Ticks.ticks_in}
use Rattle.yasir_ticks.specs.declared.tick.Tick.{Tick}

-- ---- what calls do to the disk's images and to the counts of faults

module _ {B P D : Type 0} (p : Port P) (d : SlotDisk D) where
  pub goes_none : ((disk : D) (c : Slots) → d.left_since disk (d.moment disk) c → d.may_leave disk c)
      → (at : Live B P D) → LiveGoes p d at at Whole
  goes_none only_now at = record {
    images = images_none p d only_now (outside_of at);
    disk = disk_none (d.faults at.disk);
    reads = record { never_falls = omega arith; failed = λ e. cc; same = λ _. refl };
    outputs = outputs_none p at.port;
  }

  -- What holds of the disk's images and the counts of faults after calls that didn't fail also
  -- holds if the text ended them.
  pub goes_of_text : (old new : Live B P D) (end : End) → IsOfText end → LiveGoes p d old new Whole
      → LiveGoes p d old new end
  goes_of_text old new (Refused bad) of_text goes = record {
    images = goes.images;
    disk = goes.disk;
    reads = goes.reads;
    outputs = goes.outputs;
  }
  goes_of_text old new (TooLong what count) of_text goes = record {
    images = goes.images;
    disk = goes.disk;
    reads = goes.reads;
    outputs = goes.outputs;
  }
  goes_of_text old new end of_text goes = absurd of_text

  pub goes_given : (old new : Live B P D)
      → GoesOn p d (outside_of old) (outside_of new) (Ok tt) → LiveGoes p d old new Whole
  goes_given old new went = record {
    images = went.images;
    disk = went.disk;
    reads = record {
      never_falls = omega (arith, went.port.read_same);
      failed = λ e. cc;
      same = λ _. went.port.read_same;
    };
    outputs = went.port.outputs;
  }

  pub goes_stopped : (old new : Live B P D) (stop : Stop)
      → GoesOn p d (outside_of old) (outside_of new) (Err stop)
      → LiveGoes p d old new (Stopped stop)
  goes_stopped old new stop went = record {
    images = went.images;
    disk = went.disk;
    reads = record {
      never_falls = omega (arith, went.port.read_same);
      failed = λ e. cc;
      same = λ _. went.port.read_same;
    };
    outputs = went.port.outputs;
  }

  pub goes_then : (a b c : Live B P D) (end : End) → LiveGoes p d a b Whole → LiveGoes p d b c end
      → LiveGoes p d a c end
  goes_then a b c end first then = record {
    images = images_then p d (outside_of a) (outside_of b) (outside_of c) first.images then.images;
    disk = disk_then (d.faults a.disk) (d.faults b.disk) (d.faults c.disk)
        (is_journal_fault (drive_answer_of end)) first.disk then.disk;
    reads = record {
      never_falls = omega (arith, first.reads.never_falls, then.reads.never_falls);
      failed = λ e. rw (← first.reads.same refl) (then.reads.failed e);
      same = λ e. then.reads.same e ∙ first.reads.same refl;
    };
    outputs = outputs_then p a.port b.port c.port (is_write_fault (drive_answer_of end)) first.outputs
        then.outputs;
  }

module _ {B N P D : Type 0} (b : LinkBox B N) (line_of : N → List ℕ) (p : Port P) (d : SlotDisk D)
  where
    -- ---- a run

    pub heard_as : (at : Live B P D) (origin : LiveOrigin) (a c : List Tick) → a ≡ c
        → HeardAt b line_of p d at origin a → HeardAt b line_of p d at origin c
    heard_as at origin a c same = subst (HeardAt b line_of p d at origin) same

    pub heard_more : (old new : Live B P D) (run : List Item) (origin : LiveOrigin)
        (line : List Tick) → Given b line_of p d old new run → HeardAt b line_of p d old origin line
        → HeardAt b line_of p d new origin (line ++ ticks_in run)
    heard_more old new run origin line given heard = record {
      items = heard.items ++ run;
      are = ticks_in-append heard.items run ∙ ap (λ l. l ++ ticks_in run) heard.are;
      filters = given.gives.moved origin heard.items heard.filters;
    }

    -- If the box was stopped at a tick of a run, it was stopped at one of the ticks up to the end
    -- of that run.
    pub stops_hearing : (old new : Live B P D) (run : List Item) (stop : Stop)
        → Gives (filtering b line_of p d) (outside_of old) (outside_of new) run (Err stop)
        → (origin : LiveOrigin) (line : List Tick) → HeardAt b line_of p d old origin line
        → StopsHearing b line_of new.live_box.lines (p.history new.port) (d.told new.disk) stop
        origin (line ++ ticks_in run)
    stops_hearing old new run stop stops origin line heard =
        let n : ℕ = stops.stopped.place + 1 in
        let cut : ticks_in run ≡ ticks_in (take n run) ++ ticks_in (drop n run) =
        ap ticks_in (sym (take-append-drop n run)) ∙ ticks_in-append (take n run) (drop n run) in
        record {
          items = heard.items ++ take n run;
          more = ticks_in (drop n run);
          are = ap (λ l. l ++ ticks_in (drop n run)) (ticks_in-append heard.items (take n run))
              ∙ (append_assoc (ticks_in heard.items) (ticks_in (take n run))
              (ticks_in (drop n run))
              ∙ (ap (λ l. ticks_in heard.items ++ l) (sym cut)
              ∙ ap (λ l. l ++ ticks_in run) heard.are));
          stops = stops.stopped.at origin heard.items heard.filters;
        }

    -- ---- a line

    module _ (old_lines new_lines : LineReader) (old new : Live B P D) (bytes : List ℕ) (taken : ℕ)
        (items run : List Item) (alike : ticks_in run ≡ ticks_in items)
        (reads : (text : List ℕ) → HasRead old_lines text
        → ReadsLine new_lines text bytes taken items) where
      ended_by : (text : List ℕ) → HasRead old_lines text
          → ticks_in (ended_items (text ++ take taken bytes))
          ≡ ticks_in (ended_items text) ++ ticks_in run
      ended_by text has = ap ticks_in (reads text has).ended
          ∙ (ticks_in-append (ended_items text) items
          ∙ ap (λ l. ticks_in (ended_items text) ++ l) (sym alike))

      pub line_given : 0 < taken → taken ≤ length bytes → Given b line_of p d old new run
          → p.left new.port ≡ p.left old.port → LiveGoes p d old new Whole
          → TakesFirst b line_of p d old_lines new_lines old new bytes taken
      line_given some within given left goes = record {
        some = some;
        within = within;
        takes = record {
          ready = given.ready;
          goes = goes;
          left = left;
          takes = λ origin text has.
              let ended = ended_by text has.has_read in record {
                has_read = (reads text has.has_read).has_read;
                heard = heard_as new origin (ticks_in (ended_items text) ++ ticks_in run)
                    (ticks_in (ended_items (text ++ take taken bytes))) (sym ended)
                    (heard_more old new run origin (ticks_in (ended_items text)) given has.heard);
                count = omega (
                  arith,
                  given.count,
                  has.count,
                  ap length ended,
                  length-append (ticks_in (ended_items text)) (ticks_in run),
                );
              };
        };
      }

      whole_is : (text : List ℕ)
          → text ++ bytes ≡ (text ++ take taken bytes) ++ drop taken bytes
      whole_is text = ap (λ l. text ++ l) (sym (take-append-drop taken bytes))
          ∙ sym (append_assoc text (take taken bytes) (drop taken bytes))

      begins_line : (text : List ℕ) → HasRead old_lines text
          → BeginsTickText 0 (text ++ take taken bytes)
      begins_line text has = read_begins new_lines (text ++ take taken bytes) (reads text has).has_read

      -- If the ticks of the line are too many together with those before, the end says so.
      pub line_held : (count : ℕ) → HoldsBack b line_of p d old new run count
          → (origin : LiveOrigin) (text : List ℕ) → TakenAt b line_of p d old_lines old origin text
          → EndsAt b line_of p d new (TooLong Ticks count) origin (text ++ bytes)
      line_held count holds origin text has =
          let ended = ended_by text has.has_read in record {
            front = text ++ take taken bytes;
            later = drop taken bytes;
            is = whole_is text;
            begins = begins_line text has.has_read;
            ends = record {
              earlier = ended_items text;
              last = items;
              are = (reads text has.has_read).ended;
              heard = subst (λ at. HeardAt b line_of p d at origin (ticks_in (ended_items text)))
                  (sym holds.same) has.heard;
              sum = omega (
                arith,
                holds.sum,
                has.count,
                ap length ended,
                length-append (ticks_in (ended_items text)) (ticks_in run),
              );
              above = holds.above;
            };
          }

      -- If the box was stopped at a tick of the line, the end says so.
      pub line_stopped : (stop : Stop)
          → Gives (filtering b line_of p d) (outside_of old) (outside_of new) run (Err stop)
          → (origin : LiveOrigin) (text : List ℕ) → TakenAt b line_of p d old_lines old origin text
          → EndsAt b line_of p d new (Stopped stop) origin (text ++ bytes)
      line_stopped stop stops origin text has = record {
        front = text ++ take taken bytes;
        later = drop taken bytes;
        is = whole_is text;
        begins = begins_line text has.has_read;
        ends = subst (StopsHearing b line_of new.live_box.lines (p.history new.port)
            (d.told new.disk) stop origin) (sym (ended_by text has.has_read))
            (stops_hearing old new run stop stops origin (ticks_in (ended_items text)) has.heard);
      }

    -- If the reader refused the text or found a line too long, the end says so, and the box has
    -- taken the lines before.
    pub feed_ends : (old_lines new_lines : LineReader) (at : Live B P D) (bytes : List ℕ) (end : End)
        → ((text : List ℕ) → HasRead old_lines text → FeedAnswer new_lines text bytes (Err end))
        → (origin : LiveOrigin) (text : List ℕ) → TakenAt b line_of p d old_lines at origin text
        → EndsAt b line_of p d at end origin (text ++ bytes)
    feed_ends old_lines new_lines at bytes (Refused bad) answer origin text has =
        let refuses = answer text has.has_read in
        let n : ℕ = refuses.taken in record {
          front = text ++ take n bytes;
          later = drop n bytes;
          is = ap (λ l. text ++ l) (sym (take-append-drop n bytes))
              ∙ sym (append_assoc text (take n bytes) (drop n bytes));
          begins = refuses.refused.begins;
          ends = record {
            byte = get_or bytes n 0;
            rest = drop (suc n) bytes;
            is = drop-cons bytes n 0 refuses.within;
            refused = refuses.refused;
            line = refuses.line;
            why = refuses.why;
            heard = heard_as at origin (ticks_in (ended_items text))
                (ticks_in (ended_items (text ++ take n bytes))) (sym (ap ticks_in refuses.quiet))
                has.heard;
          };
        }
    feed_ends old_lines new_lines at bytes (TooLong Bytes count) answer origin text has =
        let long = answer text has.has_read in record {
          front = text;
          later = bytes;
          is = refl;
          begins = read_begins old_lines text has.has_read;
          ends = record { many = inl long; heard = has.heard };
        }
    feed_ends old_lines new_lines at bytes end answer origin text has =
        absurd (answer text has.has_read)

    no_read_of_text : (end : End) → IsOfText end → is_read_fault end ≡ false
    no_read_of_text (Refused bad) of_text = refl
    no_read_of_text (TooLong what count) of_text = refl
    no_read_of_text end of_text = absurd of_text

    pub feed_ended : (old_lines new_lines : LineReader) (at : Live B P D) (bytes : List ℕ) (end : End)
        → ((disk : D) (c : Slots) → d.left_since disk (d.moment disk) c → d.may_leave disk c)
        → IsReady b line_of d at.live_box at.disk → IsOfText end
        → ((text : List ℕ) → HasRead old_lines text → FeedAnswer new_lines text bytes (Err end))
        → EndsInBytes b line_of p d old_lines at at end bytes
    feed_ended old_lines new_lines at bytes end only_now ready of_text answer = record {
      goes = goes_of_text p d at at end of_text (goes_none p d only_now at);
      left = refl;
      no_read = no_read_of_text end of_text;
      able = λ e. ready.able;
      ends = feed_ends old_lines new_lines at bytes end answer;
    }

    -- What taking a line leaves, by how giving its ticks to the box ended.
    module _ (old_lines new_lines : LineReader) (old new : Live B P D) (bytes : List ℕ) (taken : ℕ)
        (items run : List Item) (alike : ticks_in run ≡ ticks_in items)
        (reads : (text : List ℕ) → HasRead old_lines text
        → ReadsLine new_lines text bytes taken items)
        (only_now : (disk : D) (c : Slots) → d.left_since disk (d.moment disk) c
        → d.may_leave disk c) (ready : IsReady b line_of d old.live_box old.disk) where
      pub line_ended : (end : End) → GiveAnswer b line_of p d old new run (Err end)
          → EndsInBytes b line_of p d old_lines old new end bytes
      line_ended (TooLong Ticks count) holds = record {
        goes = subst (λ at. LiveGoes p d old at (TooLong Ticks count)) (sym holds.same)
            (goes_of_text p d old old (TooLong Ticks count) tt (goes_none p d only_now old));
        left = ap (λ (at : Live B P D). p.left at.port) holds.same;
        no_read = refl;
        able = λ e. subst (λ (at : Live B P D). MayDrive b line_of at.live_box.lines (d.told at.disk))
            (sym holds.same) ready.able;
        ends = line_held old_lines new_lines old new bytes taken items run alike reads count holds;
      }
      line_ended (Stopped stop) stops = record {
        goes = goes_stopped p d old new stop stops.went;
        left = stops.went.port.left_same;
        no_read = refl;
        able = λ e. cc;
        ends = line_stopped old_lines new_lines old new bytes taken items run alike reads stop stops;
      }
      line_ended (TooLong Bytes count) none = absurd none
      line_ended end none = absurd none

      pub line_taken : 0 < taken → taken ≤ length bytes → Given b line_of p d old new run
          → TakesFirst b line_of p d old_lines new_lines old new bytes taken
      line_taken some within given = line_given old_lines new_lines old new bytes taken items run
          alike reads some within given given.gives.went.port.left_same
          (goes_given p d old new given.gives.went)

    -- ---- lines, one after the other

    pub takes_none : (lines : LineReader) (at : Live B P D)
        → ((disk : D) (c : Slots) → d.left_since disk (d.moment disk) c → d.may_leave disk c)
        → IsReady b line_of d at.live_box at.disk → TakesBytes b line_of p d lines lines at at []
    takes_none lines at only_now ready = record {
      ready = ready;
      goes = goes_none p d only_now at;
      left = refl;
      takes = λ origin text has. subst (TakenAt b line_of p d lines at origin)
          (sym (append-nil text)) has;
    }

    module _ (lines0 lines1 lines2 : LineReader) (a c e : Live B P D) (first second : List ℕ)
        (takes : TakesBytes b line_of p d lines0 lines1 a c first) where
      pub takes_then : TakesBytes b line_of p d lines1 lines2 c e second
          → TakesBytes b line_of p d lines0 lines2 a e (first ++ second)
      takes_then then = record {
        ready = then.ready;
        goes = goes_then p d a c e Whole takes.goes then.goes;
        left = then.left ∙ takes.left;
        takes = λ origin text has. subst (TakenAt b line_of p d lines2 e origin)
            (append_assoc text first second)
            (then.takes origin (text ++ first) (takes.takes origin text has));
      }

      pub ends_then : (end : End) → EndsInBytes b line_of p d lines1 c e end second
          → EndsInBytes b line_of p d lines0 a e end (first ++ second)
      ends_then end then = record {
        goes = goes_then p d a c e end takes.goes then.goes;
        left = then.left ∙ takes.left;
        no_read = then.no_read;
        able = then.able;
        ends = λ origin text has. subst (EndsAt b line_of p d e end origin)
            (append_assoc text first second)
            (then.ends origin (text ++ first) (takes.takes origin text has));
      }

    -- Holds if `rest` is what hasn't been taken of a piece, and all bytes of the piece before that
    -- were.
    pub record HasTakenSo (old_lines now_lines : LineReader) (old now : Live B P D)
        (piece rest : List ℕ) : Type 0 where
      pub done : List ℕ
      pub are : piece ≡ done ++ rest
      pub takes : TakesBytes b line_of p d old_lines now_lines old now done

    pub so_none : (lines : LineReader) (at : Live B P D) (piece : List ℕ)
        → ((disk : D) (c : Slots) → d.left_since disk (d.moment disk) c → d.may_leave disk c)
        → IsReady b line_of d at.live_box at.disk → HasTakenSo lines lines at at piece piece
    so_none lines at piece only_now ready =
        record { done = []; are = refl; takes = takes_none lines at only_now ready }

    module _ (lines0 lines1 lines2 : LineReader) (a c e : Live B P D) (piece rest : List ℕ)
        (so : HasTakenSo lines0 lines1 a c piece rest) where
      pub so_more : (taken : ℕ) → TakesFirst b line_of p d lines1 lines2 c e rest taken
          → HasTakenSo lines0 lines2 a e piece (take (length rest - taken) (drop taken rest))
      so_more taken more =
          subst (HasTakenSo lines0 lines2 a e piece) (sym (take_all (length rest - taken)
          (drop taken rest) (omega (arith, length-drop taken rest)))) (record {
            done = so.done ++ take taken rest;
            are = so.are ∙ (ap (λ l. so.done ++ l) (sym (take-append-drop taken rest))
                ∙ sym (append_assoc so.done (take taken rest) (drop taken rest)));
            takes = takes_then lines0 lines1 lines2 a c e so.done (take taken rest) so.takes
                more.takes;
          })

      pub so_ended : (end : End) → EndsInBytes b line_of p d lines1 c e end rest
          → EndsInBytes b line_of p d lines0 a e end piece
      so_ended end ends = subst (EndsInBytes b line_of p d lines0 a e end) (sym so.are)
          (ends_then lines0 lines1 lines2 a c e so.done rest so.takes end ends)

    pub so_all : (lines0 lines1 : LineReader) (a c : Live B P D) (piece rest : List ℕ)
        → HasTakenSo lines0 lines1 a c piece rest → rest ≡ []
        → TakesBytes b line_of p d lines0 lines1 a c piece
    so_all lines0 lines1 a c piece rest so none =
        subst (TakesBytes b line_of p d lines0 lines1 a c)
        (sym (so.are ∙ (ap (λ l. so.done ++ l) none ∙ append-nil so.done))) so.takes
