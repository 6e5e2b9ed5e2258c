-- What a box has heard of a line if one read more was made.
use Rattle.{command_ends.proofs.KeyLemmas.prepend_known-twice, line_texts.specs.Sending.LineAndNotes}
use Rattle.link_box.specs.declared.box_trait.LinkBox.{Ghosts as LinkBox}
use Rattle.live_commands.proofs.Heard.{goes_none, goes_of_text, goes_then, takes_none}
use Rattle.live_commands.proofs.TextEndsLaws.{no_true}
use Rattle.live_commands.proofs.{Clear.all_handed, Clear.all_settled, Taken.nothing_more}
use Rattle.live_commands.specs.Filtering.{LiveOrigin, KeepsImages, IsClear, made_at}
use Rattle.live_commands.specs.FilteringLaws.{images_none}
use Rattle.live_commands.specs.LiveLine.{Live, live_of, outside_of, read_further, IsReady, LiveGoes}
use Rattle.live_commands.specs.LiveLine.{TakenAt, EndsAt, TakesBytes, EndsInBytes, Hears, HearsAll}
use Rattle.live_commands.specs.LiveLine.{FailsToHear, EndsHearing, HearAnswer, TakesPiece, EndsPiece}
use Rattle.live_commands.specs.declared.live_box.TheConstants.{MAX_LIVE_BYTES}
use Rattle.line_commands.proofs.Reading.{read_begins}
use Rattle.line_commands.specs.{History.History, Order.Handed, declared.lines.LineReader.LineReader}
use Rattle.line_commands.specs.declared.port.{Output.Output, Port.Ghosts as Port}
use Rattle.std.proofs.Common.{inr, ◌≡◌, ◌∙◌, ℕ, ◌+◌, ◌≤◌, List, [], ◌++◌, length, Option}
use Rattle.std.proofs.Common.{Some, None, Ok, Err, false, refl, sym, ap, subst, arith}
use Rattle.std.proofs.Common.{append-nil, append_assoc, length-append}
use Rattle.std.specs.Io.KnownBytes.{prepend_known, IsAtEnd}
use Rattle.tick_drive.proofs.Causes.{disk_none}
use Rattle.tick_drive.specs.{Input.is_read_fault, declared.end.End.End}
use Rattle.tick_drive.specs.declared.end.End.TheVariants.{Whole, Refused, TooLong, ReadFault}
use Rattle.tick_drive.specs.declared.end.{End.TheVariants.Stopped, TooMuch.TheVariants.Bytes}
use Rattle.yasir_io.specs.{Causes.HasCause, Disks.Slots}
use Rattle.yasir_io.specs.declared.{Failed.Failed, disk.SlotDisk.Ghosts as SlotDisk}
use Rattle.yasir_ticks.specs.{TickText.ended_items, Ticks.ticks_in}

prepend_then : (a c : List ℕ) (l m n : Option (List ℕ)) → l ≡ prepend_known a m
    → m ≡ prepend_known c n → l ≡ prepend_known (a ++ c) n
prepend_then a c l m n first then =
    first ∙ (ap (prepend_known a) then ∙ prepend_known-twice n a c)

prepend_none : (l : Option (List ℕ)) → l ≡ prepend_known [] l
prepend_none None = refl
prepend_none (Some xs) = refl

-- the same box and disk, with the port as it is after a read
abbrev pub behind_read : {B P D : Type 0} → Live B P D → P → Live B P D
behind_read at port = live_of at.live_box port at.disk

module _ {B P D : Type 0} (p : Port P) (d : SlotDisk D)
    (only_now : (disk : D) (c : Slots) → d.left_since disk (d.moment disk) c → d.may_leave disk c)
    (at : Live B P D) (port : P)
    (outputs : (to : Output) → p.write_faults port to ≡ p.write_faults at.port to) where
  images_read : KeepsImages p d (outside_of at) (outside_of (behind_read at port))
  images_read = let none = images_none p d only_now (outside_of at) in record {
    link = refl;
    most = refl;
    settles = none.settles;
    rises = none.rises;
    is_kept = none.is_kept;
    any_moment = none.any_moment;
  }

  pub goes_read : (n : ℕ) → HasCause {T = ℕ} {E = Failed} (p.read_faults at.port) (p.read_faults port) (Ok n)
      → LiveGoes p d at (behind_read at port) Whole
  goes_read n cause = record {
    images = images_read;
    disk = disk_none (d.faults at.disk);
    reads = record {
      never_falls = cause.never_falls;
      failed = λ e. cc;
      same = λ _. cause.same;
    };
    outputs = record { same = λ _. outputs; failed = λ e. cc };
  }

  pub goes_failed : (e : Failed) → HasCause {T = ℕ} (p.read_faults at.port) (p.read_faults port) (Err e)
      → LiveGoes p d at (behind_read at port) ReadFault
  goes_failed e cause = record {
    images = images_read;
    disk = disk_none (d.faults at.disk);
    reads = record {
      never_falls = cause.never_falls;
      failed = λ _. cause.failed;
      same = λ e. cc;
    };
    outputs = record { same = λ _. outputs; failed = λ e. cc };
  }

module _ {B N P D : Type 0} (b : LinkBox B N) (line_of : N → List ℕ) (p : Port P) (d : SlotDisk D)
  where
    -- ---- a read

    -- After a read its bytes are among those that were read, and the box has heard the same lines
    -- as before.
    read_taken : (lines : LineReader) (at : Live B P D) (port : P) (bytes : List ℕ)
        → IsClear at.live_box.lines (d.told at.disk)
        → ((made : LineAndNotes) (start : History) (read : List ℕ)
        → Handed made start (p.history at.port) read (ticks_in (ended_items read))
        → Handed made start (p.history port) (read ++ bytes) (ticks_in (ended_items read)))
        → (origin : LiveOrigin) → TakenAt b line_of p d lines at origin origin.read
        → TakenAt b line_of p d lines (behind_read at port) (read_further origin bytes) origin.read
    read_taken lines at port bytes clear handed origin has =
        let heard = has.heard in
        let filters = heard.filters in
        let made = made_at b line_of origin in
        let all = all_handed b line_of at.live_box.lines (d.told at.disk) (p.history at.port) origin
        (ticks_in heard.items) clear filters.over in
        record {
          has_read = has.has_read;
          heard = record {
            items = heard.items;
            are = heard.are;
            filters = record {
              stood = filters.stood;
              over = record {
                early = ticks_in heard.items;
                later = [];
                is = sym (append-nil (ticks_in heard.items));
                handed = subst (Handed made origin.start (p.history port) (origin.read ++ bytes))
                    (sym heard.are) (handed made origin.start origin.read
                    (subst (Handed made origin.start (p.history at.port) origin.read) heard.are
                    all));
                settled = all_settled b line_of at.live_box.lines (d.told at.disk) (p.history at.port) origin
                    (ticks_in heard.items) clear filters.stood;
                answer = [];
                note = [];
                noted = nothing_more made (ticks_in heard.items);
                waits = clear.waits;
              };
              link_is = filters.link_is;
              floor_told = filters.floor_told;
            };
          };
          count = has.count;
        }

    -- ---- reads, one after the other

    -- Holds if this many bytes were read, the box has heard their lines, and nothing waits.
    pub record HearsSo (old_lines now_lines : LineReader) (old now : Live B P D) (bytes : ℕ) :
        Type 0 where
      pub more : List ℕ
      pub heard : Hears b line_of p d old_lines now_lines old now Whole more
      pub ready : IsReady b line_of d now.live_box now.disk
      pub clear : IsClear now.live_box.lines (d.told now.disk)
      pub count : bytes ≡ length more

    pub hears_none : (lines : LineReader) (at : Live B P D)
        → ((disk : D) (c : Slots) → d.left_since disk (d.moment disk) c → d.may_leave disk c)
        → IsReady b line_of d at.live_box at.disk → IsClear at.live_box.lines (d.told at.disk)
        → HearsSo lines lines at at 0
    hears_none lines at only_now ready clear = record {
      more = [];
      heard = record {
        goes = goes_none p d only_now at;
        came = prepend_none (p.left at.port);
        hears = λ origin has.
            subst (λ read. TakenAt b line_of p d lines at (record origin { read = read }) read)
            (sym (append-nil origin.read)) has;
      };
      ready = ready;
      clear = clear;
      count = refl;
    }

    module _ (lines0 lines1 : LineReader) (old at : Live B P D) (bytes : ℕ)
        (so : HearsSo lines0 lines1 old at bytes) where
      -- If `MAX_LIVE_BYTES` bytes or more were read, the reading ends because they are too many.
      pub hears_too_much : MAX_LIVE_BYTES ≤ bytes
          → EndsHearing b line_of p d lines0 old at (TooLong Bytes bytes)
      hears_too_much above = record {
        more = so.more;
        goes = goes_of_text p d old at (TooLong Bytes bytes) tt so.heard.goes;
        came = so.heard.came;
        ends = λ origin has. record {
          front = origin.read ++ so.more;
          later = [];
          is = sym (append-nil (origin.read ++ so.more));
          begins = read_begins lines1 (origin.read ++ so.more) (so.heard.hears origin has).has_read;
          ends = record {
            many = inr (above, omega (arith, so.count, length-append origin.read so.more));
            heard = (so.heard.hears origin has).heard;
          };
        };
        clear = λ e. so.clear;
      }

      module _ (port : P) (piece : List ℕ)
          (handed : (made : LineAndNotes) (start : History) (read : List ℕ)
          → Handed made start (p.history at.port) read (ticks_in (ended_items read))
          → Handed made start (p.history port) (read ++ piece) (ticks_in (ended_items read)))
          (came : p.left at.port ≡ prepend_known piece (p.left port)) where
        abbrev mid : Live B P D
        mid = behind_read at port

        read_so : (origin : LiveOrigin) → TakenAt b line_of p d lines0 old origin origin.read
            → TakenAt b line_of p d lines1 mid
            (record origin { read = (origin.read ++ so.more) ++ piece }) (origin.read ++ so.more)
        read_so origin has = read_taken lines1 at port piece so.clear handed
            (read_further origin so.more)
            (so.heard.hears origin has)

        module _ (goes : LiveGoes p d at mid Whole) (lines2 : LineReader) (new : Live B P D) where
          hears_then : TakesBytes b line_of p d lines1 lines2 mid new piece
              → Hears b line_of p d lines0 lines2 old new Whole (so.more ++ piece)
          hears_then takes = record {
            goes = goes_then p d old at new Whole so.heard.goes
                (goes_then p d at mid new Whole goes takes.goes);
            came = prepend_then so.more piece (p.left old.port) (p.left at.port) (p.left new.port)
                so.heard.came (came ∙ ap (prepend_known piece) (sym takes.left));
            hears = λ origin has.
                subst (λ read. TakenAt b line_of p d lines2 new (record origin { read = read }) read)
                (append_assoc origin.read so.more piece)
                (takes.takes (record origin { read = (origin.read ++ so.more) ++ piece })
                (origin.read ++ so.more) (read_so origin has));
          }

          pub hears_more : (n : ℕ) → n ≡ length piece → (lent : List ℕ)
              → TakesPiece b line_of p d lines1 lines2 mid new lent → lent ≡ piece
              → HearsSo lines0 lines2 old new (bytes + n)
          hears_more n long lent took same = record {
            more = so.more ++ piece;
            heard = hears_then
                (subst (TakesBytes b line_of p d lines1 lines2 mid new) same took.takes);
            ready = took.takes.ready;
            clear = took.clear;
            count = omega (arith, so.count, length-append so.more piece, long);
          }

          pub hears_ended : (end : End) (lent : List ℕ)
              → EndsPiece b line_of p d lines1 mid new end lent → lent ≡ piece
              → EndsHearing b line_of p d lines0 old new end
          hears_ended end lent ended same =
              let ends = subst (EndsInBytes b line_of p d lines1 mid new end) same ended.ends in
              record {
                more = so.more ++ piece;
                goes = goes_then p d old at new end so.heard.goes
                    (goes_then p d at mid new end goes ends.goes);
                came = prepend_then so.more piece (p.left old.port) (p.left at.port) (p.left new.port)
                    so.heard.came (came ∙ ap (prepend_known piece) (sym ends.left));
                ends = λ origin has.
                    subst (λ read. EndsAt b line_of p d new end (record origin { read = read }) read)
                    (append_assoc origin.read so.more piece)
                    (ends.ends (record origin { read = (origin.read ++ so.more) ++ piece })
                    (origin.read ++ so.more) (read_so origin has));
                clear = ended.clear;
              }

        -- If a read gave no bytes, the input was read to its end.
        pub hears_all : ((disk : D) (c : Slots) → d.left_since disk (d.moment disk) c
            → d.may_leave disk c)
            → LiveGoes p d at mid Whole → piece ≡ [] → IsAtEnd (p.left port)
            → HearsAll b line_of p d lines0 lines1 old mid
        hears_all only_now goes none at_end = record {
          more = so.more ++ piece;
          heard = hears_then goes lines1 mid
              (subst (TakesBytes b line_of p d lines1 lines1 mid mid) (sym none)
              (takes_none b line_of p d lines1 mid only_now so.ready));
          ready = so.ready;
          clear = so.clear;
          at_end = at_end;
        }

      -- If a read failed, the reading ends with what was read before.
      pub hears_failed : (port : P)
          → ((made : LineAndNotes) (start : History) (read : List ℕ)
          → Handed made start (p.history at.port) read (ticks_in (ended_items read))
          → Handed made start (p.history port) read (ticks_in (ended_items read)))
          → p.left port ≡ p.left at.port → LiveGoes p d at (behind_read at port) ReadFault
          → FailsToHear b line_of p d lines0 lines1 old (behind_read at port)
      hears_failed port handed left goes = record {
        more = so.more;
        heard = record {
          goes = goes_then p d old at (behind_read at port) ReadFault so.heard.goes goes;
          came = so.heard.came ∙ ap (prepend_known so.more) (sym left);
          hears = λ origin has.
              subst (λ read. TakenAt b line_of p d lines1 (behind_read at port)
              (record origin { read = read }) (origin.read ++ so.more))
              (append-nil (origin.read ++ so.more))
              (read_taken lines1 at port [] so.clear (λ made start read before.
              subst (λ read_now. Handed made start (p.history port) read_now
              (ticks_in (ended_items read))) (sym (append-nil read)) (handed made start read before))
              (read_further origin so.more) (so.heard.hears origin has));
        };
        clear = so.clear;
      }

    -- What the result says of the reading, if the end isn't a failed read.
    pub hear_answer : (lines0 lines1 : LineReader) (old new : Live B P D) (end : End)
        → is_read_fault end ≡ false → EndsHearing b line_of p d lines0 old new end
        → HearAnswer b line_of p d lines0 lines1 old new (Err end)
    hear_answer lines0 lines1 old new ReadFault no_read ends = absurd (no_true no_read)
    hear_answer lines0 lines1 old new end no_read ends = ends
