-- What is read of a stream, and handed on, piece by piece.
use Rattle.line_commands.specs.History.{History}
use Rattle.line_commands.specs.declared.{port.Output.Output, port.Port.Ghosts as Port}
use Rattle.line_texts.specs.Sending.{LineAndNotes}
use Rattle.live_commands.specs.declared.live_box.TheConstants.{MAX_LIVE_BYTES}
use Rattle.live_line.proofs.Running.{images_none}
use Rattle.live_line.specs.BothWays.{HandedBoth, lines_in}
use Rattle.live_line.specs.declared.way_box.WayBox.{Ghosts as WayBox}
use Rattle.live_line.specs.declared.ways.Way.{Way}
use Rattle.live_ways.proofs.BothTaken.{goes_same, stream_begins}
use Rattle.live_ways.proofs.BytesTaken.{goes_then}
use Rattle.live_ways.proofs.HandedAs.{handed_as}
use Rattle.live_ways.specs.BothDisks.{disk_on}
use Rattle.live_ways.specs.LiveLine.{LineAt, line_at, LineOrigin, LineGoes, StandsClear}
use Rattle.live_ways.specs.LiveLine.{Hears, HearsAll, FailsToHear, EndsHearing, HearAnswer}
use Rattle.live_ways.specs.LiveLine.{TakesPiece, EndsPiece, IsReadyLine, made_on, read_further}
use Rattle.live_ways.specs.LiveLine.{kept_on}
use Rattle.live_ways.specs.LiveLine.{EndsHanded, HandedAt}
use Rattle.live_ways.proofs.PieceTaken.{goes_calm, of_stream}
use Rattle.live_ways.specs.declared.way_end.WayEnd.{WayEnd}
use Rattle.live_ways.specs.declared.way_end.WayEnd.TheVariants.{Whole}
use Rattle.live_ways.specs.declared.way_end.WayEnd.TheVariants.{TooManyBytes, ReadFault}
use Rattle.std.proofs.Common.{◌≡◌, ◌∙◌, ℕ, ◌+◌, ◌≤◌, List, [], ◌++◌, length, Option, Some, None, Ok}
use Rattle.std.proofs.Common.{Err}
use Rattle.std.proofs.Common.{inr, refl, ap, sym, subst, arith, append-nil, append_assoc}
use Rattle.std.proofs.Common.{length-append}
use Rattle.std.specs.Io.KnownBytes.{prepend_known, IsAtEnd}
use Rattle.tick_drive.proofs.Causes.{disk_none}
use Rattle.yasir_io.specs.Causes.{HasCause}
use Rattle.yasir_io.specs.Disks.{Slots}
use Rattle.yasir_io.specs.declared.{Failed.Failed, disk.SlotDisk.Ghosts as SlotDisk}

prepend_then : (a c : List ℕ) (l m n : Option (List ℕ)) → l ≡ prepend_known a m
    → m ≡ prepend_known c n → l ≡ prepend_known (a ++ c) n
prepend_then a c l m n first then =
    first ∙ (ap (prepend_known a) then ∙ twice n)
  where
    twice : (n : Option (List ℕ)) → prepend_known a (prepend_known c n) ≡ prepend_known (a ++ c) n
    twice None = refl
    twice (Some xs) = ap Some (sym (append_assoc a c xs))

prepend_none : (l : Option (List ℕ)) → l ≡ prepend_known [] l
prepend_none None = refl
prepend_none (Some xs) = refl

-- the same line and disks, with the port as it is after a read
abbrev pub behind_read : {X Y P D : Type 0} → LineAt X Y P D → P → LineAt X Y P D
behind_read at port = line_at at.line port at.disks

module _ {X Y P D : Type 0} (x : WayBox X) (y : WayBox Y) (p : Port P) (d : SlotDisk D)
    (only_now : (disk : D) (c : Slots) → d.left_since disk (d.moment disk) c → d.may_leave disk c)
    (at : LineAt X Y P D) (port : P)
    (outputs : (to : Output) → p.write_faults port to ≡ p.write_faults at.port to) where
  pub goes_read : (n : ℕ) → HasCause {T = ℕ} {E = Failed} (p.read_faults at.port)
      (p.read_faults port) (Ok n) → LineGoes x y p d at (behind_read at port) Whole
  goes_read n cause = record {
    images = λ way. images_none d only_now (kept_on at.line way) (disk_on at.disks way);
    disks = λ way. disk_none (d.faults (disk_on at.disks way));
    reads = record {
      never_falls = cause.never_falls;
      failed = λ e. cc;
      same = λ _. cause.same;
    };
    same = λ _. outputs;
    failed = λ e. cc;
  }

  pub goes_failed : (e : Failed) → HasCause {T = ℕ} (p.read_faults at.port) (p.read_faults port)
      (Err e) → LineGoes x y p d at (behind_read at port) ReadFault
  goes_failed e cause = record {
    images = λ way. images_none d only_now (kept_on at.line way) (disk_on at.disks way);
    disks = λ way. disk_none (d.faults (disk_on at.disks way));
    reads = record {
      never_falls = cause.never_falls;
      failed = λ _. cause.failed;
      same = λ e. cc;
    };
    same = λ _. outputs;
    failed = λ e. cc;
  }

module _ {X Y P D : Type 0} (x : WayBox X) (y : WayBox Y) (p : Port P) (d : SlotDisk D) where
  -- After a read its bytes are among those that were read, and the same lines were heard as before.
  read_clear : (at : LineAt X Y P D) (port : P) (bytes : List ℕ)
      → ((made : Way → LineAndNotes) (start : History) (read : List ℕ)
      → HandedBoth made start (p.history at.port) read (lines_in read)
      → HandedBoth made start (p.history port) (read ++ bytes) (lines_in read))
      → (origin : LineOrigin) → StandsClear x y p d at origin origin.read
      → StandsClear x y p d (behind_read at port) (read_further origin bytes) origin.read
  read_clear at port bytes handed origin clear = record {
    stands = record {
      parted = clear.stands.parted;
      early = clear.stands.early;
      handed = handed_as (made_on x y origin.setup) (lines_in origin.read) clear.stands.early
          (λ way. sym (clear.all way)) origin.start (p.history port) (origin.read ++ bytes)
          (handed (made_on x y origin.setup) origin.start origin.read
          (handed_as (made_on x y origin.setup) clear.stands.early (lines_in origin.read) clear.all
          origin.start (p.history at.port) origin.read clear.stands.handed));
      reads = clear.stands.reads;
    };
    all = clear.all;
  }

  -- What was read, and is handed on, of the lines that have ended.
  pub clear_handed : (at : LineAt X Y P D) (origin : LineOrigin) (stream : List ℕ)
      → StandsClear x y p d at origin stream → HandedAt x y p d at origin (lines_in stream)
  clear_handed at origin stream clear = record {
    heard = record {
      early = clear.stands.early;
      handed = clear.stands.handed;
      taken = λ way. (clear.stands.reads way).taken;
    };
    all = clear.all;
  }

  -- A read leaves both ways as they were.
  pub ready_read : (at : LineAt X Y P D) (port : P) → IsReadyLine x y p d at
      → IsReadyLine x y p d (behind_read at port)
  ready_read at port ready way = let was = ready way in record {
    able = record { may = was.able.may; ahead = was.able.ahead; stands = was.able.stands };
    counted = was.counted;
    few = was.few;
  }

  -- ---- reads, one after the other

  -- Some bytes were read, as many as are counted, and what was made of their lines is handed on.
  pub record HearsSo (old now : LineAt X Y P D) (bytes : ℕ) : Type 0 where
    pub more : List ℕ
    pub long : bytes ≡ length more
    pub ready : IsReadyLine x y p d now
    pub hears : Hears x y p d old now Whole more

  pub hears_none : ((disk : D) (c : Slots) → d.left_since disk (d.moment disk) c
      → d.may_leave disk c) → (at : LineAt X Y P D) → IsReadyLine x y p d at → HearsSo at at 0
  hears_none only_now at ready = record {
    more = [];
    long = refl;
    ready = ready;
    hears = record {
      goes = goes_same x y p d only_now at.line at.line at.port at.disks (λ way. refl) Whole
          (record { no_disk = λ way. refl; no_read = refl; no_write = refl });
      came = prepend_none (p.left at.port);
      hears = λ origin clear. subst (λ read. StandsClear x y p d at (record origin { read = read })
          read) (sym (append-nil origin.read)) clear;
    };
  }

  module _ (old now : LineAt X Y P D) (bytes : ℕ) (so : HearsSo old now bytes) (port : P) where
    pub hears_failed : ((made : Way → LineAndNotes) (start : History) (read : List ℕ)
        → HandedBoth made start (p.history now.port) read (lines_in read)
        → HandedBoth made start (p.history port) read (lines_in read))
        → p.left port ≡ p.left now.port → LineGoes x y p d now (behind_read now port) ReadFault
        → FailsToHear x y p d old (behind_read now port)
    hears_failed handed left goes = record {
      more = so.more;
      heard = record {
        goes = goes_then x y p d old now (behind_read now port) ReadFault so.hears.goes goes;
        came = so.hears.came ∙ ap (prepend_known so.more) (sym left);
        hears = λ origin clear.
            let was = so.hears.hears origin clear in
            let read : List ℕ = origin.read ++ so.more in
            record {
              stands = record {
                parted = was.stands.parted;
                early = was.stands.early;
                handed = handed_as (made_on x y origin.setup) (lines_in read) was.stands.early
                    (λ way. sym (was.all way)) origin.start (p.history port) read
                    (handed (made_on x y origin.setup) origin.start read
                    (handed_as (made_on x y origin.setup) was.stands.early (lines_in read) was.all
                    origin.start (p.history now.port) read was.stands.handed));
                reads = was.stands.reads;
              };
              all = was.all;
            };
      };
      ready = (ready_read now port so.ready);
    }

    module _ (read : List ℕ)
        (handed : (made : Way → LineAndNotes) (start : History) (before : List ℕ)
        → HandedBoth made start (p.history now.port) before (lines_in before)
        → HandedBoth made start (p.history port) (before ++ read) (lines_in before))
        (left : p.left now.port ≡ prepend_known read (p.left port))
        (goes : LineGoes x y p d now (behind_read now port) Whole) where
      pub stands_read : (origin : LineOrigin) → StandsClear x y p d old origin origin.read
          → StandsClear x y p d (behind_read now port)
          (read_further (read_further origin so.more) read) (origin.read ++ so.more)
      stands_read origin clear = read_clear now port read handed (read_further origin so.more)
          (so.hears.hears origin clear)

      came_on : (next : LineAt X Y P D) → p.left next.port ≡ p.left port
          → p.left old.port ≡ prepend_known (so.more ++ read) (p.left next.port)
      came_on next same = prepend_then so.more read (p.left old.port) (p.left now.port)
          (p.left next.port) so.hears.came (left ∙ ap (prepend_known read) (sym same))

      further : (origin : LineOrigin) → read_further (read_further origin so.more) read
          ≡ read_further origin (so.more ++ read)
      further origin = ap (λ r. record origin { read = r }) (append_assoc origin.read so.more read)

      pub hears_more : (next : LineAt X Y P D) (count : ℕ) → count ≡ length read
          → TakesPiece x y p d (behind_read now port) next read → HearsSo old next (bytes + count)
      hears_more next count long piece = record {
        more = so.more ++ read;
        long = omega (arith, so.long, long, length-append so.more read);
        ready = piece.ready;
        hears = record {
          goes = goes_then x y p d old now next Whole so.hears.goes
              (goes_then x y p d now (behind_read now port) next Whole goes piece.goes);
          came = came_on next piece.left;
          hears = λ origin clear. subst (λ o. StandsClear x y p d next o
              (origin.read ++ (so.more ++ read))) (further origin)
              (subst (StandsClear x y p d next (read_further (read_further origin so.more) read))
              (append_assoc origin.read so.more read)
              (piece.takes (read_further (read_further origin so.more) read)
              (origin.read ++ so.more) (stands_read origin clear).stands));
        };
      }

      pub hears_ended : (next : LineAt X Y P D) (end : WayEnd)
          → EndsPiece x y p d (behind_read now port) next end read
          → EndsHearing x y p d old next end
      hears_ended next end piece = record {
        more = so.more ++ read;
        goes = goes_then x y p d old now next end so.hears.goes
            (goes_then x y p d now (behind_read now port) next end goes piece.goes);
        came = came_on next piece.left;
        ready = piece.ready;
        ends = λ origin clear. subst (λ o. EndsHanded x y p d next end o
            (origin.read ++ (so.more ++ read))) (further origin)
            (subst (EndsHanded x y p d next end (read_further (read_further origin so.more) read))
            (append_assoc origin.read so.more read)
            (piece.ends (read_further (read_further origin so.more) read)
            (origin.read ++ so.more) (stands_read origin clear).stands));
      }

      -- the input has ended
      pub hears_all : read ≡ [] → IsAtEnd (p.left port)
          → HearsAll x y p d old (behind_read now port)
      hears_all none at_end = record {
        more = so.more;
        heard = record {
          goes = goes_then x y p d old now (behind_read now port) Whole so.hears.goes goes;
          came = so.hears.came ∙ (ap (prepend_known so.more) left
              ∙ (ap (λ r. prepend_known so.more (prepend_known r (p.left port))) none
              ∙ ap (prepend_known so.more) (sym (prepend_none (p.left port)))));
          hears = λ origin clear. subst (λ r. StandsClear x y p d (behind_read now port)
              (record origin { read = r }) (origin.read ++ so.more))
              (append-nil (origin.read ++ so.more))
              (subst (λ r. StandsClear x y p d (behind_read now port)
              (read_further (read_further origin so.more) r) (origin.read ++ so.more)) none
              (stands_read origin clear));
        };
        ready = (ready_read now port so.ready);
        at_end = at_end;
      }

  -- so many bytes were read that nothing more is
  pub hears_too_much : (old now : LineAt X Y P D) (bytes : ℕ) → HearsSo old now bytes
      → MAX_LIVE_BYTES ≤ bytes → HearAnswer x y p d old now (Err (TooManyBytes bytes))
  hears_too_much old now bytes so above = inr (
    refl,
    record {
      more = so.more;
      goes = goes_calm x y p d old now Whole (TooManyBytes bytes) (of_stream Whole refl refl)
          (of_stream (TooManyBytes bytes) refl refl) so.hears.goes;
      came = so.hears.came;
      ready = λ e. so.ready;
      ends = λ origin clear.
          let was = so.hears.hears origin clear in
          let stream : List ℕ = origin.read ++ so.more in
          record {
            front = stream;
            later = [];
            is = sym (append-nil stream);
            begins = stream_begins x y p d now (read_further origin so.more) stream was.stands;
            ends = record {
              above = above;
              sum = omega (arith, so.long, length-append origin.read so.more);
              heard = clear_handed now (read_further origin so.more) stream was;
            };
          };
    },
  )
