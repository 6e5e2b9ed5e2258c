-- What a box has heard of a whole line and of the silence after it.
use Rattle.link_box.specs.declared.box_trait.LinkBox.{Ghosts as LinkBox}
use Rattle.live_commands.proofs.Heard.{goes_none, goes_of_text, goes_given, goes_stopped, goes_then}
use Rattle.live_commands.proofs.Heard.{heard_as, heard_more, stops_hearing}
use Rattle.live_commands.proofs.TextEndsLaws.{no_true}
use Rattle.live_commands.specs.AheadLines.{MayDrive}
use Rattle.live_commands.specs.Filtering.{LiveOrigin, filtering}
use Rattle.live_commands.specs.LiveLine.{Live, outside_of, read_further, LiveGoes, StopsHearing}
use Rattle.live_commands.specs.LiveLine.{HeardAt, TakenAt, LastAt, Given, GiveAnswer}
use Rattle.live_commands.specs.LiveLine.{HearsAll, HearAnswer, HaltsAt, EndsAt, Finishes, HearsLine}
use Rattle.live_commands.specs.LiveLine.{IsReady, TakesLast}
use Rattle.live_commands.specs.TextEnds.{EndsText}
use Rattle.line_commands.proofs.Reading.{read_begins}
use Rattle.line_commands.specs.Lines.{HasRead, LinesFinishAnswer, IsOfText}
use Rattle.line_commands.specs.declared.{lines.LineReader.LineReader, port.Port.Ghosts as Port}
use Rattle.std.proofs.Common.{◌≡◌, ◌∙◌, ◌⊎◌, ℕ, List, [], ◌++◌, length}
use Rattle.std.proofs.Common.{Ok, Err, refl, sym, ap, subst, inl, inr, arith}
use Rattle.std.proofs.Common.{append_assoc, length-append}
use Rattle.std.specs.Io.KnownBytes.{prepend_known, IsAtEnd}
use Rattle.tick_drive.{proofs.ItemLaws.ticks_in-append, specs.Consumers.Gives}
use Rattle.tick_drive.specs.declared.{consumer.Stop.Stop, end.End.End, end.End.TheVariants.Whole}
use Rattle.tick_drive.specs.declared.end.End.TheVariants.{Refused, TooLong, ReadFault, Stopped}
use Rattle.tick_drive.specs.declared.end.TooMuch.TheVariants.{Ticks, Bytes}
use Rattle.yasir_io.specs.{Disks.Slots, declared.disk.SlotDisk.Ghosts as SlotDisk}
use Rattle.yasir_ticks.{proofs.TickRuns.ticks_in-run, specs.TickRun.run_items}
use Rattle.yasir_ticks.specs.TickText.{IsTickText, BeginsTickText, lines_of, ended_items}
use Rattle.yasir_ticks.specs.Ticks.{Item, ticks_in, silent}
use Rattle.yasir_ticks.specs.declared.{tick.Tick.Tick}
use Rattle.yasir_ticks.specs.declared.tick_run.TickRun.TheVariants.{Silence}

no_items : ended_items [] ≡ []
unfolding lines_of
no_items = refl

module _ {B N P D : Type 0} (b : LinkBox B N) (line_of : N → List ℕ) (p : Port P) (d : SlotDisk D)
  where
    -- ---- the text isn't a right one

    pub finish_refused : (lines : LineReader) (rest : ℕ) (at : Live B P D) (end : End)
        → ((disk : D) (c : Slots) → d.left_since disk (d.moment disk) c → d.may_leave disk c)
        → IsReady b line_of d at.live_box at.disk → IsOfText end
        → ((text : List ℕ) → HasRead lines text → LinesFinishAnswer text (Err end))
        → TakesLast b line_of p d lines rest at at end
    finish_refused lines rest at (Refused bad) only_now ready of_text answer = record {
      no_read = refl;
      able = λ e. ready.able;
      goes = goes_of_text p d at at (Refused bad) of_text (goes_none p d only_now at);
      left = refl;
      ends = λ origin text has. record { refused = answer text has.has_read; heard = has.heard };
    }
    finish_refused lines rest at (TooLong what count) only_now ready of_text answer = record {
      no_read = refl;
      able = λ e. ready.able;
      goes = goes_of_text p d at at (TooLong what count) of_text (goes_none p d only_now at);
      left = refl;
      ends = λ origin text has. absurd (answer text has.has_read);
    }
    finish_refused lines rest at end only_now ready of_text answer = absurd of_text

    longer : (at : Live B P D) (stop : Stop) (origin : LiveOrigin) (line more : List Tick)
        → StopsHearing b line_of at.live_box.lines (p.history at.port) (d.told at.disk) stop origin line
        → StopsHearing b line_of at.live_box.lines (p.history at.port) (d.told at.disk) stop origin
        (line ++ more)
    longer at stop origin line more stops = record {
      items = stops.items;
      more = stops.more ++ more;
      are = sym (append_assoc (ticks_in stops.items) stops.more more)
          ∙ ap (λ l. l ++ more) stops.are;
      stops = stops.stops;
    }

    -- ---- the last line of the text is given, and then silence

    module _ (lines : LineReader) (rest : ℕ) (old mid : Live B P D) (last run : List Item)
        (alike : ticks_in run ≡ ticks_in last)
        (right : (text : List ℕ) → HasRead lines text → IsTickText 0 text (ended_items text ++ last))
        (only_now : (disk : D) (c : Slots) → d.left_since disk (d.moment disk) c
        → d.may_leave disk c) (ready : IsReady b line_of d old.live_box old.disk) where
      all_ticks : (text : List ℕ) → ticks_in (ended_items text) ++ ticks_in run
          ≡ ticks_in (ended_items text ++ last)
      all_ticks text = ap (λ l. ticks_in (ended_items text) ++ l) alike
          ∙ sym (ticks_in-append (ended_items text) last)

      pub last_ended : (end : End) → GiveAnswer b line_of p d old mid run (Err end)
          → TakesLast b line_of p d lines rest old mid end
      last_ended (TooLong Ticks count) holds = record {
        goes = subst (λ at. LiveGoes p d old at (TooLong Ticks count)) (sym holds.same)
            (goes_of_text p d old old (TooLong Ticks count) tt (goes_none p d only_now old));
        left = ap (λ (at : Live B P D). p.left at.port) holds.same;
        no_read = refl;
        able = λ e. subst (λ (at : Live B P D). MayDrive b line_of at.live_box.lines (d.told at.disk))
            (sym holds.same) ready.able;
        ends = λ origin text has. record {
          items = ended_items text ++ last;
          right = right text has.has_read;
          holds = record {
            earlier = ended_items text;
            last = last;
            are = refl;
            heard = subst (λ at. HeardAt b line_of p d at origin (ticks_in (ended_items text)))
                (sym holds.same) has.heard;
            sum = omega (
              arith,
              holds.sum,
              has.count,
              ap length (all_ticks text),
              length-append (ticks_in (ended_items text)) (ticks_in run),
            );
            above = holds.above;
          };
        };
      }
      last_ended (Stopped stop) stops = record {
        goes = goes_stopped p d old mid stop stops.went;
        left = stops.went.port.left_same;
        no_read = refl;
        able = λ e. cc;
        ends = λ origin text has. record {
          items = ended_items text ++ last;
          right = right text has.has_read;
          holds = longer mid stop origin (ticks_in (ended_items text ++ last)) (silent rest)
              (subst (StopsHearing b line_of mid.live_box.lines (p.history mid.port)
              (d.told mid.disk) stop origin) (all_ticks text)
              (stops_hearing b line_of p d old mid run stop stops origin
              (ticks_in (ended_items text)) has.heard));
        };
      }
      last_ended (TooLong Bytes count) none = absurd none
      last_ended end none = absurd none

      module _ (given : Given b line_of p d old mid run) (new : Live B P D) where
        heard_last : (origin : LiveOrigin) (text : List ℕ) → TakenAt b line_of p d lines old origin text
            → HeardAt b line_of p d mid origin (ticks_in (ended_items text ++ last))
        heard_last origin text has =
            heard_as b line_of p d mid origin (ticks_in (ended_items text) ++ ticks_in run)
            (ticks_in (ended_items text ++ last)) (all_ticks text)
            (heard_more b line_of p d old mid run origin (ticks_in (ended_items text)) given has.heard)

        pub rest_stopped : (stop : Stop)
            → Gives (filtering b line_of p d) (outside_of mid) (outside_of new)
            (run_items (Silence rest)) (Err stop)
            → TakesLast b line_of p d lines rest old new (Stopped stop)
        rest_stopped stop stops = record {
          goes = goes_then p d old mid new (Stopped stop) (goes_given p d old mid given.gives.went)
              (goes_stopped p d mid new stop stops.went);
          left = stops.went.port.left_same ∙ given.gives.went.port.left_same;
          no_read = refl;
          able = λ e. cc;
          ends = λ origin text has. record {
            items = ended_items text ++ last;
            right = right text has.has_read;
            holds = subst (λ quiet. StopsHearing b line_of new.live_box.lines (p.history new.port)
                (d.told new.disk) stop origin (ticks_in (ended_items text ++ last) ++ quiet))
                (ticks_in-run (Silence rest))
                (stops_hearing b line_of p d mid new (run_items (Silence rest)) stop stops origin
                (ticks_in (ended_items text ++ last)) (heard_last origin text has));
          };
        }

        pub rest_given : Gives (filtering b line_of p d) (outside_of mid) (outside_of new)
            (run_items (Silence rest)) (Ok tt)
            → TakesLast b line_of p d lines rest old new Whole
        rest_given gives = record {
          goes = goes_then p d old mid new Whole (goes_given p d old mid given.gives.went)
              (goes_given p d mid new gives.went);
          left = gives.went.port.left_same ∙ given.gives.went.port.left_same;
          no_read = refl;
          able = λ e. gives.is_able;
          ends = λ origin text has.
              let heard = heard_last origin text has in
              let quiet : ticks_in (run_items (Silence rest)) ≡ silent rest =
              ticks_in-run (Silence rest) in record {
                items = ended_items text ++ last;
                right = right text has.has_read;
                holds = record {
                  items = heard.items ++ run_items (Silence rest);
                  are = ticks_in-append heard.items (run_items (Silence rest))
                      ∙ (ap (λ l. l ++ ticks_in (run_items (Silence rest))) heard.are
                      ∙ ap (λ l. ticks_in (ended_items text ++ last) ++ l) quiet);
                  filters = gives.moved origin heard.items heard.filters;
                };
              };
        }

    -- ---- the whole line

    module _ (lines : LineReader) (rest : ℕ) (old : Live B P D) (begun : HasRead lines []) where
      at_start : (origin : LiveOrigin) → old.live_box.ticks ≡ 0 → origin.read ≡ []
          → HeardAt b line_of p d old origin [] → TakenAt b line_of p d lines old origin origin.read
      at_start origin zero none heard =
          subst (TakenAt b line_of p d lines old origin) (sym none) (record {
            has_read = begun;
            heard = heard_as b line_of p d old origin [] (ticks_in (ended_items []))
                (sym (ap ticks_in no_items)) heard;
            count = zero ∙ sym (ap (λ l. length (ticks_in l)) no_items);
          })

      -- If the reading ended before the end of the input, the driving ended in the same way.
      pub hears_ended_line : (now : LineReader) (new : Live B P D) (end : End)
          → HearAnswer b line_of p d lines now old new (Err end)
          → HearsLine b line_of p d rest old new end
      hears_ended_line now new ReadFault fails = record {
        text = fails.more;
        came = fails.heard.came;
        goes = fails.heard.goes;
        clear = λ e. fails.clear;
        ends = λ origin zero none heard.
            let taken = fails.heard.hears origin (at_start origin zero none heard) in
            let all : origin.read ++ fails.more ≡ fails.more = ap (λ l. l ++ fails.more) none in
            record {
              begins = subst (BeginsTickText 0) all
                  (read_begins now (origin.read ++ fails.more) taken.has_read);
              heard = subst (λ read. HeardAt b line_of p d new (read_further origin fails.more)
                  (ticks_in (ended_items read))) all taken.heard;
            };
      }
      hears_ended_line now new Whole ends = record {
        text = ends.more;
        came = ends.came;
        goes = ends.goes;
        clear = ends.clear;
        ends = λ origin zero none heard. inl (subst (EndsAt b line_of p d new Whole
            (read_further origin ends.more)) (ap (λ l. l ++ ends.more) none)
            (ends.ends origin (at_start origin zero none heard)));
      }
      hears_ended_line now new end ends = record {
        text = ends.more;
        came = ends.came;
        goes = ends.goes;
        clear = ends.clear;
        ends = λ origin zero none heard. inl (subst (EndsAt b line_of p d new end
            (read_further origin ends.more)) (ap (λ l. l ++ ends.more) none)
            (ends.ends origin (at_start origin zero none heard)));
      }

      -- If the input was read to its end, the driving ended in the way in which the taking of that
      -- end and of the silence after it did.
      module _ (now : LineReader) (mid new : Live B P D)
          (all : HearsAll b line_of p d lines now old mid) where
        last_by : (end : End) → Finishes b line_of p d now rest mid new end
            → (origin : LiveOrigin) → old.live_box.ticks ≡ 0 → origin.read ≡ []
            → HeardAt b line_of p d old origin []
            → EndsAt b line_of p d new end (read_further origin all.more) all.more
            ⊎ (IsAtEnd (p.left new.port)
            × LastAt b line_of p d rest new end (read_further origin all.more) all.more)
        last_by end finishes origin zero none heard =
            elim (finishes.ends (read_further origin all.more) all.more
            (subst (TakenAt b line_of p d now mid (read_further origin all.more))
            (ap (λ l. l ++ all.more) none)
            (all.heard.hears origin (at_start origin zero none heard)))) [
              | inl within ↦ inl within
              | inr last ↦ inr (subst IsAtEnd (sym finishes.left) all.at_end, last)
            ]

        ends_by : (end : End) → Finishes b line_of p d now rest mid new end
            → (origin : LiveOrigin) → old.live_box.ticks ≡ 0 → origin.read ≡ []
            → HeardAt b line_of p d old origin []
            → EndsText (HeardAt b line_of p d new (read_further origin all.more))
            (HaltsAt b line_of p d new (read_further origin all.more)) rest
            (IsAtEnd (p.left new.port)) end all.more
        ends_by ReadFault finishes = absurd (no_true finishes.no_read)
        ends_by end finishes = last_by end finishes

        pub hears_finished_line : (end : End) → Finishes b line_of p d now rest mid new end
            → HearsLine b line_of p d rest old new end
        hears_finished_line end finishes = record {
          text = all.more;
          came = all.heard.came ∙ ap (prepend_known all.more) (sym finishes.left);
          goes = goes_then p d old mid new end all.heard.goes finishes.goes;
          clear = finishes.clear;
          ends = ends_by end finishes;
        }
