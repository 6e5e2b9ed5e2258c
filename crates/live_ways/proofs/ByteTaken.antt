-- What one byte of the text of a way does.
use Rattle.line_commands.specs.Lines.{HasRead, ReadsLine, FeedAnswer}
use Rattle.line_commands.specs.declared.{lines.LineReader.LineReader, port.Port.Ghosts as Port}
use Rattle.live_commands.specs.declared.live_box.TheConstants.{MAX_LIVE_TICKS}
use Rattle.live_line.specs.WayLines.{WayOutside}
use Rattle.live_line.specs.WayRuns.{WayStands, way_filtering}
use Rattle.live_line.specs.declared.way_box.WayBox.{Ghosts as WayBox}
use Rattle.live_line.specs.declared.ways.Way.{Way}
use Rattle.live_ways.specs.Ends.{IsFaultOf}
use Rattle.live_ways.specs.WayReading.{IsReadyWay, TakesByte, StopsAtByte, FaultsAtByte, way_at}
use Rattle.live_ways.specs.declared.way_end.WayFault.{WayFault}
use Rattle.live_ways.specs.declared.way_end.WayFault.TheVariants as fault
use Rattle.live_ways.specs.declared.way_reader.WayReader.{WayReader}
use Rattle.std.proofs.Common.{◌≡◌, ◌∙◌, ℕ, ◌+◌, ◌<◌, ◌≤◌, List, [], ◌∷◌, ◌++◌, length, take, drop}
use Rattle.std.proofs.Common.{Ok}
use Rattle.std.proofs.Common.{Err, refl, ap, sym, subst, arith, append_assoc, length-append}
use Rattle.std.proofs.Common.{append-nil, get_or}
use Rattle.std.proofs.lemmas.List.{take-append-drop}
use Rattle.tick_drive.proofs.ItemLaws.{ticks_in-append}
use Rattle.tick_drive.specs.Consumers.{Gives}
use Rattle.tick_drive.specs.declared.consumer.Stop.{Stop}
use Rattle.tick_drive.specs.declared.end.End.{End}
use Rattle.tick_drive.specs.declared.end.End.TheVariants as ends
use Rattle.tick_drive.specs.declared.end.TooMuch.TheVariants.{Ticks, Bytes}
use Rattle.yasir_io.specs.declared.disk.SlotDisk.{Ghosts as SlotDisk}
use Rattle.yasir_ticks.specs.TickText.{ended_items, IsRefusedAfter, fault_after}
use Rattle.yasir_ticks.specs.Ticks.{Item, ticks_in}

-- a byte that was read is the whole of one byte
record ReadsByte (lines : LineReader) (text : List ℕ) (byte : ℕ) (items : List Item) : Type 0 where
  has_read : HasRead lines (text ++ byte ∷ [])
  ended : ended_items (text ++ byte ∷ []) ≡ ended_items text ++ items

reads_byte : (lines : LineReader) (text : List ℕ) (byte taken : ℕ) (items : List Item)
    → ReadsLine lines text (byte ∷ []) taken items → ReadsByte lines text byte items
reads_byte lines text byte taken items reads =
    let one : taken ≡ 1 = omega (arith, reads.some, reads.within) in
    record {
      has_read = subst (λ n. HasRead lines (text ++ take n (byte ∷ []))) one reads.has_read;
      ended = subst (λ n. ended_items (text ++ take n (byte ∷ [])) ≡ ended_items text ++ items) one
          reads.ended;
    }

module _ {X P D : Type 0} (x : WayBox X) (p : Port P) (d : SlotDisk D) (way : Way)
    (old new : WayReader X) (old_port new_port : P) (old_disk new_disk : D) (byte taken : ℕ)
    (items run : List Item) (alike : ticks_in run ≡ ticks_in items)
    (reads : (text : List ℕ) → HasRead old.reader text
    → ReadsLine new.reader text (byte ∷ []) taken items) where
  abbrev was : WayOutside X P D
  was = way_at old old_port old_disk

  abbrev now : WayOutside X P D
  now = way_at new new_port new_disk

  ended_ticks : (text : List ℕ) → HasRead old.reader text
      → ticks_in (ended_items (text ++ byte ∷ [])) ≡ ticks_in (ended_items text) ++ ticks_in run
  ended_ticks text has =
      ap ticks_in (reads_byte new.reader text byte taken items (reads text has)).ended
      ∙ (ticks_in-append (ended_items text) items
      ∙ ap (λ l. ticks_in (ended_items text) ++ l) (sym alike))

  counts : (text : List ℕ) → HasRead old.reader text
      → old.ticks ≡ length (ticks_in (ended_items text))
      → old.ticks + length (ticks_in run) ≡ length (ticks_in (ended_items (text ++ byte ∷ [])))
  counts text has count = omega (
    arith,
    count,
    ap length (ended_ticks text has),
    length-append (ticks_in (ended_items text)) (ticks_in run),
  )

  pub byte_taken : IsReadyWay x p d way old old_port old_disk
      → Gives (way_filtering x p d way) was now run (Ok tt)
      → new.ticks ≡ old.ticks + length (ticks_in run) → new.ticks ≤ MAX_LIVE_TICKS
      → TakesByte x p d way old new old_port new_port old_disk new_disk byte
  byte_taken ready gives sum few = record {
    ready = record {
      able = gives.is_able;
      counted = omega (arith, gives.counted, ready.counted, sum);
      few = few;
    };
    went = gives.went;
    takes = λ origin text has. record {
      has_read = (reads_byte new.reader text byte taken items (reads text has.has_read)).has_read;
      stands = subst (WayStands x p d way now origin)
          (ticks_in-append (ended_items text) run ∙ sym (ended_ticks text has.has_read))
          (gives.moved origin (ended_items text) has.stands);
      count = sum ∙ counts text has.has_read has.count;
    };
  }

  pub byte_stopped : (stop : Stop) → Gives (way_filtering x p d way) was now run (Err stop)
      → StopsAtByte x p d way old new old_port new_port old_disk new_disk byte stop
  byte_stopped stop gives = let n : ℕ = gives.stopped.place + 1 in record {
    went = gives.went;
    reads = λ text has.
        (reads_byte new.reader text byte taken items (reads text has)).has_read;
    stops = λ origin text has. record {
      taken = ticks_in (ended_items text ++ take n run);
      more = ticks_in (drop n run);
      all = sym (ticks_in-append (ended_items text ++ take n run) (drop n run))
          ∙ (ap ticks_in (append_assoc (ended_items text) (take n run) (drop n run)
          ∙ ap (λ l. ended_items text ++ l) (take-append-drop n run))
          ∙ (ticks_in-append (ended_items text) run ∙ sym (ended_ticks text has.has_read)));
      stops = gives.stopped.at origin (ended_items text) has.stands;
    };
  }

  pub byte_held : (count : ℕ) → new.lines ≡ old.lines → new.ticks ≡ old.ticks
      → new_port ≡ old_port → new_disk ≡ old_disk → count ≡ old.ticks + length (ticks_in run)
      → MAX_LIVE_TICKS < count
      → FaultsAtByte x p d way old new old_port new_port old_disk new_disk byte
      (fault.TooLong Ticks count)
  byte_held count lines ticks port disk sum above = record {
    lines = lines;
    ticks = ticks;
    port = port;
    disk = disk;
    says = λ text has counted. (above, sum ∙ counts text has counted);
  }

-- If the text ended the reading, nothing was taken.
pub byte_refused : {X P D : Type 0} (x : WayBox X) (p : Port P) (d : SlotDisk D) (way : Way)
    (old new : WayReader X) (port : P) (disk : D) (byte : ℕ) (end : End) (found : WayFault)
    → new.lines ≡ old.lines → new.ticks ≡ old.ticks → IsFaultOf end found
    → ((text : List ℕ) → HasRead old.reader text
    → FeedAnswer new.reader text (byte ∷ []) (Err end))
    → FaultsAtByte x p d way old new port port disk disk byte found
byte_refused x p d way old new port disk byte (ends.Refused bad) found lines ticks is answer =
    subst (FaultsAtByte x p d way old new port port disk disk byte) (sym is) (record {
      lines = lines;
      ticks = ticks;
      port = refl;
      disk = refl;
      says = λ text has counted. let refuses = answer text has in
          let none : refuses.taken ≡ 0 = omega (arith, refuses.within) in
          refused_at text refuses.taken none refuses.refused refuses.why;
    })
  where
    refused_at : (text : List ℕ) (taken : ℕ) → taken ≡ 0
        → IsRefusedAfter 0 (text ++ take taken (byte ∷ [])) (get_or (byte ∷ []) taken 0)
        → bad.why ≡ fault_after (text ++ take taken (byte ∷ [])) (get_or (byte ∷ []) taken 0)
        → IsRefusedAfter 0 text byte × (bad.why ≡ fault_after text byte)
    refused_at text taken none refused why = (
      subst (λ l. IsRefusedAfter 0 l byte) (append-nil text)
          (subst (λ n. IsRefusedAfter 0 (text ++ take n (byte ∷ [])) (get_or (byte ∷ []) n 0)) none
          refused),
      subst (λ l. bad.why ≡ fault_after l byte) (append-nil text)
          (subst (λ n. bad.why ≡ fault_after (text ++ take n (byte ∷ []))
          (get_or (byte ∷ []) n 0)) none why),
    )
byte_refused x p d way old new port disk byte (ends.TooLong Bytes count) found lines ticks is
    answer =
    subst (FaultsAtByte x p d way old new port port disk disk byte) (sym is) (record {
      lines = lines;
      ticks = ticks;
      port = refl;
      disk = refl;
      says = λ text has counted. answer text has;
    })
byte_refused x p d way old new port disk byte (ends.TooLong Ticks count) found lines ticks is
    answer =
    subst (FaultsAtByte x p d way old new port port disk disk byte) (sym is) (record {
      lines = lines;
      ticks = ticks;
      port = refl;
      disk = refl;
      says = λ text has counted. absurd (answer text has);
    })
byte_refused x p d way old new port disk byte ends.Whole found lines ticks is answer = absurd is
byte_refused x p d way old new port disk byte ends.ReadFault found lines ticks is answer = absurd is
byte_refused x p d way old new port disk byte (ends.Stopped stop) found lines ticks is answer =
    absurd is
