-- What a command says of a port it also says of another port that shows the same of its values.
use Rattle.{link_format.specs.declared.dir.Dir.Dir, link_format.specs.Setup.Setup}
use Rattle.command_ends.specs.declared.status.Status.{Status}
use Rattle.command_ends.specs.declared.status.Status.TheVariants.{Done, BadTicks, ReadFault}
use Rattle.command_ends.specs.declared.status.Status.TheVariants.{WriteFault, JournalFault}
use Rattle.command_ends.specs.declared.status.Status.TheVariants.{TooLong, BadKey, BadJournal}
use Rattle.command_ends.specs.declared.status.Status.TheVariants.{WrongLink}
use Rattle.line_commands.specs.{Boxes.Boxed, Order.Handed, Order.HandedFronts, Sending.made_by}
use Rattle.line_commands.specs.declared.{port.Output.Output, port.Port.Ghosts as Port}
use Rattle.live_commands.proofs.TextEndsLaws.{text_by}
use Rattle.live_commands.specs.LiveCommand.{Around, around, Carries, HaltsBox, EndsLine, LooksAtJournal}
use Rattle.live_commands.specs.LiveCommand.{FailsAtLoad, RunsLine, RunsKeyed, RefusesKey, FailsAtKey}
use Rattle.live_commands.specs.LiveCommand.{LivesBox, PortCauses, left_ahead}
use Rattle.live_commands.specs.TextEnds.{EndsText}
use Rattle.sequence_journal.specs.declared.link.LinkId.{LinkId}
use Rattle.std.proofs.Common.{◌≡◌, ◌∙◌, ℕ, ◌≤◌, List, Option, inl, inr, ap, sym, subst}
use Rattle.std.specs.Io.KnownBytes.{prepend_known, IsAtEnd}
use Rattle.tick_drive.specs.declared.{consumer.Stop.Stop, end.End.End}
use Rattle.tick_drive.specs.declared.consumer.Stop.TheVariants as stops
use Rattle.yasir_io.specs.{Causes.Rose, declared.disk.SlotDisk.Ghosts as SlotDisk}
use Rattle.yasir_io.specs.declared.source.Source.{Ghosts as Source}
use Rattle.yasir_ticks.specs.declared.tick.Tick.{Tick}

module _ {P Q D : Type 0} (p : Port P) (q : Port Q) (d : SlotDisk D) (shown : P → Q)
    (history : (port : P) → p.history port ≡ q.history (shown port))
    (left : (port : P) → p.left port ≡ q.left (shown port))
    (reads : (port : P) → p.read_faults port ≡ q.read_faults (shown port))
    (writes : (port : P) (to : Output) → p.write_faults port to ≡ q.write_faults (shown port) to)
    (before after : Around P D) where
  -- the other port's values, and the same disks
  abbrev pub seen : Around P D → Around Q D
  seen at = around (shown at.port) at.disk

  rose_seen : Rose (p.read_faults before.port) (p.read_faults after.port)
      → Rose (q.read_faults (shown before.port)) (q.read_faults (shown after.port))
  rose_seen rose = subst (λ n. Rose n (q.read_faults (shown after.port))) (reads before.port)
      (subst (λ n. Rose (p.read_faults before.port) n) (reads after.port) rose)

  module _ (link : LinkId) where
    module _ (most : ℕ) (box : Boxed) (text : List ℕ) where
      carries_seen : (line : List Tick) → Carries p d link most box before after text line
          → Carries q d link most box (seen before) (seen after) text line
      carries_seen line h = record {
        handed = subst (λ start. Handed (made_by box) start (q.history (shown after.port)) text line)
            (history before.port)
            (subst (λ now. Handed (made_by box) (p.history before.port) now text line)
            (history after.port) h.handed);
        images = h.images;
        uptime = h.uptime;
        floor_told = h.floor_told;
      }

      halts_seen : (stop : Stop) (line : List Tick)
          → HaltsBox p d link most box before after text stop line
          → HaltsBox q d link most box (seen before) (seen after) text stop line
      halts_seen stops.JournalFault ticks h = record {
        line = h.line;
        later = h.later;
        more = h.more;
        all = h.all;
        handed = subst (λ start. Handed (made_by box) start (q.history (shown after.port)) text h.line)
            (history before.port)
            (subst (λ now. Handed (made_by box) (p.history before.port) now text h.line)
            (history after.port) h.handed);
        images = h.images;
        uptime = h.uptime;
        floor_told = h.floor_told;
      }
      halts_seen stops.WriteFault ticks h = record {
        line = h.line;
        more = h.more;
        all = h.all;
        fronts = subst (λ start. HandedFronts (made_by box) start (q.history (shown after.port)) text
            h.line) (history before.port)
            (subst (λ now. HandedFronts (made_by box) (p.history before.port) now text h.line)
            (history after.port) h.fronts);
        images = h.images;
        uptime = h.uptime;
        floor_told = h.floor_told;
      }
      halts_seen stops.NoMemory ticks h = h

    module _ (box : ℕ → Boxed) (rest ahead : ℕ) where
      ends_seen : (end : End) → EndsLine p d link box rest ahead before after end
          → EndsLine q d link box rest ahead (seen before) (seen after) end
      ends_seen end h = record {
        floor = h.floor;
        text = h.text;
        floor_before = h.floor_before;
        came = sym (left before.port) ∙ h.came ∙ ap (prepend_known h.text) (left after.port);
        ends = subst (λ (at : Option (List ℕ)). EndsText
            (Carries q d link (left_ahead ahead end) (box h.floor) (seen before) (seen after) h.text)
            (HaltsBox q d link ahead (box h.floor) (seen before) (seen after) h.text) rest (IsAtEnd at) end
            h.text) (left after.port)
            (text_by (Carries p d link (left_ahead ahead end) (box h.floor) before after h.text)
            (Carries q d link (left_ahead ahead end) (box h.floor) (seen before) (seen after) h.text)
            (HaltsBox p d link ahead (box h.floor) before after h.text)
            (HaltsBox q d link ahead (box h.floor) (seen before) (seen after) h.text) rest
            (IsAtEnd (p.left after.port)) end
            (λ e. carries_seen (left_ahead ahead end) (box h.floor) h.text)
            (λ e. halts_seen ahead (box h.floor) h.text) h.text h.ends);
        from_load = h.from_load;
      }

      looks_seen : LooksAtJournal p d link box rest ahead before after
          → LooksAtJournal q d link box rest ahead (seen before) (seen after)
      looks_seen h = record {
        port = ap shown h.port;
        told = h.told;
        images = h.images;
        images_back = h.images_back;
      }

      fails_seen : FailsAtLoad p d link box rest ahead before after
          → FailsAtLoad q d link box rest ahead (seen before) (seen after)
      fails_seen h = record { port = ap shown h.port; told = h.told; images = h.images }

      runs_seen : (status : Status) → RunsLine p d link box rest ahead before after status
          → RunsLine q d link box rest ahead (seen before) (seen after) status
      runs_seen Done h = ends_seen _ h
      runs_seen (BadTicks bad) h = ends_seen _ h
      runs_seen (TooLong what count) h = ends_seen _ h
      runs_seen ReadFault h = (ends_seen _ h.0, rose_seen h.1)
      runs_seen JournalFault (inl h) = inl (ends_seen _ h)
      runs_seen JournalFault (inr h) = inr (fails_seen h)
      runs_seen WriteFault h = ends_seen _ h
      runs_seen (BadJournal a b) h = (h.0, looks_seen h.1)
      runs_seen (WrongLink slot) h = (h.0, looks_seen h.1)
      runs_seen status h = absurd h

    module _ {K : Type 0} (k : Source K) (boxed : Setup → Boxed) (dir : Dir) (rest ahead : ℕ)
        (key_before key_after : K) where
      keyed_seen : (status : Status)
          → RunsKeyed k p d boxed link dir rest ahead key_before key_after before after status
          → RunsKeyed k q d boxed link dir rest ahead key_before key_after (seen before) (seen after) status
      keyed_seen status h = record {
        text = h.text;
        key = h.key;
        met = h.met;
        right = h.right;
        calm = h.calm;
        runs = runs_seen _ rest ahead status h.runs;
      }

      pub lives_seen : (status : Status)
          → LivesBox k p d boxed link dir rest ahead key_before key_after before after status
          → LivesBox k q d boxed link dir rest ahead key_before key_after (seen before) (seen after) status
      lives_seen (BadKey place) h = record {
        text = h.text;
        met = h.met;
        refused = h.refused;
        calm = h.calm;
        same = ap seen h.same;
      }
      lives_seen ReadFault (inl h) = inl (record {
        rose = h.rose;
        never_falls = h.never_falls;
        cut = h.cut;
        same = ap seen h.same;
      })
      lives_seen ReadFault (inr h) = inr (keyed_seen ReadFault h)
      lives_seen status h = keyed_seen status h

  pub causes_seen : (status : Status) → PortCauses p before.port after.port status
      → PortCauses q (shown before.port) (shown after.port) status
  causes_seen status h = record {
    never_falls = subst (λ n. n ≤ q.read_faults (shown after.port)) (reads before.port)
        (subst (λ n. p.read_faults before.port ≤ n) (reads after.port) h.never_falls);
    no_read = λ none. sym (reads after.port) ∙ h.no_read none ∙ reads before.port;
    no_write = λ none to. sym (writes after.port to) ∙ h.no_write none to ∙ writes before.port to;
    write = λ is. let rose = h.write is in (
      rose.0,
      subst (λ n. Rose n (q.write_faults (shown after.port) rose.0)) (writes before.port rose.0)
          (subst (λ n. Rose (p.write_faults before.port rose.0) n) (writes after.port rose.0) rose.1),
    );
  }
