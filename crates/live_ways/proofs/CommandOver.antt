-- What the command of a live line of two ways says of the key, and of all that it was given.
use Rattle.command_ends.specs.Causes.{DiskCause, SinkCause}
use Rattle.command_ends.specs.KeyText.{IsKeyMet, IsKeyText, IsNoKey, IsCutShort, KeyCause}
use Rattle.command_ends.specs.declared.key_text.KeyError.{KeyError}
use Rattle.command_ends.specs.declared.key_text.KeyError.TheVariants.{Fault, Bad}
use Rattle.command_ends.specs.Outside.{Outside}
use Rattle.command_ends.specs.declared.status.Status.{Status}
use Rattle.command_ends.specs.declared.status.Status.TheVariants as status
use Rattle.live_commands.specs.LineEnds.{line_ends, ends_port}
use Rattle.live_line.specs.declared.ways.Way.{Way}
use Rattle.live_line.specs.declared.ways.Way.TheVariants.{Outgoing, Incoming}
use Rattle.live_ways.proofs.CommandCounts.{reads_keyed}
use Rattle.live_ways.proofs.CommandDone.{lives_done}
use Rattle.live_ways.specs.BothDisks.{disk_on, status_about}
use Rattle.live_ways.specs.WayCommand.{BothWays, around, RunsKeyed, LivesLine, IsLineLivable}
use Rattle.live_ways.specs.WayCommand.{status_of_key}
use Rattle.live_ways.specs.WayStreams.{LivesWays, HasLineCauses, IsLineCalm, RunsWays}
use Rattle.live_ways.specs.WayStreams.{HasStreamCounts}
use Rattle.live_ways.specs.WayStreams.{links_of}
use Rattle.live_ways.specs.declared.both_disks.BothDisks.{BothDisks}
use Rattle.live_ways.specs.declared.line_status.Ended.{Ended}
use Rattle.live_ways.specs.declared.loads.LineLinks.{LineLinks}
use Rattle.sequence_journal.specs.Links.{HasDirection}
use Rattle.std.proofs.Common.{◌≡◌, ◌⊎◌, ℕ, ◌≤◌, List, Option, None, Result, Err, refl, ap, subst}
use Rattle.std.proofs.Common.{inl, inr, arith}
use Rattle.yasir_io.specs.Causes.{Rose}
use Rattle.yasir_io.specs.declared.disk.SlotDisk.{Ghosts as SlotDisk}
use Rattle.yasir_io.specs.declared.sink.Sink.{Ghosts as Sink}
use Rattle.yasir_io.specs.declared.source.Source.{Ghosts as Source}

-- what holds of the link of each way holds of both
pub directed : (of : LineLinks) → HasDirection of.sent.link → HasDirection of.got.link → (way : Way)
    → HasDirection (links_of of way)
directed of sent got Outgoing = sent
directed of sent got Incoming = got

module _ {K S O L D : Type 0} (k : Source K) (s : Source S) (o : Sink O) (l : Sink L)
    (d : SlotDisk D) (ways : BothWays) (before after : Outside K S O L (BothDisks D)) where
  -- The status of a run with a key is that of the command.
  lives_of : (of : Option Way) (at : Status)
      → RunsKeyed k (ends_port s o l) d ways before.key after.key
      (around (line_ends before) before.disk) (around (line_ends after) after.disk) of at
      → LivesLine k (ends_port s o l) d ways before.key after.key
      (around (line_ends before) before.disk) (around (line_ends after) after.disk) of at
  lives_of None (status.BadKey place) runs = absurd runs.runs
  lives_of None status.ReadFault runs = inr runs
  lives_of of at runs = runs

  module _ (end : Ended) where
    -- A key was read, and the run with it ended in this way.
    module _ (text key : List ℕ) (met : IsKeyMet (k.left before.key) (k.left after.key) text)
        (right : IsKeyText text key) (same : k.faults after.key ≡ k.faults before.key)
        (runs : RunsWays s o l d ways key (around (line_ends before) before.disk)
        (around (line_ends after) after.disk) end) where
      pub keyed_lives : LivesWays k s o l d ways before after end
      keyed_lives = lives_of end.way end.status (record {
        text = text;
        key = key;
        met = met;
        right = right;
        calm = same;
        runs = runs;
      })

      pub keyed_causes : HasStreamCounts s o l (line_ends before) (line_ends after) end.status
          → ((way : Way) → DiskCause (d.faults (disk_on before.disk way))
          (d.faults (disk_on after.disk way)) (status_about end.way end.status way))
          → HasLineCauses k s o l d before after end
      keyed_causes counts disks = record {
        counts = record {
          reads = reads_keyed (k.faults before.key) (k.faults after.key) (s.faults before.input)
              (s.faults after.input) end.status same counts.reads;
          sinks = counts.sinks;
        };
        disks = disks;
      }

    -- Nothing but the key was touched.
    module _ (input : after.input ≡ before.input) (out : after.out ≡ before.out)
        (log : after.log ≡ before.log) (disk : after.disk ≡ before.disk)
        (way_is : end.way ≡ None) where
      -- A read of the key failed.
      module _ (rose : Rose (k.faults before.key) (k.faults after.key))
          (never_falls : k.faults before.key ≤ k.faults after.key)
          (cut : IsCutShort (k.left before.key) (k.left after.key))
          (status_is : end.status ≡ status.ReadFault) where
        fault_lives : LivesWays k s o l d ways before after end
        fault_lives = rw (way_is, status_is) (inl (record {
          rose = rose;
          never_falls = never_falls;
          cut = cut;
          same = rw (input, out, log, disk) refl;
        }))

        fault_causes : HasLineCauses k s o l d before after end
        fault_causes = record {
          counts = record {
            reads = rw status_is (inl rose, never_falls, omega (arith, ap s.faults input));
            sinks = rw status_is (ap o.faults out, omega (arith, ap l.faults log));
          };
          disks = λ way. rw way_is (ap (λ disks. d.faults (disk_on disks way)) disk);
        }

      -- What was met isn't a key text.
      module _ (place : ℕ) (text : List ℕ)
          (met : IsKeyMet (k.left before.key) (k.left after.key) text)
          (refused : IsNoKey text place) (same : k.faults after.key ≡ k.faults before.key)
          (status_is : end.status ≡ status.BadKey place) where
        bad_lives : LivesWays k s o l d ways before after end
        bad_lives = rw (way_is, status_is) (record {
          text = text;
          met = met;
          refused = refused;
          calm = same;
          same = rw (input, out, log, disk) refl;
        })

        bad_causes : HasLineCauses k s o l d before after end
        bad_causes = record {
          counts = record {
            reads = rw status_is (same, ap s.faults input);
            sinks = rw status_is (ap o.faults out, omega (arith, ap l.faults log));
          };
          disks = λ way. rw way_is (ap (λ disks. d.faults (disk_on disks way)) disk);
        }

      -- The key isn't read, for this reason.
      module _ {T : Type 0} (result : Result T KeyError)
          (cause : KeyCause (k.faults before.key) (k.faults after.key) result)
          (never_falls : k.faults before.key ≤ k.faults after.key) where
        caused : (error : KeyError) → result ≡ Err error
            → KeyCause {T = T} (k.faults before.key) (k.faults after.key) (Err error)
        caused error is = subst (KeyCause (k.faults before.key) (k.faults after.key)) is cause

        abbrev Refuses : KeyError → Type 0
        Refuses error = (place : ℕ) → error ≡ Bad place → (text : List ℕ)
            × IsKeyMet (k.left before.key) (k.left after.key) text × IsNoKey text place

        pub key_lives : (error : KeyError) → result ≡ Err error
            → (error ≡ Fault → IsCutShort (k.left before.key) (k.left after.key)) → Refuses error
            → end.status ≡ status_of_key error → LivesWays k s o l d ways before after end
        key_lives Fault is cut refuses status_is =
            fault_lives (caused Fault is) never_falls (cut refl) status_is
        key_lives (Bad place) is cut refuses status_is =
            let met = refuses place refl in
            bad_lives place met.0 met.1 met.2 (caused (Bad place) is) status_is

        pub key_causes : (error : KeyError) → result ≡ Err error
            → (error ≡ Fault → IsCutShort (k.left before.key) (k.left after.key)) → Refuses error
            → end.status ≡ status_of_key error → HasLineCauses k s o l d before after end
        key_causes Fault is cut refuses status_is =
            fault_causes (caused Fault is) never_falls (cut refl) status_is
        key_causes (Bad place) is cut refuses status_is =
            let met = refuses place refl in
            bad_causes place met.0 met.1 met.2 (caused (Bad place) is) status_is

    -- If all that was given is right and no count of faults rose, it is done, or there was no
    -- memory.
    pub done_of : ((way : Way) → HasDirection (ways.link way))
        → LivesWays k s o l d ways before after end
        → HasLineCauses k s o l d before after end
        → IsLineLivable ways.link (k.left before.key) (λ way. d.told (disk_on before.disk way))
        (s.left before.input) → IsLineCalm k s o l d before after
        → (end.status ≡ status.Done) ⊎ (end.status ≡ status.NoMemory)
    done_of directed lives causes right calm = lives_done k (ends_port s o l) d ways directed
        before.key after.key (around (line_ends before) before.disk)
        (around (line_ends after) after.disk) right calm.key calm.input calm.disks end.way end.status
        lives causes.disks (λ is. elim (subst (SinkCause (o.faults before.out) (o.faults after.out)
        (l.faults before.log) (l.faults after.log)) is causes.counts.sinks) [
          | inl rose ↦ calm.out rose
          | inr rose ↦ calm.log rose
        ])
