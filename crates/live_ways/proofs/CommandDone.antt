-- If all that a live line of two ways is given is right and nothing outside fails, the status is
-- Done, or
-- there was no memory.
use Rattle.command_ends.specs.Causes.{DiskCause}
use Rattle.command_ends.specs.declared.status.Status.{Status}
use Rattle.command_ends.specs.declared.status.Status.TheVariants as status
use Rattle.line_commands.proofs.Replayable.{no_key_refused, no_journal_refused, wrong_link_refused}
use Rattle.line_commands.specs.declared.port.Port.{Ghosts as Port}
use Rattle.live_line.specs.declared.ways.Way.{Way}
use Rattle.live_line.specs.declared.ways.Way.TheVariants.{Outgoing, Incoming}
use Rattle.live_ways.proofs.CommandRight.{in_either, not_refused, not_no_way}
use Rattle.live_ways.proofs.CommandRight.{not_too_many_ticks, not_long, not_too_many_bytes}
use Rattle.live_ways.specs.BothDisks.{disk_on, status_about}
use Rattle.live_ways.specs.WayCommand.{BothWays, Around, LivesLine, IsLineLivable}
use Rattle.sequence_journal.specs.Links.{HasDirection}
use Rattle.std.proofs.Common.{◌≡◌, ℕ, ◌⊎◌, List, Option, Some, None, refl, inl, inr}
use Rattle.tick_drive.specs.declared.end.TooMuch.TheVariants.{Ticks, Bytes}
use Rattle.yasir_io.specs.Causes.{Rose}
use Rattle.yasir_io.specs.declared.disk.SlotDisk.{Ghosts as SlotDisk}
use Rattle.yasir_io.specs.declared.source.Source.{Ghosts as Source}

module _ {K P D : Type 0} (k : Source K) (p : Port P) (d : SlotDisk D) (line : BothWays)
    (directed : (way : Way) → HasDirection (line.link way)) (key_before key_after : K)
    (before after : Around P D)
    (right : IsLineLivable line.link (k.left key_before) (λ way. d.told (disk_on before.disks way))
    (p.left before.port))
    (key_calm : ¬ Rose (k.faults key_before) (k.faults key_after))
    (read_calm : ¬ Rose (p.read_faults before.port) (p.read_faults after.port))
    (disk_calm : (way : Way) → ¬ Rose (d.faults (disk_on before.disks way))
    (d.faults (disk_on after.disks way))) where
  abbrev Ending : Status → Type 0
  Ending at = (at ≡ status.Done) ⊎ (at ≡ status.NoMemory)

  -- what the input had left before, and has left now
  abbrev left : Option (List ℕ)
  left = p.left before.port

  abbrev now : Option (List ℕ)
  now = p.left after.port

  disk_failed : (way : Way) → DiskCause (d.faults (disk_on before.disks way))
      (d.faults (disk_on after.disks way)) (status_about (Some way) status.JournalFault way) → ⊥
  disk_failed Outgoing rose = disk_calm Outgoing rose
  disk_failed Incoming rose = disk_calm Incoming rose

  pub lives_done : (of : Option Way) (at : Status)
      → LivesLine k p d line key_before key_after before after of at
      → ((way : Way) → DiskCause (d.faults (disk_on before.disks way))
      (d.faults (disk_on after.disks way)) (status_about of at way))
      → (at ≡ status.WriteFault → ⊥) → Ending at
  lives_done None status.Done lives disks no_write = inl refl
  lives_done None status.NoMemory lives disks no_write = inr refl
  lives_done (Some way) (status.BadTicks bad) lives disks no_write = let run = lives.runs in
      absurd (not_refused _ _ line.rest left now right.line run.stream run.came way bad
      (in_either _ _ line.rest left now right.line run.stream run.came _ run.ends))
  lives_done None (status.BadTicks bad) lives disks no_write = let run = lives.runs.0 in
      absurd (not_no_way _ _ line.rest left now right.line run.stream run.came bad.line
      (in_either _ _ line.rest left now right.line run.stream run.came _ run.ends))
  lives_done (Some way) (status.TooLong Ticks count) lives disks no_write = let run = lives.runs in
      absurd (not_too_many_ticks _ _ line.rest left now right.line run.stream run.came way count
      (in_either _ _ line.rest left now right.line run.stream run.came _ run.ends))
  lives_done (Some way) (status.TooLong Bytes count) lives disks no_write = let run = lives.runs in
      absurd (not_long _ _ line.rest left now right.line run.stream run.came way count
      (in_either _ _ line.rest left now right.line run.stream run.came _ run.ends))
  lives_done None (status.TooLong Bytes count) lives disks no_write = let run = lives.runs in
      absurd (not_too_many_bytes _ _ line.rest left now right.line run.stream run.came count
      (in_either _ _ line.rest left now right.line run.stream run.came _ run.ends))
  lives_done None status.ReadFault lives disks no_write = absurd (elim lives [
    | inl key ↦ key_calm key.rose
    | inr keyed ↦ read_calm keyed.runs.1
  ])
  lives_done (Some way) status.JournalFault lives disks no_write =
      absurd (disk_failed way (disks way))
  lives_done (Some way) status.WriteFault lives disks no_write = absurd (no_write refl)
  lives_done (Some way) (status.BadJournal a b) lives disks no_write =
      let stops = lives.runs in
      absurd (no_journal_refused (right.journals way) a b (directed way) stops.refuses.1)
  lives_done (Some way) (status.WrongLink slot) lives disks no_write =
      let stops = lives.runs in
      absurd (wrong_link_refused (right.journals way) slot stops.refuses.1)
  lives_done None (status.BadKey place) lives disks no_write =
      absurd (no_key_refused right.key lives.text (k.left key_after) place lives.met lives.refused)
  lives_done of at lives disks no_write = absurd lives.runs
