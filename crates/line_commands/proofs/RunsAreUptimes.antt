-- However a run of a box ends, it leaves an uptime, or the slots as they were, or an old journal
-- that was being taken over.
use Rattle.line_commands.specs.{BoxLines.ToldFloor, Boxes.Boxed}
use Rattle.line_commands.specs.ReplaysBox.{Around, around_of, boxed_with, LeavesUptime, EndsBox}
use Rattle.line_commands.specs.ReplaysBox.{LooksAtJournal, FailsAtLoad, RunsBox, RunsKeyed}
use Rattle.line_commands.specs.ReplaysBox.{ReplaysBox}
use Rattle.line_commands.specs.Uptimes.{WasUptime, WasTakenOver, TookLine, IsUptimeOrNone}
use Rattle.{link_format.specs.declared.dir.Dir.Dir, link_format.specs.Setup.Setup}
use Rattle.command_ends.specs.{Outside.Outside, declared.status.Status.Status}
use Rattle.command_ends.specs.declared.status.Status.TheVariants.{Done, BadTicks, ReadFault}
use Rattle.command_ends.specs.declared.status.Status.TheVariants.{WriteFault, JournalFault}
use Rattle.command_ends.specs.declared.status.Status.TheVariants.{TooLong, BadKey, BadJournal}
use Rattle.command_ends.specs.declared.status.Status.TheVariants.{WrongLink}
use Rattle.sequence_journal.proofs.{LoadLemmas.while_loading, SlotLemmas.at_some}
use Rattle.sequence_journal.proofs.{SlotLemmas.no_own_floor, UptimeLaws.ends-loading}
use Rattle.sequence_journal.specs.{Journal.AreSameBut, Links.HasDirection, Loading.IsOld}
use Rattle.sequence_journal.specs.Slots.{any_floor, old_floor, floor_by, floor_of}
use Rattle.sequence_journal.specs.declared.link.LinkId.{LinkId}
use Rattle.std.proofs.Common.{◌≡◌, ◌∙◌, ◌⊎◌, ℕ, List, Option, Some, None, inl, inr, refl, sym, ap}
use Rattle.std.proofs.Common.{subst}
use Rattle.{std.proofs.Common.⊎_elim}
use Rattle.yasir_io.specs.Disks.{Slots, OneImage}
use Rattle.yasir_io.specs.declared.disk.{Slot.TheVariants.A, SlotDisk.Ghosts as SlotDisk}
use Rattle.yasir_io.specs.declared.{sink.Sink.Ghosts as Sink, source.Source.Ghosts as Source}
use Rattle.yasir_ticks.specs.declared.tick.Tick.{Tick}

-- A floor that is told is the floor of the slots that are told.
floor-told : (link : LinkId) (floor : ℕ) (told : Option Slots) (begins : Slots)
    → told ≡ Some begins → ToldFloor link floor told → floor_of link begins ≡ Some floor
floor-told link floor told begins is has = subst (λ t. ToldFloor link floor t) is has

-- the floor of a journal that isn't taken over yet
floor-of-old : (link : LinkId) (n : ℕ) (slots : Slots) → HasDirection link → IsOld n slots
    → floor_of link slots ≡ Some n
floor-of-old link n slots right is_old =
    ap (λ o. floor_by o (any_floor slots) (old_floor slots))
    (no_own_floor link slots right is_old.none)
    ∙ ap (λ o. floor_by None o (old_floor slots)) is_old.none ∙ is_old.number

module _ {S O L D : Type 0} (s : Source S) (o : Sink O) (l : Sink L) (d : SlotDisk D)
    (link : LinkId) (right : HasDirection link) (box : ℕ → Boxed)
    (before after : Around S O L D) (rest : ℕ) (begins image : Slots)
    (told : d.told before.disk ≡ Some begins)
    (one : OneImage (d.told before.disk) (d.may_leave before.disk))
    (left : d.may_leave after.disk image) where
  was : (floor : ℕ) (line : List Tick) → ToldFloor link floor (d.told before.disk)
      → LeavesUptime d link ((box floor).numbers line) before.disk after.disk
      → WasUptime link box begins image
  was floor line has leaves = record {
    floor = floor;
    line = line;
    loads = floor-told link floor (d.told before.disk) begins told has;
    is = leaves one begins told image left;
  }

  ended : (line : List Tick) → EndsBox s o l d link box before after line
      → WasUptime link box begins image
  ended line h = was h.floor line h.floor_before h.replays.uptime

  looked : LooksAtJournal s o l d link box before after → image ≡ begins
  looked h =
      let same : Some begins ≡ Some image = sym told ∙ one image (h.images image left) in
      cc

  -- If the image is one that a crash before the run would have left, it is the slots as they were.
  still : d.may_leave before.disk image → image ≡ begins
  still was = let same : Some begins ≡ Some image = sym told ∙ one image was in cc

  failed-load : FailsAtLoad s o l d link box before after
      → (image ≡ begins) ⊎ WasTakenOver link begins image
  failed-load h = elim (h.images image left) as (λ _. (image ≡ begins)
      ⊎ WasTakenOver link begins image) [
        | inl was ↦ inl (still was)
        | inr torn ↦ (
            let old = at_some (λ slots. (n : ℕ) × IsOld n slots) (d.told before.disk) begins told
            torn.0 in
            let same : torn.1.0 ≡ begins =
            (let both : Some begins ≡ Some torn.1.0 = sym told ∙ one torn.1.0 torn.1.1 in cc) in
            let floor = floor-of-old link old.0 begins right old.1 in
            inr (record {
              number = old.0;
              is_old = old.1;
              same = subst (λ d. AreSameBut A d image) same torn.1.2;
              idle = ends-loading link begins old.0 image floor
                  (while_loading link begins old.0 (d.told before.disk) (d.may_leave before.disk)
                  right told one floor image (inr torn));
            })
            )
      ]

  -- The run was an uptime with the line that the box took.
  abbrev Was : (status : Status) → RunsBox s o l d link box before after rest status → Type 0
  Was status ran = (was : WasUptime link box begins image)
      × TookLine s o l d link box before after rest status ran was.line

  run-is : (status : Status) (ran : RunsBox s o l d link box before after rest status)
      → Was status ran ⊎ ((image ≡ begins) ⊎ WasTakenOver link begins image)
  unfolding ended was
  run-is Done h = inl (ended _ h.makes, refl)
  run-is (BadTicks bad) h = inl (ended _ h.makes, refl)
  run-is (TooLong what count) h = inl (ended _ h.makes, refl)
  run-is ReadFault h = inl (ended _ h.makes, refl)
  run-is JournalFault (inl h) =
      inl (was h.makes.floor _ h.makes.fronts.floor_before h.makes.fronts.uptime, refl)
  run-is JournalFault (inr h) = inr (failed-load h)
  run-is WriteFault h =
      inl (was h.makes.floor _ h.makes.fronts.floor_before h.makes.fronts.uptime, refl)
  run-is (BadJournal a b) h = inr (inl (looked h.1))
  run-is (WrongLink slot) h = inr (inl (looked h.1))
  run-is status h = absurd h

module _ {K S O L D : Type 0} (k : Source K) (s : Source S) (o : Sink O) (l : Sink L)
    (d : SlotDisk D)
    (boxed : Setup → Boxed) (link : LinkId) (right : HasDirection link) (dir : Dir) (rest : ℕ)
    (before after : Outside K S O L D)
    (begins image : Slots) (told : d.told before.disk ≡ Some begins)
    (one : OneImage (d.told before.disk) (d.may_leave before.disk))
    (left : d.may_leave after.disk image) where
  -- If nothing but the key was touched, the image is the slots as they were.
  untouched : around_of after ≡ around_of before → image ≡ begins
  untouched same =
      let disk : after.disk ≡ before.disk = ap (λ a. a.disk) same in
      let still : d.may_leave before.disk image =
      subst (λ x. d.may_leave x image) disk left in
      let is : Some begins ≡ Some image = sym told ∙ one image still in
      cc

  keyed : (status : Status) → RunsKeyed k s o l d boxed link dir rest before after status
      → IsUptimeOrNone k s o l d boxed link dir rest before after status begins image
  keyed status ran = ⊎_elim
      (λ was. inl (record { ran = ran; was = was.0; took = was.1 }))
      (λ same. inr same)
      (run-is s o l d link right (boxed_with boxed ran.key dir) (around_of before)
      (around_of after) rest begins image told one left status ran.runs)

  pub uptime-or-none : (status : Status)
      → ReplaysBox k s o l d boxed link dir rest before after status
      → IsUptimeOrNone k s o l d boxed link dir rest before after status begins image
  uptime-or-none (BadKey place) h = inr (inl (untouched h.same))
  uptime-or-none ReadFault (inl h) = inr (inl (untouched h.same))
  uptime-or-none ReadFault (inr ran) = keyed ReadFault ran
  uptime-or-none status ran = keyed status ran
