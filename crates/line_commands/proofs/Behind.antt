-- What calls do to a box that is driven by references, and to what these refer to.
use Rattle.line_commands.specs.BoxLines.{State, state_of_lines, driving}
use Rattle.line_commands.specs.DrivenBox.{state_in, HoldsSame, driven_by}
use Rattle.line_commands.specs.declared.{box_lines.BoxLines.BoxLines, driven_box.DrivenBox.DrivenBox}
use Rattle.link_box.specs.declared.box_trait.LinkBox.{Ghosts as LinkBox}
use Rattle.std.proofs.Common.{◌≡◌, ◌∙◌, ℕ, List, Option, Result, Ok, Err, refl, sym, subst}
use Rattle.std.specs.Borrow.{GName}
use Rattle.tick_drive.specs.{Consumers.Gives, Consumers.GivesSome, Drive.Drives, Drive.drive_answer_of}
use Rattle.tick_drive.specs.declared.{consumer.Stop.Stop, end.End.End}
use Rattle.yasir_io.specs.declared.{disk.SlotDisk.Ghosts as SlotDisk, sink.Sink.Ghosts as Sink}
use Rattle.yasir_ticks.specs.Ticks.{Item}

module _ {B N O L D : Type 0} (b : LinkBox B N) (line_of : N → List ℕ) (o : Sink O) (l : Sink L)
    (d : SlotDisk D) where
  gives_by : (old new : DrivenBox B O L D) (items : List Item) (result : Result (Unit {0}) Stop)
      → HoldsSame old new → Gives (driving b line_of o l d) (state_in old) (state_in new) items result
      → Gives (driven_by b line_of o l d) old new items result
  gives_by old new items (Ok x) holds given = record {
    moved = given.moved;
    stopped = tt;
    counted = given.counted;
    is_able = given.is_able;
    went = record { went = given.went; holds = holds };
  }
  gives_by old new items (Err stop) holds given = record {
    moved = tt;
    stopped = record {
      place = given.stopped.place;
      within = given.stopped.within;
      at = given.stopped.at;
    };
    counted = tt;
    is_able = tt;
    went = record { went = given.went; holds = holds };
  }

  pub some_by : (old new : DrivenBox B O L D) (items : List Item) (result : Result ℕ Stop)
      → HoldsSame old new → GivesSome (driving b line_of o l d) (state_in old) (state_in new) items result
      → GivesSome (driven_by b line_of o l d) old new items result
  some_by old new items (Ok count) holds given = record {
    some = given.some;
    within = given.within;
    gives = gives_by old new _ (Ok tt) holds given.gives;
  }
  some_by old new items (Err stop) holds given = gives_by old new items (Err stop) holds given

  gives_behind : (old new : DrivenBox B O L D) (items : List Item)
      (result : Result (Unit {0}) Stop) → Gives (driven_by b line_of o l d) old new items result
      → Gives (driving b line_of o l d) (state_in old) (state_in new) items result
  gives_behind old new items (Ok x) given = record {
    moved = given.moved;
    stopped = tt;
    counted = given.counted;
    is_able = given.is_able;
    went = given.went.went;
  }
  gives_behind old new items (Err stop) given = record {
    moved = tt;
    stopped = record {
      place = given.stopped.place;
      within = given.stopped.within;
      at = given.stopped.at;
    };
    counted = tt;
    is_able = tt;
    went = given.went.went;
  }

  -- What a drive by references did to what these refer to, if they are still the same references.
  module _ (old new : DrivenBox B O L D) (begun : State B O L D) (is : state_in old ≡ begun)
      (lines_name out_name log_name disk_name : GName)
      (lines_is : old.lines.ghost_name ≡ lines_name) (out_is : old.out.ghost_name ≡ out_name)
      (log_is : old.log.ghost_name ≡ log_name) (disk_is : old.disk.ghost_name ≡ disk_name)
      (lines : (x : BoxLines B) × (lines_name ≡ new.lines.ghost_name → x ≡ new.lines.now))
      (out : (x : O) × (out_name ≡ new.out.ghost_name → x ≡ new.out.now))
      (log : (x : L) × (log_name ≡ new.log.ghost_name → x ≡ new.log.now))
      (disk : (x : D) × (disk_name ≡ new.disk.ghost_name → x ≡ new.disk.now)) where
    abbrev ended : State B O L D
    ended = state_of_lines lines.0 out.0 log.0 disk.0

    is_ended : HoldsSame old new → state_in new ≡ ended
    is_ended holds =
        let a : lines.0 ≡ new.lines.now = lines.1 (sym (holds.lines ∙ lines_is)) in
        let b : out.0 ≡ new.out.now = out.1 (sym (holds.out ∙ out_is)) in
        let c : log.0 ≡ new.log.now = log.1 (sym (holds.log ∙ log_is)) in
        let d : disk.0 ≡ new.disk.now = disk.1 (sym (holds.disk ∙ disk_is)) in
        rw (a, b, c, d) refl

    pub drives_behind : (marks rest : ℕ) (before now : Option (List ℕ)) (end : End)
        → Drives (driven_by b line_of o l d) marks rest before now old new end
        → Drives (driving b line_of o l d) marks rest before now begun ended end
    drives_behind marks rest before now end driven =
        subst (λ at. Drives (driving b line_of o l d) marks rest before now begun at end)
        (is_ended driven.gives.went.holds)
        (subst (λ at. Drives (driving b line_of o l d) marks rest before now at (state_in new) end) is
        (record {
          items = driven.items;
          takes = driven.takes;
          gives = gives_behind old new driven.items (drive_answer_of end) driven.gives;
        }))
