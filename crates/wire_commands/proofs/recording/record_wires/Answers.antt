use Rattle.session_lists.specs.Recordings.{before_mark, behind_mark}
use Rattle.std.proofs.Common.{◌≡◌, ◌∙◌, sym, ap, arith, length}
use Rattle.wire_commands.proofs.BothParts.{before-is, behind-whole, parts-few}
use Rattle.wire_commands.proofs.recording.record_wires.Goals as goal

pub drive_wires-requires-clause-room : goal.drive_wires-requires-clause-room
drive_wires-requires-clause-room g c =
    let kept = c.in-Ok.ensures.lists in
    omega (
      arith,
      parts-few _ _ kept.items kept.takes,
      ap length (c.first.ensures ∙ kept.holds.first_is),
      ap length (c.second.ensures ∙ kept.holds.second_is),
    )

pub returns-in-Ok-drive_wires-clause-records : goal.returns-in-Ok-drive_wires-clause-records
returns-in-Ok-drive_wires-clause-records g c =
    let kept = c.in-Ok.ensures.lists in
    let made = c.in-Ok-drive_wires.ensures in
    let first : c.first.result.now ≡ before_mark kept.items =
    c.first.ensures ∙ (kept.holds.first_is ∙ sym (before-is kept.items)) in
    let second : c.second.result.now ≡ behind_mark kept.items =
    c.second.ensures ∙ (kept.holds.second_is ∙ sym (behind-whole _ _ kept.items kept.takes)) in
    record {
      items = kept.items;
      whole = kept.takes;
      texts = made.0;
      are = rw (sym first, sym second) made.2;
      holds = made.1;
    }
