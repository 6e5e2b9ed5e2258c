use Rattle.sequence_journal.proofs.LoadLemmas.{blank_holds_none}
use Rattle.sequence_journal.specs.Slots.{greatest}
use Rattle.station_boxes.proofs.CheckTurns.{init-never-fails}
use Rattle.std.proofs.Common.{◌∙◌, ap}
use Rattle.yasir_io.specs.Steady.{steady_slots}
use Rattle.station_boxes.proofs.checker.unused_journal.Goals as goal

pub unwrap-requires : goal.unwrap-requires
unwrap-requires c =
    init-never-fails c.init.result c.args.link.now (steady_slots c.new-disk.result) _
    (ap greatest c.new-disk.ensures ∙ blank_holds_none) c.init.ensures.refused
