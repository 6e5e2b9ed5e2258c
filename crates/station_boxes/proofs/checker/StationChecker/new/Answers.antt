use Rattle.link_format.specs.Tag.{direction_number}
use Rattle.sequence_journal.specs.Journal.{journal_floor}
use Rattle.station_boxes.proofs.CheckTurns.{begun-stands}
use Rattle.std.proofs.Common.{refl}
use Rattle.station_boxes.proofs.checker.StationChecker.new.Goals as goal

pub returns-clause-stands : goal.returns-clause-stands
returns-clause-stands g c = λ table.
    begun-stands g.R.LineRules g.M.Mac _ table (direction_number c.args.dir) refl c.new.ensures.stands
    refl _ (c.new-2.ensures.stands (journal_floor c.journal_at.result))
