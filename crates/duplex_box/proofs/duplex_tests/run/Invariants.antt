use Rattle.std.proofs.Common.{◌≡◌, ℕ}
use Rattle.duplex_box.specs.Directions.{AreOfLine}
use Rattle.duplex_box.specs.Pairs.{outgoing_direction, outgoing_box, incoming_box}
use Rattle.check_receiver.specs.Stands.{checker_ticks, checker_direction}
use Rattle.seal_transmitter.specs.Stands.{sealer_ticks, sealer_direction}
use Rattle.sequence_journal.specs.declared.link.LinkId.{LinkId}
use Rattle.sequence_journal.specs.Journal.{journal_link, Fits}
use Rattle.duplex_box.proofs.duplex_tests.run.Given as goal

abbrev rtu_link : ℕ → LinkId
rtu_link direction = record { label = 1; dir = direction; profile = 18 }

abbrev pub invariant-loop-i : goal.invariant-loop-i
invariant-loop-i g l = (sealer_ticks (outgoing_box l.duplex) ≡ l.i)
    × (checker_ticks (incoming_box l.duplex) ≡ l.i)
    × AreOfLine (outgoing_direction l.duplex) l.sent l.got
    × Fits l.sent (g.X.SlotDisk.told l.sent_disk) × Fits l.got (g.Y.SlotDisk.told l.got_disk)
    × (journal_link l.sent ≡ rtu_link (sealer_direction (outgoing_box l.duplex)))
    × (journal_link l.got ≡ rtu_link (checker_direction (incoming_box l.duplex)))
