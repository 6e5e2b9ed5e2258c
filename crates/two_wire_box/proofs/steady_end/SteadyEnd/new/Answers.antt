use Rattle.link_format.specs.Directions.{opposite_of}
use Rattle.link_format.specs.Setup.{setup_of}
use Rattle.sequence_journal.proofs.LoadLemmas.{blank_holds_none}
use Rattle.sequence_journal.specs.Slots.{greatest}
use Rattle.std.proofs.Common.{◌∙◌, ap}
use Rattle.two_wire_box.proofs.Driving.{driven-none}
use Rattle.two_wire_box.proofs.steady_end.SteadyEnd.new.Goals as goal

pub new_journal-sent-requires-clause-none : goal.new_journal-sent-requires-clause-none
new_journal-sent-requires-clause-none g c = ap greatest c.new-sent_disk.ensures ∙ blank_holds_none

pub new_journal-got-requires-clause-none : goal.new_journal-got-requires-clause-none
new_journal-got-requires-clause-none g c = ap greatest c.new-got_disk.ensures ∙ blank_holds_none

pub returns-clause-driven : goal.returns-clause-driven
returns-clause-driven g c =
    driven-none g.S.LinkBox g.C.LinkBox c.args.side c.args.waits
    (setup_of c.args.key.now c.args.outgoing 0)
    (setup_of c.args.key.now (opposite_of c.args.outgoing) 0) _ c.new.ensures.side c.new.ensures.waits
    c.new.ensures.gate c.new.ensures.device_silent c.new.ensures.link_silent
    c.new_journal-sent.ensures.floor c.new_journal-got.ensures.floor (c.new.ensures.sends 0)
    (c.new.ensures.gets 0)
