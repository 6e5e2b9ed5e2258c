use Rattle.{line_commands.proofs.Kept.keeps-none, link_format.specs.Setup.setup_of}
use Rattle.sequence_journal.proofs.LoadLemmas.{blank_holds_none}
use Rattle.sequence_journal.specs.Slots.{greatest}
use Rattle.std.proofs.Common.{◌∙◌, ap, subst, sym, refl, [], rules}
use Rattle.line_commands.proofs.kept_box.KeptBox.new.Goals as goal

pub new_journal-journal-requires-clause-none : goal.new_journal-journal-requires-clause-none
new_journal-journal-requires-clause-none g c = ap greatest c.new-disk.ensures ∙ blank_holds_none

pub returns-clause-steady : goal.returns-clause-steady
returns-clause-steady g c = record { served = search rules; room = c.new-2.ensures.room }

pub returns-clause-keeps : goal.returns-clause-keeps
returns-clause-keeps g c = keeps-none g.B.LinkBox g.B.LineBox.line_of _
    (setup_of c.args.key.now c.args.dir 0)
    (subst (λ n. g.B.LinkBox.stands c.new.result n (setup_of c.args.key.now c.args.dir 0) [])
    (sym c.new_journal-journal.ensures.floor) (c.new.ensures.stands 0))
    refl c.new-2.ensures.written c.new-2.ensures.ticks c.new-2.ensures.notes c.new-3.ensures
    c.new-4.ensures (record { is = c.new-5.ensures.is; whole = c.new-5.ensures.whole })
