use Rattle.link_replay.proofs.JournalNames.{journal-named}
use Rattle.std.proofs.Common.{◌∙◌}
use Rattle.link_replay.proofs.usage.named_line.Goals as goal

pub returns-in-JournalFault : goal.returns-in-JournalFault
returns-in-JournalFault c = c.with_name.ensures
    ∙ rw (c.fault_line-line.ensures, c.in-JournalFault.is)
    (journal-named c.args.name.now c.args.reasons.now.journal)
