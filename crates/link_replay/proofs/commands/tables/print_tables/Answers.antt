use Rattle.link_replay.proofs.commands.tables.print_tables.Goals as goal

pub returns-clause-tabulates : goal.returns-clause-tabulates
returns-clause-tabulates g c =
    rw (c.as_slice.ensures.value, c.table_lines.ensures) at c.print_alone.ensures.prints
