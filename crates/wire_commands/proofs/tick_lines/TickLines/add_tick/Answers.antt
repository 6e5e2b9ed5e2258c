use Rattle.wire_commands.proofs.tick_lines.TickLines.add_tick.Goals as goal

pub returns-in-Silent-clause-written : goal.returns-in-Silent-clause-written
returns-in-Silent-clause-written c = rw c.in-Silent.is c.add.ensures.written

pub returns-in-Byte-clause-written : goal.returns-in-Byte-clause-written
returns-in-Byte-clause-written c = rw c.in-Byte.is c.add-in-Byte.ensures.written
