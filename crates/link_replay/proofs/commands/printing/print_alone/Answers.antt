use Rattle.std.proofs.Common.{refl}
use Rattle.link_replay.proofs.Flushing.{reads-unread, own-unread}
use Rattle.link_replay.proofs.commands.printing.print_alone.Goals as goal

pub returns-clause-prints : goal.returns-clause-prints
returns-clause-prints g c = record {
  printed = c.print_text.ensures.out;
  log = c.print_text.ensures.log;
  key = refl;
  input = refl;
  disk = refl;
}

pub returns-clause-streams : goal.returns-clause-streams
returns-clause-streams g c = record {
  reads = reads-unread (g.K.Source.faults c.args.ends.key.now)
      (g.S.Source.faults c.args.ends.input.now) c.print_text.result c.print_text.ensures.status;
  sinks = c.print_text.ensures.sinks;
  flushes = c.print_text.ensures.flushes;
}

pub returns-clause-own : goal.returns-clause-own
returns-clause-own g c = own-unread (g.S.Source.faults c.args.ends.input.now)
    (g.D.SlotDisk.faults c.args.ends.disk.now) (g.D.SlotDisk.faults c.args.ends.disk.now)
    c.print_text.result c.print_text.ensures.status refl
