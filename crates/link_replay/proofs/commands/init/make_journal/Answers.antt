use Rattle.std.proofs.Common.{refl}
use Rattle.link_replay.proofs.Flushing.{flush-leaves, journal-made, reads-unread, own-unread}
use Rattle.link_replay.proofs.commands.init.make_journal.Goals as goal

pub returns-clause-inits : goal.returns-clause-inits
returns-clause-inits g c = rw (← c.link_of.ensures.link) (record {
  journal = journal-made c.link_of.result (g.D.SlotDisk.told c.args.ends.disk.now)
      (g.D.SlotDisk.told c.init.new.disk) (g.D.SlotDisk.may_leave c.args.ends.disk.now)
      (g.D.SlotDisk.may_leave c.init.new.disk) c.flush_both.result c.flush_both.ensures.status
      (record {
        none = c.in-Ok.ensures.none;
        set = c.in-Ok.ensures.set;
        synced = c.in-Ok.ensures.synced;
      });
  sinks = flush-leaves g.O.Sink g.L.Sink _ _ _ _ c.flush_both.result
      c.flush_both.ensures.status c.flush_both.ensures.out c.flush_both.ensures.log;
  key = refl;
  input = refl;
})

pub returns-clause-causes : goal.returns-clause-causes
returns-clause-causes g c = record {
  streams = record {
    reads = reads-unread (g.K.Source.faults c.args.ends.key.now)
        (g.S.Source.faults c.args.ends.input.now) c.flush_both.result c.flush_both.ensures.status;
    sinks = c.flush_both.ensures.sinks;
    flushes = c.flush_both.ensures.flushes;
  };
  own = own-unread (g.S.Source.faults c.args.ends.input.now) _ _ c.flush_both.result
      c.flush_both.ensures.status c.in-Ok.ensures.same;
}
