use Rattle.live_line.specs.declared.ways.Way.TheVariants.{Incoming}
use Rattle.live_ways.proofs.CommandLoads.{moments_of, moment_none}
use Rattle.live_ways.proofs.loads.load_both.Goals as goal

pub returns-in-Err-clause-any_moment : goal.returns-in-Err-clause-any_moment
returns-in-Err-clause-any_moment g c = moments_of g.D.SlotDisk c.args.of.now c.args.disks.now
    (record c.args.disks.now { first = c.load_way.new.disk }) c.in-Err.ensures.any_moment
    (moment_none g.D.SlotDisk g.met.D.SlotDisk.only_now c.args.of.now.got.link
    c.args.disks.now.second)

pub returns-in-Err-load_way-clause-refused : goal.returns-in-Err-load_way-clause-refused
returns-in-Err-load_way-clause-refused g c = record {
  way = Incoming;
  is = c.in-Err-load_way.ensures.about;
  refuses = c.in-Err-load_way.ensures.refused;
  sent = λ is. (c.in-Ok.journal, c.in-Ok.ensures.loaded);
  got = λ is. cc;
}

pub returns-in-Err-load_way-clause-any_moment : goal.returns-in-Err-load_way-clause-any_moment
returns-in-Err-load_way-clause-any_moment g c = moments_of g.D.SlotDisk c.args.of.now
    c.args.disks.now (record { first = c.load_way.new.disk; second = c.load_way-2.new.disk })
    c.in-Ok.ensures.any_moment c.in-Err-load_way.ensures.any_moment

pub returns-clause-any_moment : goal.returns-clause-any_moment
returns-clause-any_moment g c = moments_of g.D.SlotDisk c.args.of.now
    c.args.disks.now (record { first = c.load_way.new.disk; second = c.load_way-2.new.disk })
    c.in-Ok.ensures.any_moment c.in-Ok-load_way.ensures.any_moment
