use Rattle.live_ways.proofs.BothTaken.{letter_taken, letter_refused, way_taken}
use Rattle.live_ways.proofs.HandingOn.{same_out, same_in, disk_out, disk_in}
use Rattle.live_ways.proofs.WayFaults.{way_faulted}
use Rattle.live_ways.specs.LiveLine.{line_at, EndsInBytes}
use Rattle.live_line.specs.declared.ways.Way.TheVariants.{Outgoing, Incoming}
use Rattle.live_line.specs.WayText.{PartsByte}
use Rattle.std.proofs.Common.{◌∙◌, refl, ap, sym, subst, [], ◌∷◌, Some}
use Rattle.live_ways.proofs.both_ways.LiveLine.take_byte.Goals as goal

pub returns-in-Err : goal.returns-in-Err
returns-in-Err g c = letter_refused g.X.WayBox g.Y.WayBox g.P.Port g.D.SlotDisk
    g.met.D.SlotDisk.only_now c.args.self.now (record c.args.self.now { ways = c.next.new.self })
    c.args.port.now c.args.disks.now c.args.byte (λ way. refl) c.line-line.result c.requires
    c.line-line.ensures c.in-Err.ensures.refused

pub returns-in-Ok-None : goal.returns-in-Ok-None
returns-in-Ok-None g c = letter_taken g.X.WayBox g.Y.WayBox g.P.Port g.D.SlotDisk
    g.met.D.SlotDisk.only_now c.args.self.now (record c.args.self.now { ways = c.next.new.self })
    c.args.port.now c.args.disks.now c.args.byte (λ way. refl) c.requires (λ stream has. subst
    (PartsByte c.next.new.self stream c.args.byte)
    c.in-Ok-None.field-0-is (c.in-Ok-None.ensures.parts stream has))

pub take_byte-requires : goal.take_byte-requires
take_byte-requires g c = c.requires Outgoing

pub take_byte-requires-in-Ok-Some-Incoming : goal.take_byte-requires-in-Ok-Some-Incoming
take_byte-requires-in-Ok-Some-Incoming g c = c.requires Incoming

pub returns-in-Ok : goal.returns-in-Ok
returns-in-Ok g c = way_taken g.X.WayBox g.Y.WayBox g.P.Port g.D.SlotDisk g.met.D.SlotDisk.only_now
    c.args.self.now
    (record c.args.self.now { ways = c.next.new.self; outgoing = c.take_byte.new.self })
    c.args.port.now c.take_byte.new.port c.args.disks.now
    (record c.args.disks.now { first = c.take_byte.new.disk }) Outgoing
    (same_out c.args.self.now c.next.new.self c.take_byte.new.self)
    (disk_out c.args.disks.now c.take_byte.new.disk) c.args.byte
    c.in-Ok.ensures c.requires (λ stream has. subst (PartsByte c.next.new.self stream c.args.byte)
    (c.in-Ok-Some-Outgoing.field-0-is ∙ ap Some c.in-Ok-Some-Outgoing.field-0-0-is)
    (c.in-Ok-Some-Outgoing.ensures.parts stream has))

pub returns-in-Err-take_byte : goal.returns-in-Err-take_byte
returns-in-Err-take_byte g c = subst (λ end. EndsInBytes g.X.WayBox g.Y.WayBox g.P.Port g.D.SlotDisk
    (line_at c.args.self.now c.args.port.now c.args.disks.now)
    (line_at (record c.args.self.now { ways = c.next.new.self; outgoing = c.take_byte.new.self })
    c.take_byte.new.port (record c.args.disks.now { first = c.take_byte.new.disk }))
    end (c.args.byte ∷ [])) (sym c.end.ensures) (way_faulted g.X.WayBox g.Y.WayBox g.P.Port
    g.D.SlotDisk g.met.D.SlotDisk.only_now
    c.args.self.now
    (record c.args.self.now { ways = c.next.new.self; outgoing = c.take_byte.new.self })
    c.args.port.now c.take_byte.new.port c.args.disks.now
    (record c.args.disks.now { first = c.take_byte.new.disk }) Outgoing
    (same_out c.args.self.now c.next.new.self c.take_byte.new.self)
    (disk_out c.args.disks.now c.take_byte.new.disk) c.args.byte c.line-line.result
    c.requires (λ stream has. subst (PartsByte c.next.new.self stream c.args.byte)
    (c.in-Ok-Some-Outgoing.field-0-is ∙ ap Some c.in-Ok-Some-Outgoing.field-0-0-is)
    (c.in-Ok-Some-Outgoing.ensures.parts stream has)) c.line-line.ensures c.in-Err-take_byte.fault
    c.in-Err-take_byte.ensures)

pub returns-in-Ok-take_byte : goal.returns-in-Ok-take_byte
returns-in-Ok-take_byte g c = way_taken g.X.WayBox g.Y.WayBox g.P.Port g.D.SlotDisk
    g.met.D.SlotDisk.only_now
    c.args.self.now
    (record c.args.self.now {
      ways = c.next.new.self;
      incoming =
          c.take_byte-in-Ok-Some-Incoming.new.self;
    })
    c.args.port.now c.take_byte-in-Ok-Some-Incoming.new.port c.args.disks.now
    (record c.args.disks.now { second = c.take_byte-in-Ok-Some-Incoming.new.disk }) Incoming
    (same_in c.args.self.now c.next.new.self c.take_byte-in-Ok-Some-Incoming.new.self)
    (disk_in c.args.disks.now c.take_byte-in-Ok-Some-Incoming.new.disk) c.args.byte
    c.in-Ok-take_byte.ensures c.requires (λ stream has. subst (PartsByte c.next.new.self stream
    c.args.byte)
    (c.in-Ok-Some-Incoming.field-0-is ∙ ap Some c.in-Ok-Some-Incoming.field-0-0-is)
    (c.in-Ok-Some-Incoming.ensures.parts stream has))

pub returns-in-Err-take_byte-2 : goal.returns-in-Err-take_byte-2
returns-in-Err-take_byte-2 g c = subst (λ end. EndsInBytes g.X.WayBox g.Y.WayBox g.P.Port g.D.SlotDisk
    (line_at c.args.self.now c.args.port.now c.args.disks.now)
    (line_at (record c.args.self.now {
      ways = c.next.new.self;
      incoming =
          c.take_byte-in-Ok-Some-Incoming.new.self;
    })
    c.take_byte-in-Ok-Some-Incoming.new.port (record c.args.disks.now {
      second =
          c.take_byte-in-Ok-Some-Incoming.new.disk;
    }))
    end (c.args.byte ∷ [])) (sym c.end-in-Err-take_byte-2.ensures) (way_faulted g.X.WayBox
    g.Y.WayBox g.P.Port g.D.SlotDisk g.met.D.SlotDisk.only_now
    c.args.self.now
    (record c.args.self.now {
      ways = c.next.new.self;
      incoming =
          c.take_byte-in-Ok-Some-Incoming.new.self;
    })
    c.args.port.now c.take_byte-in-Ok-Some-Incoming.new.port c.args.disks.now
    (record c.args.disks.now { second = c.take_byte-in-Ok-Some-Incoming.new.disk }) Incoming
    (same_in c.args.self.now c.next.new.self c.take_byte-in-Ok-Some-Incoming.new.self)
    (disk_in c.args.disks.now c.take_byte-in-Ok-Some-Incoming.new.disk) c.args.byte c.line-line.result
    c.requires (λ stream has. subst (PartsByte c.next.new.self stream c.args.byte)
    (c.in-Ok-Some-Incoming.field-0-is ∙ ap Some c.in-Ok-Some-Incoming.field-0-0-is)
    (c.in-Ok-Some-Incoming.ensures.parts stream has)) c.line-line.ensures c.in-Err-take_byte-2.fault
    c.in-Err-take_byte-2.ensures)
