use Rattle.live_ways.proofs.Hearing.{goes_read, goes_failed, hears_none, hears_failed, hears_more}
use Rattle.live_ways.proofs.Hearing.{hears_ended, hears_all, hears_too_much, ready_read}
use Rattle.live_ways.specs.LiveLine.{line_at}
use Rattle.std.proofs.Common.{take, ap, sym, arith, refl, inl, inr}
use Rattle.std.proofs.lemmas.List.{length-take-le}
use Rattle.live_ways.proofs.both_ways.LiveLine.hear.Goals as goal

pub loop-bytes-init : goal.loop-bytes-init
loop-bytes-init g c = hears_none g.X.WayBox g.Y.WayBox g.P.Port g.D.SlotDisk g.met.D.SlotDisk.only_now
    (line_at c.args.self.now c.args.port.now c.args.disks.now) c.requires

pub returns-in-Err : goal.returns-in-Err
returns-in-Err g c = inl (
  refl,
  hears_failed g.X.WayBox g.Y.WayBox g.P.Port g.D.SlotDisk
      (line_at c.args.self.now c.args.port.now c.args.disks.now) (line_at c.loop-bytes.self
      c.loop-bytes.port c.loop-bytes.disks)
      c.loop-bytes.bytes c.loop-bytes.invariant c.read_ways.new.port c.in-Err.ensures.err
      c.in-Err.ensures.left_same (goes_failed g.X.WayBox g.Y.WayBox g.P.Port g.D.SlotDisk
      g.met.D.SlotDisk.only_now
      (line_at c.loop-bytes.self c.loop-bytes.port c.loop-bytes.disks) c.read_ways.new.port
      c.in-Err.ensures.outputs c.in-Err.field-0 c.in-Err.ensures.cause),
)

pub returns-then-count-eq0 : goal.returns-then-count-eq0
returns-then-count-eq0 g c = hears_all g.X.WayBox g.Y.WayBox g.P.Port g.D.SlotDisk
    (line_at c.args.self.now c.args.port.now c.args.disks.now) (line_at c.loop-bytes.self
    c.loop-bytes.port c.loop-bytes.disks)
    c.loop-bytes.bytes c.loop-bytes.invariant c.read_ways.new.port
    (take c.in-Ok.count c.read_ways.new.buf) c.in-Ok.ensures.bytes c.in-Ok.ensures.left
    (goes_read g.X.WayBox g.Y.WayBox g.P.Port g.D.SlotDisk g.met.D.SlotDisk.only_now
    (line_at c.loop-bytes.self c.loop-bytes.port c.loop-bytes.disks) c.read_ways.new.port
    c.in-Ok.ensures.outputs c.in-Ok.count c.in-Ok.ensures.cause)
    (ap (λ n. take n c.read_ways.new.buf) c.if-count-eq0.true)
    (c.in-Ok.ensures.end c.if-count-eq0.true (omega arith))

pub take_piece-requires : goal.take_piece-requires
take_piece-requires g c = ready_read g.X.WayBox g.Y.WayBox g.P.Port g.D.SlotDisk
    (line_at c.loop-bytes.self c.loop-bytes.port c.loop-bytes.disks) c.read_ways.new.port
    c.loop-bytes.invariant.ready

pub returns-in-Err-take_piece : goal.returns-in-Err-take_piece
returns-in-Err-take_piece g c = let ended = c.in-Err-take_piece.ensures in
    inr (
      ended.no_read,
      hears_ended g.X.WayBox g.Y.WayBox g.P.Port g.D.SlotDisk
          (line_at c.args.self.now c.args.port.now c.args.disks.now) (line_at c.loop-bytes.self
          c.loop-bytes.port c.loop-bytes.disks)
          c.loop-bytes.bytes c.loop-bytes.invariant c.read_ways.new.port
          (take c.in-Ok.count c.read_ways.new.buf) c.in-Ok.ensures.bytes c.in-Ok.ensures.left
          (goes_read g.X.WayBox g.Y.WayBox g.P.Port g.D.SlotDisk g.met.D.SlotDisk.only_now
          (line_at c.loop-bytes.self c.loop-bytes.port c.loop-bytes.disks) c.read_ways.new.port
          c.in-Ok.ensures.outputs c.in-Ok.count c.in-Ok.ensures.cause)
          (line_at c.take_piece.new.self c.take_piece.new.port c.take_piece.new.disks)
          c.in-Err-take_piece.end ended,
    )

pub loop-bytes-preserved : goal.loop-bytes-preserved
loop-bytes-preserved g c = hears_more g.X.WayBox g.Y.WayBox g.P.Port g.D.SlotDisk
    (line_at c.args.self.now c.args.port.now c.args.disks.now) (line_at c.loop-bytes.self
    c.loop-bytes.port c.loop-bytes.disks)
    c.loop-bytes.bytes c.loop-bytes.invariant c.read_ways.new.port
    (take c.in-Ok.count c.read_ways.new.buf) c.in-Ok.ensures.bytes c.in-Ok.ensures.left
    (goes_read g.X.WayBox g.Y.WayBox g.P.Port g.D.SlotDisk g.met.D.SlotDisk.only_now
    (line_at c.loop-bytes.self c.loop-bytes.port c.loop-bytes.disks) c.read_ways.new.port
    c.in-Ok.ensures.outputs c.in-Ok.count c.in-Ok.ensures.cause)
    (line_at c.take_piece.new.self c.take_piece.new.port c.take_piece.new.disks) c.in-Ok.count
    (sym (length-take-le c.in-Ok.count c.read_ways.new.buf c.in-Ok.ensures.within))
    c.in-Ok-take_piece.ensures

pub returns : goal.returns
returns g c = hears_too_much g.X.WayBox g.Y.WayBox g.P.Port g.D.SlotDisk
    (line_at c.args.self.now c.args.port.now c.args.disks.now) (line_at c.loop-bytes.self
    c.loop-bytes.port c.loop-bytes.disks)
    c.loop-bytes.bytes c.loop-bytes.invariant (omega (arith, c.loop-bytes-test.false))
