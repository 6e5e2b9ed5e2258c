use Rattle.command_ends.specs.Links.{device_reads}
use Rattle.command_ends.specs.declared.link.Proto.TheVariants.{Rtu, Dnp3}
use Rattle.link_replay.proofs.Flushing.{input-causes, disk-of-frames}
use Rattle.{link_replay.specs.declared.words.Command.TheVariants.Read, std.proofs.Common.refl}
use Rattle.link_replay.proofs.commands.read.read_line.Goals.{in-Rtu-with_device, in-Dnp3-with_device}
use Rattle.link_replay.proofs.commands.read.read_line.Goals as goal

pub returns-clause-reads : goal.returns-clause-reads
returns-clause-reads g c = elim c.match-with_device.branch [
  | in-Rtu-with_device w ↦
      rw (w.in-Rtu-with_device.is, w.input-is, w.out-is, w.log-is, w.with_device-is) (record {
        frames = w.read_frames.ensures.frames;
        log = w.read_frames.ensures.log;
        key = refl;
        disk = refl;
      })
  | in-Dnp3-with_device w ↦
      rw (w.in-Dnp3-with_device.is, w.input-is, w.out-is, w.log-is, w.with_device-is) (record {
        frames = w.read_frames-2.ensures.frames;
        log = w.read_frames-2.ensures.log;
        key = refl;
        disk = refl;
      })
]

pub returns-clause-causes : goal.returns-clause-causes
returns-clause-causes g c = elim c.match-with_device.branch [
  | in-Rtu-with_device w ↦
      let made = w.read_frames.ensures in
      rw (w.input-is, w.out-is, w.log-is, w.with_device-is)
      (input-causes _ _ _ _ _ (Read c.args.proto) _ _ _ _ _ _ _ _ w.read_frames.result made.input
      made.sinks made.flushes (
        made.input,
        disk-of-frames (device_reads Rtu) _ _ _ _ (g.D.SlotDisk.faults c.args.ends.disk.now)
            w.read_frames.result made.frames,
      ))
  | in-Dnp3-with_device w ↦
      let made = w.read_frames-2.ensures in
      rw (w.input-is, w.out-is, w.log-is, w.with_device-is)
      (input-causes _ _ _ _ _ (Read c.args.proto) _ _ _ _ _ _ _ _ w.read_frames-2.result made.input
      made.sinks made.flushes (
        made.input,
        disk-of-frames (device_reads Dnp3) _ _ _ _ (g.D.SlotDisk.faults c.args.ends.disk.now)
            w.read_frames-2.result made.frames,
      ))
]
