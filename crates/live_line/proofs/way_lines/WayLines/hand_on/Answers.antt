use Rattle.live_line.proofs.Waiting.{port_same, port_wrote, port_failed, handed_all}
use Rattle.live_line.proofs.Waiting.{handed_fronts}
use Rattle.live_line.specs.WayLines.{way_outside}
use Rattle.line_texts.specs.Writer.{WriterHasWritten}
use Rattle.std.proofs.Common.{refl, arith, length, ap, subst, sym, []}
use Rattle.live_line.proofs.Ended.{ended_nil}
use Rattle.live_line.specs.WayText.{AreEnded}
use Rattle.live_line.proofs.way_lines.WayLines.hand_on.Goals as goal

pub returns-in-Err : goal.returns-in-Err
returns-in-Err g c = let did = c.in-Err.ensures in record {
  counted = ap g.X.WayBox.taken did.same;
  number = ap g.X.WayBox.number did.same;
  images = did.images;
  settled = λ e. cc;
  reached = λ e. cc;
  image = λ e. cc;
  disk = record {
    never_falls = did.cause.never_falls;
    failed = λ e. did.cause.failed;
    same = λ e. cc;
  };
  port = port_same g.P.Port c.args.port.now;
  may = tt;
  ahead = λ ahead e. cc;
  stands = λ e. cc;
  handed = tt;
  stops = (refl, did.failed);
}

pub returns-in-Err-hand_on_way : goal.returns-in-Err-hand_on_way
returns-in-Err-hand_on_way g c =
    let did = c.in-Ok.ensures in
    let wrote = c.in-Err-hand_on_way.ensures in
    record {
      counted = ap g.X.WayBox.taken did.same;
      number = ap g.X.WayBox.number did.same;
      images = did.images;
      settled = λ e. did.ok.settled;
      reached = λ e. did.ok.reached;
      image = λ e. did.ok.image;
      disk = record {
        never_falls = did.cause.never_falls;
        failed = λ e. cc;
        same = λ e. did.cause.same;
      };
      port = port_failed g.P.Port c.args.port.now c.hand_on_way.new.port _ wrote.cause;
      may = tt;
      ahead = λ ahead e. did.ok.ahead ahead;
      stands = λ e. did.ok.stands;
      handed = tt;
      stops = handed_fronts g.X.WayBox g.P.Port g.D.SlotDisk c.args.way
          (way_outside c.args.self.now c.args.port.now c.args.disk.now) c.settle.new.self
          c.note_text.result.now c.tick_text.result.now did.ok.closes c.note_text.ensures
          c.tick_text.ensures
          (way_outside c.settle.new.self c.hand_on_way.new.port c.settle.new.disk) _ wrote.hands
          did.ok.settled g.X.WayBox.number_is;
    }

pub returns : goal.returns
returns g c =
    let did = c.in-Ok.ensures in
    let wrote = c.in-Ok-hand_on_way.ensures in
    let empty = c.empty.ensures in
    record {
      counted = ap g.X.WayBox.taken did.same;
      number = ap g.X.WayBox.number did.same;
      images = record {
        link = did.images.link;
        most = did.images.most;
        settles = did.images.settles;
        rises = did.images.rises;
        is_kept = did.images.is_kept;
        any_moment = did.images.any_moment;
      };
      settled = λ e. did.ok.settled;
      reached = λ e. did.ok.reached;
      image = λ e. did.ok.image;
      disk = record {
        never_falls = did.cause.never_falls;
        failed = λ e. cc;
        same = λ e. did.cause.same;
      };
      port = port_wrote g.P.Port c.args.port.now c.hand_on_way.new.port wrote.cause;
      may = record {
        ready = subst g.X.WayBox.ready (sym did.same) c.requires.may.ready;
        room = record {
          ticks = omega (arith, ap length empty.ticks);
          notes = omega (arith, ap length empty.notes);
        };
        ended = subst AreEnded (sym empty.notes) ended_nil;
        level = omega (arith, did.ok.settled, ap g.X.WayBox.number did.same);
      };
      ahead = λ ahead e. let level = did.ok.ahead ahead in
          record { covers = level.covers; within = level.within };
      stands = λ e. did.ok.stands;
      handed = handed_all g.X.WayBox g.P.Port g.D.SlotDisk c.args.way
          (way_outside c.args.self.now c.args.port.now c.args.disk.now) c.settle.new.self
          c.note_text.result.now c.tick_text.result.now did.ok.closes c.note_text.ensures
          c.tick_text.ensures
          (way_outside (record c.settle.new.self { texts = c.empty.new.self })
          c.hand_on_way.new.port c.settle.new.disk) wrote.hands
          (λ setup line stood. subst (λ v. g.X.WayBox.stands v setup line) (sym did.same) stood)
          did.ok.settled
          (record {
            written = subst (WriterHasWritten c.empty.new.self.writer []) (sym empty.ticks)
                empty.written;
            notes_are = empty.notes;
          })
          g.X.WayBox.number_is;
      stops = tt;
    }
