use Rattle.capture_text.proofs.Written.{written_parts, front_parts}
use Rattle.capture_text.proofs.writer.line_front.Goals as goal

pub returns : goal.returns
returns c = record {
  line = written_parts c.args.start _ _ _ _ _ c.ranges.start.fits c.new-front.ensures
      c.push_number.ensures.digits c.push.ensures.items c.push_fraction.ensures
      c.push-2.ensures.items;
  front = front_parts c.args.start _ _ _ _ _ c.new-front.ensures c.push_number.ensures.digits
      c.push.ensures.items c.push_fraction.ensures c.push-2.ensures.items;
}
