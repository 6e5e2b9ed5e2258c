use Rattle.std.proofs.Common.{arith}
use Rattle.tick_drive.proofs.ItemLaws.{length-ticks_in-silence}
use Rattle.tick_drive.proofs.Driving.{rest_taken, rest_stops, other_ends, few-whole}
use Rattle.tick_drive.proofs.input_loop.drive_to_rest.Goals as goal

pub give_silence-requires : goal.give_silence-requires
give_silence-requires g c =
    let driven = c.in-Whole.ensures.driven in record {
      room = omega (
        arith,
        driven.gives.counted,
        c.requires.fresh.none,
        length-ticks_in-silence c.args.rest,
        c.ranges.rest.fits,
        few-whole _ _ _ driven.items driven.takes,
      );
      able = driven.gives.is_able;
    }

pub returns-in_default : goal.returns-in_default
returns-in_default g c = record {
  driven = other_ends g.C.Consumer.meaning g.met.C.Consumer.went_then _ c.args.rest
      _ _ _ _ _ c.in_default.not-Whole c.drive.ensures.driven;
  read = c.drive.ensures.read;
}

pub returns-in-Err-clause-driven : goal.returns-in-Err-clause-driven
returns-in-Err-clause-driven g c = rest_stops g.C.Consumer.meaning g.met.C.Consumer.went_then
    _ c.args.rest _ _ _ _ _ _ c.in-Whole.ensures.driven c.in-Err.ensures

pub returns-in-Ok-clause-driven : goal.returns-in-Ok-clause-driven
returns-in-Ok-clause-driven g c = rest_taken g.C.Consumer.meaning g.met.C.Consumer.went_then
    _ c.args.rest _ _ _ _ _ c.in-Whole.ensures.driven c.in-Ok.ensures
