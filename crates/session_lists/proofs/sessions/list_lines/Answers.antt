use Rattle.std.proofs.Common.{arith, ap}
use Rattle.session_lists.specs.SessionLists.{all_rests, rest_left}
use Rattle.session_lists.proofs.sessions.list_lines.Goals as goal

pub take_lines-requires-clause-room : goal.take_lines-requires-clause-room
take_lines-requires-clause-room g c =
    let left = ap (rest_left c.args.lists.now.timing.link_rest) c.requires.fresh.first in
    omega (arith, left, c.requires.short, c.requires.fresh.none, c.requires.fresh.short)

pub rest-requires-clause-room : goal.rest-requires-clause-room
rest-requires-clause-room g c =
    let left = ap (rest_left c.args.lists.now.timing.link_rest) c.requires.fresh.first in
    omega (
      arith,
      left,
      c.in-Ok.ensures.taken,
      ap all_rests c.in-Ok.ensures.timing,
      c.requires.short,
      c.requires.fresh.none,
      c.requires.fresh.short,
    )

pub returns : goal.returns
returns g c =
    let left = ap (rest_left c.args.lists.now.timing.link_rest) c.requires.fresh.first in record {
      has = λ setups has. c.in-Ok-rest.ensures.rests setups _ _ _ (c.in-Ok.ensures.has setups has);
      able = c.in-Ok-rest.ensures.able;
      few = omega (
        arith,
        left,
        c.in-Ok.ensures.taken,
        c.in-Ok-rest.ensures.taken,
        ap all_rests c.in-Ok.ensures.timing,
        c.requires.short,
        c.requires.fresh.none,
        c.requires.fresh.short,
      );
    }
