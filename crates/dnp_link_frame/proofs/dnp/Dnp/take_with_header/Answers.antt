use Rattle.dnp_link_frame.{proofs.DnpRuns.take_rest, specs.Dnp.DnpStandsFor, specs.Rules.dnp_rules}
use Rattle.line_rules.proofs.Taking.{HasTaken, taken-more}
use Rattle.std.proofs.Common.{◌+◌}
use Rattle.dnp_link_frame.proofs.dnp.Dnp.take_with_header.Goals as goal

with_user : (c : goal.After-take_behind_header)
    → HasTaken dnp_rules DnpStandsFor c.args.self.now c.args.part.now c.take_behind_header.new.self
    (c.take_of_header-header.result + c.take_behind_header.result)
with_user c =
    taken-more dnp_rules DnpStandsFor c.args.self.now c.args.part.now
    c.take_of_header-header.new.self c.take_behind_header.new.self c.take_of_header-header.result
    c.take_behind_header.result _ (take_rest c.take_of_header-header.result c.args.part.now)
    (record {
      stands_for = c.take_of_header-header.ensures.stands;
      had_room = c.take_of_header-header.ensures.room;
    })
    c.take_behind_header.ensures.stands c.take_behind_header.ensures.room

pub returns-clause-stands : goal.returns-clause-stands
returns-clause-stands c = (with_user c).stands_for

pub returns-clause-room : goal.returns-clause-room
returns-clause-room c = (with_user c).had_room
