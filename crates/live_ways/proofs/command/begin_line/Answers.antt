use Rattle.live_line.specs.PlainBoxes.{plain_taken}
use Rattle.live_line.specs.declared.ways.Way.TheVariants.{Outgoing, Incoming}
use Rattle.live_ways.proofs.CommandBegins.{begins_both}
use Rattle.live_ways.specs.LineBegins.{plain_way, guarded_way, setups}
use Rattle.live_ways.specs.WayStreams.{line_of_boxes}
use Rattle.std.proofs.Common.{◌∙◌, ap}
use Rattle.live_ways.proofs.command.begin_line.Goals as goal

pub new-plain-requires-clause-whole : goal.new-plain-requires-clause-whole
new-plain-requires-clause-whole g c = c.requires.whole Outgoing

pub new-requires-clause-whole : goal.new-requires-clause-whole
new-requires-clause-whole g c = c.requires.whole Incoming

pub returns : goal.returns
returns g c =
    let ways = line_of_boxes g.B.LinkBox g.B.LineBox.line_of g.C.LinkBox g.C.LineBox.line_of
    g.G.LineSpacer c.args.of.now in
    begins_both (plain_way g.B.LinkBox g.B.LineBox.line_of)
    (guarded_way g.C.LinkBox g.C.LineBox.line_of g.G.LineSpacer) c.new-2.result c.args.journals
    ways.ahead (setups ways c.args.key.now c.args.journals) c.new-outgoing.result
    c.new-incoming.result c.new-2.ensures.outgoing c.new-2.ensures.incoming c.new-2.ensures.nothing
    (record {
      journal_is = c.new-outgoing.ensures.journal;
      most = c.new-outgoing.ensures.most;
      may = c.new-outgoing.ensures.may;
      ahead_by = c.new-outgoing.ensures.ahead;
      stands = c.new-outgoing.ensures.stands;
      none = ap (plain_taken g.B.LinkBox g.B.LineBox.line_of) c.new-outgoing.ensures.same
          ∙ c.new-plain.ensures.taken;
      taken = c.new-outgoing.ensures.taken
          (setups ways c.args.key.now c.args.journals Outgoing) c.new-plain.ensures.stands;
    })
    (record {
      journal_is = c.new-incoming.ensures.journal;
      most = c.new-incoming.ensures.most;
      may = c.new-incoming.ensures.may;
      ahead_by = c.new-incoming.ensures.ahead;
      stands = c.new-incoming.ensures.stands;
      none = ap (λ value. plain_taken g.C.LinkBox g.C.LineBox.line_of value.plain)
          c.new-incoming.ensures.same ∙ c.in-Ok.ensures.taken;
      taken = c.new-incoming.ensures.taken
          (setups ways c.args.key.now c.args.journals Incoming) c.in-Ok.ensures.stands;
    })
