use Rattle.std.proofs.Common.{◌∙◌, sym, ap, subst, length}
use Rattle.trial_session.proofs.Periods.{line-none, state-none, link-none}
use Rattle.trial_session.specs.{Session.session_line, Sides.HasTaken, Sides.HasReceived}
use Rattle.trial_session.proofs.session.Session.new.Goals as goal

pub returns-clause-run : goal.returns-clause-run
returns-clause-run g c = λ drawing behind.
    let seed = c.args.seed in
    let none = line-none drawing behind seed in
    let link = link-none drawing behind seed
    (g.S.CountingBox.counting.other_line (session_line drawing seed 0)) in
    record {
      state_is = c.new.ensures ∙ sym (state-none drawing behind seed);
      seals_line = subst (HasTaken g.S.LinkBox g.S.CountingBox.counting c.new-2.result) (sym none)
          c.new-2.ensures.counts;
      link_long = ap (λ l. length (g.S.CountingBox.counting.other_line l)) none
          ∙ ap length c.new-2.ensures.nothing.no_tick;
      receives_link = subst (HasReceived g.C.LinkBox g.C.CountingBox.counting g.V.Device
          c.new-4.result) (sym link)
          c.new-4.ensures.received;
    }
