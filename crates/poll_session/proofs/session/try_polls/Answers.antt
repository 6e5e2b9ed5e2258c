use Rattle.link_format.specs.declared.dir.Dir.TheVariants.{Ab, Ba}
use Rattle.poll_session.proofs.Ending.{is-end}
use Rattle.poll_session.specs.Asking.{AsksDrawn, requests_drawn}
use Rattle.poll_session.specs.Polled.{waits_at_master, waits_at_devices}
use Rattle.std.proofs.Common.{◌∙◌, ◌++◌, ap, arith, inl, inr, subst, sym, take}
use Rattle.two_wire.specs.declared.gate.Side.TheVariants.{Asks, Answers}
use Rattle.poll_session.proofs.session.try_polls.Goals as goal

pub summary-requires-clause-sealed_a : goal.summary-requires-clause-sealed_a
summary-requires-clause-sealed_a g c = (c.in-Ok-run_out.ensures.run c.args.seed
    (c.in-Ok.ensures.run c.args.seed c.new-session.ensures.run)).at_a.watched.seals.holds.whole

pub summary-requires-clause-sealed_b : goal.summary-requires-clause-sealed_b
summary-requires-clause-sealed_b g c = (c.in-Ok-run_out.ensures.run c.args.seed
    (c.in-Ok.ensures.run c.args.seed c.new-session.ensures.run)).at_b.watched.seals.holds.whole

pub summary-requires-clause-read_a : goal.summary-requires-clause-read_a
summary-requires-clause-read_a g c = (c.in-Ok-run_out.ensures.run c.args.seed
    (c.in-Ok.ensures.run c.args.seed c.new-session.ensures.run)).at_a.listens.holds.whole

pub summary-requires-clause-read_b : goal.summary-requires-clause-read_b
summary-requires-clause-read_b g c = (c.in-Ok-run_out.ensures.run c.args.seed
    (c.in-Ok.ensures.run c.args.seed c.new-session.ensures.run)).at_b.listens.holds.whole

pub returns : goal.returns
returns g c =
    let set_up = c.in-Ok-run_out.ensures.set_up c.args.delay c.args.count
    (c.in-Ok.ensures.set_up c.args.delay c.args.count c.new-session.ensures.set_up) in
    let run = c.in-Ok-run_out.ensures.run c.args.seed
    (c.in-Ok.ensures.run c.args.seed c.new-session.ensures.run) in
    let drawing = g.R.DrawnFrames.drawing in
    let session = c.run_out.new.self in
    let master = session.master in
    let count_is = set_up.count_is in
    let within = master.within in
    let long = run.long in
    let grows = c.in-Ok-run_out.ensures.grows in
    let ticks = c.in-Ok-run_out.ensures.ticks in
    let asked = c.summary.ensures.asked in
    let end = is-end g.S.LinkBox g.C.LinkBox g.X.FrameBox g.Y.FrameBox g.V.Device c.requires.same
    c.steady_ends_make_the_wires.ensures in
    let asks : AsksDrawn drawing c.args.seed c.args.count master.asked run.master = record {
      within = omega (arith, within, count_is);
      begun = master.at;
      says = run.asked.asks
          ∙ ap (λ f. requests_drawn drawing c.args.seed master.asked ++ take master.at f)
          run.asked.frame_is;
      whole = λ all. run.asked.ends (all ∙ sym count_is);
    } in
    record {
      a = run.a;
      b = run.b;
      master = run.master;
      devices = run.devices;
      deaf_master = run.deaf_master;
      deaf_device = run.deaf_device;
      end_a = end Ab session.a Answers (waits_at_master c.args.delay) run.a run.master run.deaf_master
          run.at_a set_up.side_a set_up.waits_a;
      end_b = end Ba session.b Asks (waits_at_devices c.args.delay) run.b run.devices run.deaf_device
          run.at_b set_up.side_b set_up.waits_b;
      same_link = run.same_link;
      asks = subst (λ n. AsksDrawn drawing c.args.seed c.args.count n run.master) (sym asked) asks;
      ends = elim c.in-Ok.ensures.ends [
        | inl all ↦ inl (omega (arith, all, grows, within, count_is, asked))
        | inr over ↦ inr (omega (arith, over, ticks, long))
      ];
      requests_are = c.summary.ensures.requests run.a run.b run.master run.deaf_master run.devices
          run.deaf_device run.at_a run.at_b;
      answers_are = c.summary.ensures.answers run.b run.a run.devices run.deaf_device run.master
          run.deaf_master run.at_b run.at_a;
    }
