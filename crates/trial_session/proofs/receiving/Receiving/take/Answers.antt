use Rattle.{std.proofs.Common.◌∙◌, std.proofs.Common.◌++◌}
use Rattle.std.proofs.Common.{ap, subst, sym, arith, length, take, drop, append_assoc, append-nil}
use Rattle.{std.proofs.lemmas.List.take_all, trial_session.proofs.HeardRuns.receives-none}
use Rattle.trial_session.{proofs.Behind.link-long, proofs.SentRuns.take-some, specs.Links.link_sent}
use Rattle.{trial_session.specs.Sides.IsReceiving, yasir_ticks.specs.TickRun.run_ticks}
use Rattle.trial_session.proofs.receiving.Receiving.take.Goals as goal

pub loop-at-init : goal.loop-at-init
loop-at-init g c = (
  omega arith,
  record {
    may_check = c.requires.able.may_check;
    read_few = c.requires.able.read_few;
    heard_ticks = omega (
      arith,
      c.requires.able.heard_ticks,
      ap length c.new-waiting.ensures,
    );
  },
  omega arith,
  λ link received. subst (IsReceiving g.C.LinkBox g.C.CountingBox.counting g.V.Device
      c.args.self.now
      c.new-waiting.result.items) (sym (append-nil link))
      (receives-none g.C.LinkBox g.C.CountingBox.counting g.V.Device c.args.self.now
      c.new-waiting.result.items link
      c.new-waiting.ensures received),
)

pub loop-at-preserved : goal.loop-at-preserved
loop-at-preserved g c =
    let at = c.loop-at.at in
    let ticks = link_sent c.args.link.now in
    let run = run_ticks c.run_from-run.result in
    let before = c.loop-at.invariant in
    let long = c.len-at.ensures in (
      omega (arith, before.0, c.run_from-run.ensures.within, long),
      c.take_run.ensures.able,
      omega (arith, c.take_run.ensures.taken, before.2, long),
      λ line received. subst (IsReceiving g.C.LinkBox g.C.CountingBox.counting g.V.Device
          c.take_run.new.self c.take_run.new.waiting.items)
          (append_assoc line (take at ticks) run
          ∙ ap (λ l. line ++ l) (ap (λ r. take at ticks ++ r) (sym c.run_from-run.ensures.ticks)
          ∙ ap (λ n. take at ticks ++ take n (drop at ticks)) (sym long)
          ∙ sym (take-some at c.len-at.result ticks)))
          (c.take_run.ensures.received _ (before.3 line received)),
    )

pub settle-requires-clause-few : goal.settle-requires-clause-few
settle-requires-clause-few g c = c.loop-at.invariant.1.read_few

pub settle-requires-clause-room : goal.settle-requires-clause-room
settle-requires-clause-room g c = omega (
  arith,
  c.loop-at.invariant.0,
  c.loop-at.invariant.1.heard_ticks,
  c.loop-at.invariant.2,
  c.requires.room,
)

pub returns-clause-able : goal.returns-clause-able
returns-clause-able g c = record {
  may_check = c.loop-at.invariant.1.may_check;
  read_few = c.settle.ensures.few;
  heard_ticks = c.settle.ensures.taken ∙ c.loop-at.invariant.1.heard_ticks;
}

pub returns-clause-received : goal.returns-clause-received
returns-clause-received g c = λ line received.
    let link = c.args.link.now in
    let few = link-long link in
    let so = subst (λ l. IsReceiving g.C.LinkBox g.C.CountingBox.counting g.V.Device c.loop-at.self
    c.loop-at.waiting.items (line ++ l))
    (take_all c.loop-at.at (link_sent link) (omega (
      arith,
      few,
      c.len.ensures,
      c.loop-at-test.false,
    )))
    (c.loop-at.invariant.3 line received) in
    record {
      checks_link = so.checks_link;
      hears_line = c.settle.ensures.heard _ so.hears_line;
    }
