use Rattle.std.proofs.Common.{◌∙◌, ap, arith, length}
use Rattle.{std.proofs.lemmas.List.length-replicate, trial_session.proofs.HeardRuns.receives-none}
use Rattle.yasir_ticks.specs.declared.tick.Tick.TheVariants.{Silent}
use Rattle.trial_session.proofs.receiving.Receiving.take_silence.Goals as goal

pub take_run-requires-clause-able : goal.take_run-requires-clause-able
take_run-requires-clause-able g c = record {
  may_check = c.requires.able.may_check;
  read_few = c.requires.able.read_few;
  heard_ticks = omega (
    arith,
    c.requires.able.heard_ticks,
    ap length c.new-waiting.ensures,
  );
}

pub settle-requires-clause-few : goal.settle-requires-clause-few
settle-requires-clause-few g c = c.take_run.ensures.able.read_few

pub settle-requires-clause-room : goal.settle-requires-clause-room
settle-requires-clause-room g c = omega (
  arith,
  c.take_run.ensures.able.heard_ticks,
  c.take_run.ensures.taken,
  c.requires.room,
  length-replicate c.args.ticks Silent,
)

pub returns-clause-able : goal.returns-clause-able
returns-clause-able g c = record {
  may_check = c.take_run.ensures.able.may_check;
  read_few = c.settle.ensures.few;
  heard_ticks = c.settle.ensures.taken ∙ c.take_run.ensures.able.heard_ticks;
}

pub returns-clause-received : goal.returns-clause-received
returns-clause-received g c = λ link received.
    let so = c.take_run.ensures.received link (receives-none g.C.LinkBox g.C.CountingBox.counting
    g.V.Device
    c.args.self.now c.new-waiting.result.items link c.new-waiting.ensures received) in
    record {
      checks_link = so.checks_link;
      hears_line = c.settle.ensures.heard _ so.hears_line;
    }
