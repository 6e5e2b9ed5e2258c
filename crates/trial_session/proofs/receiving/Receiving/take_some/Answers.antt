use Rattle.std.proofs.Common.{◌≡◌, ◌∙◌, [], ◌∷◌, ap, arith, refl, take}
use Rattle.{std.proofs.lemmas.List.length-take-le, yasir_ticks.specs.TickRun.run_ticks}
use Rattle.trial_session.proofs.{HeardRuns.receives-run, SentRuns.passes-as}
use Rattle.trial_session.proofs.SentRuns.{passes-none, passes-tick}
use Rattle.trial_session.proofs.receiving.Receiving.take_some.Goals as goal

pub hear-requires-clause-room : goal.hear-requires-clause-room
hear-requires-clause-room g c = omega (
  arith,
  c.requires.room,
  c.requires.able.heard_ticks,
  c.pass-taken.ensures.within,
)

pub returns-then-taken-gt0-clause-able : goal.returns-then-taken-gt0-clause-able
returns-then-taken-gt0-clause-able g c = record {
  may_check = c.pass-taken.ensures.able;
  read_few = c.hear.ensures.few;
  heard_ticks = omega (
    arith,
    c.hear.ensures.taken,
    c.pass-taken.ensures.taken,
    c.requires.able.heard_ticks,
  );
}

pub returns-then-taken-gt0-clause-received : goal.returns-then-taken-gt0-clause-received
returns-then-taken-gt0-clause-received g c = λ link so.
    let counting = g.C.CountingBox.counting in
    let n = c.pass-taken.result in
    let ticks = run_ticks c.args.run in
    receives-run g.C.LinkBox counting g.V.Device c.args.self.now _ _ _ _ _ _ so
    (λ l t. passes-as g.C.LinkBox counting c.pass-taken.new.self l _ n _ _
    c.as_slice.ensures.value (c.pass-taken.ensures.sent l t))
    (c.hear.ensures.heard ((passes-as g.C.LinkBox counting c.pass-taken.new.self _ _ n _ _
    c.as_slice.ensures.value (c.pass-taken.ensures.sent _ so.checks_link)).long
    ∙ length-take-le n ticks c.pass-taken.ensures.within))

pub step-tick-requires-clause-room : goal.step-tick-requires-clause-room
step-tick-requires-clause-room g c = omega (
  arith,
  c.requires.some,
  c.requires.room,
  c.pass-taken.ensures.taken,
  c.if-taken-gt0.false,
)

pub hear_tick-requires-clause-room : goal.hear_tick-requires-clause-room
hear_tick-requires-clause-room g c = omega (
  arith,
  c.requires.some,
  c.requires.room,
  c.requires.able.heard_ticks,
)

pub returns-clause-able : goal.returns-clause-able
returns-clause-able g c = record {
  may_check = c.step-tick.ensures.able;
  read_few = c.hear_tick.ensures.few;
  heard_ticks = omega (
    arith,
    c.hear_tick.ensures.taken,
    c.step-tick.ensures.taken,
    c.pass-taken.ensures.taken,
    c.if-taken-gt0.false,
    c.requires.able.heard_ticks,
  );
}

pub returns-clause-taken : goal.returns-clause-taken
returns-clause-taken g c = omega (
  arith,
  c.step-tick.ensures.taken,
  c.pass-taken.ensures.taken,
  c.if-taken-gt0.false,
)

pub returns-clause-received : goal.returns-clause-received
returns-clause-received g c = λ link so.
    let counting = g.C.CountingBox.counting in
    let ticks = run_ticks c.args.run in
    let zero : c.pass-taken.result ≡ 0 = omega (arith, c.if-taken-gt0.false) in
    receives-run g.C.LinkBox counting g.V.Device c.args.self.now _ _ _ _ (take 1 ticks)
    (c.step-tick.result ∷ []) so
    (λ l t. passes-tick g.C.LinkBox counting c.step-tick.new.self l _ c.step-tick.result
    (take 1 ticks) (c.step-tick.result ∷ []) (ap (take 1) c.first.ensures) refl
    (c.step-tick.ensures.sent l
    (passes-none g.C.LinkBox counting _ l _ _ (ap (λ k. take k ticks) zero)
    (c.pass-taken.ensures.sent l t))))
    c.hear_tick.ensures.heard
