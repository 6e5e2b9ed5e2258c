use Rattle.sequence_journal.specs.Journal.{journal_floor}
use Rattle.std.proofs.Common.{◌≡◌, ◌∙◌, ◌++◌, List, [], ◌∷◌, ap, arith, length, refl, take}
use Rattle.{std.proofs.lemmas.List.length-take-le, trial_session.proofs.Counting.counts-run}
use Rattle.trial_session.proofs.SentRuns.{passes-as, passes-none, passes-run, passes-tick}
use Rattle.trial_session.proofs.SentRuns.{sends-run}
use Rattle.trial_session.specs.{Boxes.trial_setup, Links.link_sent, Sides.HasTaken}
use Rattle.yasir_ticks.specs.{TickRun.run_ticks, declared.tick.Tick.Tick}
use Rattle.trial_session.proofs.side.Side.send_on.Goals as goal

pub add_run-requires : goal.add_run-requires
add_run-requires g c =
    let n = c.forward-forwarded.result in
    let within = c.forward-forwarded.ensures.within in
    omega (
      arith,
      c.requires.link,
      within,
      ap length c.front.ensures,
      length-take-le n (run_ticks c.args.run) within,
    )

pub returns-then-forwarded-gt0-clause-len : goal.returns-then-forwarded-gt0-clause-len
returns-then-forwarded-gt0-clause-len g c =
    let n = c.forward-forwarded.result in
    omega (
      arith,
      c.add_run.ensures.len,
      ap length c.front.ensures,
      length-take-le n (run_ticks c.args.run) c.forward-forwarded.ensures.within,
    )

pub returns-then-forwarded-gt0-clause-sent : goal.returns-then-forwarded-gt0-clause-sent
returns-then-forwarded-gt0-clause-sent g c = λ line more sent.
    let counting = g.X.CountingBox.counting in
    sends-run g.X.LinkBox counting c.args.self.now _ line more _ _ (link_sent c.args.link.now)
    (link_sent c.add_run.new.self) sent
    (λ l t.
    let ran = c.forward-forwarded.ensures.run (journal_floor c.args.self.now.journal) trial_setup
    l t.stands in
    passes-run g.X.LinkBox counting c.args.self.now _ l _ _ _ refl ran.stands refl refl refl t
    (counts-run g.X.LinkBox.walking g.X.CountingBox.fate_of counting
    g.met.X.CountingBox.counts l _ _ ran.answers))
    (c.add_run.ensures.sent ∙ ap (λ l. link_sent c.args.link.now ++ l) c.front.ensures)

pub pass-taken-requires-clause-room : goal.pass-taken-requires-clause-room
pass-taken-requires-clause-room g c =
    omega (arith, c.requires.room, c.forward-forwarded.ensures.taken, c.if-forwarded-gt0.false)

pub returns-then-taken-gt0-clause-taken : goal.returns-then-taken-gt0-clause-taken
returns-then-taken-gt0-clause-taken g c = omega (
  arith,
  c.pass-taken.ensures.taken,
  c.forward-forwarded.ensures.taken,
  c.if-forwarded-gt0.false,
)

pub returns-then-taken-gt0-clause-sent : goal.returns-then-taken-gt0-clause-sent
returns-then-taken-gt0-clause-sent g c = λ line more sent.
    let counting = g.X.CountingBox.counting in
    let none : c.forward-forwarded.result ≡ 0 = omega (arith, c.if-forwarded-gt0.false) in
    let n = c.pass-taken.result in
    let pass = λ (l : List Tick) (t : HasTaken g.X.LinkBox counting c.args.self.now l).
    let ran = c.forward-forwarded.ensures.run (journal_floor c.args.self.now.journal) trial_setup
    l t.stands in
    passes-as g.X.LinkBox counting c.pass-taken.new.self l _ n _ _ c.as_slice.ensures.value
    (c.pass-taken.ensures.sent l
    (passes-none g.X.LinkBox counting _ l _ _
    (ap (λ k. take k (run_ticks c.args.run)) none)
    (passes-run g.X.LinkBox counting c.args.self.now _ l _ _ _ refl ran.stands refl refl refl t
    (counts-run g.X.LinkBox.walking g.X.CountingBox.fate_of counting
    g.met.X.CountingBox.counts l _ _ ran.answers)))) in
    sends-run g.X.LinkBox counting c.args.self.now c.pass-taken.new.self line more _ _
    (link_sent c.args.link.now) (link_sent c.add.new.self) sent pass
    (c.add.ensures.sent ((pass (line ++ more) sent.taken).long
    ∙ length-take-le n (run_ticks c.args.run) c.pass-taken.ensures.within))

pub step-requires-clause-room : goal.step-requires-clause-room
step-requires-clause-room g c = omega (
  arith,
  c.requires.some,
  c.requires.room,
  c.pass-taken.ensures.taken,
  c.forward-forwarded.ensures.taken,
  c.if-forwarded-gt0.false,
  c.if-taken-gt0.false,
)

pub returns-clause-taken : goal.returns-clause-taken
returns-clause-taken g c = omega (
  arith,
  c.step.ensures.taken,
  c.pass-taken.ensures.taken,
  c.forward-forwarded.ensures.taken,
  c.if-forwarded-gt0.false,
  c.if-taken-gt0.false,
)

pub returns-clause-sent : goal.returns-clause-sent
returns-clause-sent g c = λ line more sent.
    let counting = g.X.CountingBox.counting in
    let ticks = run_ticks c.args.run in
    let none : c.forward-forwarded.result ≡ 0 = omega (arith, c.if-forwarded-gt0.false) in
    let zero : c.pass-taken.result ≡ 0 = omega (arith, c.if-taken-gt0.false) in
    sends-run g.X.LinkBox counting c.args.self.now c.step.new.self line more _ (c.step.result ∷ [])
    (link_sent c.args.link.now) (link_sent c.add_tick.new.self) sent
    (λ l t.
    let ran = c.forward-forwarded.ensures.run (journal_floor c.args.self.now.journal) trial_setup
    l t.stands in
    passes-tick g.X.LinkBox counting c.step.new.self l _ c.step.result (take 1 ticks)
    (c.step.result ∷ []) (ap (take 1) c.first.ensures) refl
    (c.step.ensures.sent l
    (passes-none g.X.LinkBox counting _ l _ _
    (ap (λ k. take k ticks) zero)
    (c.pass-taken.ensures.sent l
    (passes-none g.X.LinkBox counting _ l _ _
    (ap (λ k. take k ticks) none)
    (passes-run g.X.LinkBox counting c.args.self.now _ l _ _ _ refl ran.stands refl refl refl t
    (counts-run g.X.LinkBox.walking g.X.CountingBox.fate_of counting
    g.met.X.CountingBox.counts l _ _ ran.answers)))))))
    c.add_tick.ensures.sent
