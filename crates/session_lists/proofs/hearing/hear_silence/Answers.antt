use Rattle.session_lists.proofs.HeardRuns.{hears-nothing, silent_on}
use Rattle.{session_lists.specs.ReplayLists.Listens, std.proofs.Common.◌≡◌, std.proofs.Common.◌++◌}
use Rattle.{std.proofs.Common.subst, std.proofs.Common.arith, yasir_ticks.specs.Ticks.silent}
use Rattle.session_lists.proofs.hearing.hear_silence.Goals as goal

pub loop-done-init : goal.loop-done-init
loop-done-init g c = record {
  within = omega arith;
  taken = omega arith;
  few = omega arith;
  ok = λ line listens. hears-nothing g.V.Device c.args.device.now c.args.frames.now line listens;
}

pub wait_some-requires : goal.wait_some-requires
wait_some-requires g c = omega (
  arith,
  c.requires,
  c.loop-done.invariant.taken,
  c.loop-done.invariant.within,
)

pub loop-done-preserved : goal.loop-done-preserved
loop-done-preserved g c = record {
  within = omega (arith, c.in-Ok.ensures.within, c.loop-done.invariant.within);
  taken = omega (arith, c.in-Ok.ensures.taken, c.loop-done.invariant.taken);
  few = omega (arith, c.in-Ok.ensures.few (omega arith), c.loop-done.invariant.few);
  ok = λ line listens.
      subst (Listens g.V.Device c.wait_some.new.device c.wait_some.new.frames)
      (silent_on line c.loop-done.done c.in-Ok.count)
      (c.in-Ok.ensures.ok (line ++ silent c.loop-done.done)
      (c.loop-done.invariant.ok line listens));
}

pub returns-clause-taken : goal.returns-clause-taken
returns-clause-taken g c =
    omega (arith, c.loop-done.invariant.taken, c.loop-done.invariant.within)

pub returns-clause-few : goal.returns-clause-few
returns-clause-few g c =
    omega (arith, c.loop-done.invariant.few, c.loop-done.invariant.within)

pub returns-clause-ok : goal.returns-clause-ok
returns-clause-ok g c = λ line listens.
    let all : c.loop-done.done ≡ c.args.ticks = omega (arith, c.loop-done.invariant.within) in
    subst (λ n. Listens g.V.Device c.loop-done.device c.loop-done.frames (line ++ silent n)) all
    (c.loop-done.invariant.ok line listens)
