use Rattle.session_lists.proofs.HeardRuns.{hears-nothing, slice_rest, bytes_on}
use Rattle.session_lists.specs.ReplayLists.{Listens}
use Rattle.std.proofs.Common.{◌≡◌, ◌++◌, ap, subst, arith, length, length-drop, map, take}
use Rattle.{std.proofs.lemmas.List.take_all, yasir_ticks.specs.declared.tick.Tick.TheVariants.Byte}
use Rattle.session_lists.proofs.hearing.hear_bytes.Goals as goal

pub loop-done-init : goal.loop-done-init
loop-done-init g c = record {
  within = omega arith;
  taken = omega arith;
  ok = λ line listens. hears-nothing g.V.Device c.args.device.now c.args.frames.now line listens;
}

pub hear_some-requires : goal.hear_some-requires
hear_some-requires g c = omega (
  arith,
  c.requires,
  c.loop-done.invariant.taken,
  c.loop-done.invariant.within,
  ap length (slice_rest c.args.bytes.now c.loop-done.done),
  length-drop c.loop-done.done c.args.bytes.now,
)

pub loop-done-preserved : goal.loop-done-preserved
loop-done-preserved g c = record {
  within = omega (
    arith,
    c.in-Ok.ensures.within,
    c.loop-done.invariant.within,
    ap length (slice_rest c.args.bytes.now c.loop-done.done),
    length-drop c.loop-done.done c.args.bytes.now,
  );
  taken = omega (arith, c.in-Ok.ensures.taken, c.loop-done.invariant.taken);
  ok = λ line listens.
      let at = c.in-Ok.ensures.ok (line ++ map Byte (take c.loop-done.done c.args.bytes.now))
      (c.loop-done.invariant.ok line listens) in
      subst (Listens g.V.Device c.hear_some.new.device c.hear_some.new.frames)
      (bytes_on line c.args.bytes.now c.loop-done.done c.in-Ok.count)
      (subst (λ x. Listens g.V.Device c.hear_some.new.device c.hear_some.new.frames
      ((line ++ map Byte (take c.loop-done.done c.args.bytes.now)) ++ map Byte
      (take c.in-Ok.count x)))
      (slice_rest c.args.bytes.now c.loop-done.done) at);
}

pub returns-clause-taken : goal.returns-clause-taken
returns-clause-taken g c =
    omega (arith, c.loop-done.invariant.taken, c.loop-done.invariant.within)

pub returns-clause-ok : goal.returns-clause-ok
returns-clause-ok g c = λ line listens.
    let all : take c.loop-done.done c.args.bytes.now ≡ c.args.bytes.now =
    take_all c.loop-done.done c.args.bytes.now (omega arith) in
    subst (λ x. Listens g.V.Device c.loop-done.device c.loop-done.frames (line ++ map Byte x)) all
    (c.loop-done.invariant.ok line listens)
