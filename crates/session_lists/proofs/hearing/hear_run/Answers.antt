use Rattle.session_lists.{proofs.HeardRuns.answered-heard, specs.ReplayLists.Listens}
use Rattle.std.proofs.Common.{◌≤◌, ◌++◌, subst, arith, length, map, take}
use Rattle.std.proofs.lemmas.{List.length-take-le, Result.on_ok_weaker}
use Rattle.yasir_ticks.specs.declared.tick.Tick.TheVariants.{Byte}
use Rattle.session_lists.proofs.hearing.hear_run.Goals as goal

pub hear_bytes-requires : goal.hear_bytes-requires
hear_bytes-requires g c =
    let few : c.min-heard.result ≤ length c.args.sent.now = omega (arith, c.min-heard.ensures) in
    omega (
      arith,
      c.requires,
      c.min-heard.ensures,
      length-take-le c.min-heard.result c.args.sent.now few,
    )

pub hear_silence-requires : goal.hear_silence-requires
hear_silence-requires g c =
    let few : c.min-heard.result ≤ length c.args.sent.now = omega (arith, c.min-heard.ensures) in
    omega (
      arith,
      c.requires,
      c.min-heard.ensures,
      c.in-Ok.ensures.taken,
      length-take-le c.min-heard.result c.args.sent.now few,
    )

pub returns-in-Ok-clause-taken : goal.returns-in-Ok-clause-taken
returns-in-Ok-clause-taken g c =
    let few : c.min-heard.result ≤ length c.args.sent.now = omega (arith, c.min-heard.ensures) in
    on_ok_weaker c.hear_silence.result (λ taken. omega (
      arith,
      taken,
      c.min-heard.ensures,
      c.in-Ok.ensures.taken,
      length-take-le c.min-heard.result c.args.sent.now few,
    ))
    c.hear_silence.ensures.taken

pub returns-in-Ok-clause-ok : goal.returns-in-Ok-clause-ok
returns-in-Ok-clause-ok g c =
    on_ok_weaker c.hear_silence.result (λ hears line long listens.
    subst (Listens g.V.Device c.hear_silence.new.device c.hear_silence.new.frames)
    (answered-heard line c.args.count c.args.sent.now c.min-heard.result c.min-heard.ensures long)
    (hears (line ++ map Byte (take c.min-heard.result c.args.sent.now))
    (c.in-Ok.ensures.ok line listens)))
    c.hear_silence.ensures.ok
