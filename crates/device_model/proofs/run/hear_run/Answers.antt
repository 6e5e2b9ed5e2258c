use Rattle.std.proofs.Common.{◌≡◌, ◌∙◌, ◌≤◌, ◌++◌, ap, arith, subst, sym}
use Rattle.std.proofs.lemmas.List.{take-map, take-replicate}
use Rattle.yasir_ticks.specs.declared.tick.Tick.TheVariants.{Silent, Byte}
use Rattle.yasir_ticks.proofs.RunFronts.{front_bytes, front_silence}
use Rattle.device_model.specs.Frames.{frames_lent}
use Rattle.device_model.proofs.run.hear_run.Goals as goal

pub returns-in-Bytes-clause-stands : goal.returns-in-Bytes-clause-stands
returns-in-Bytes-clause-stands g c = rw c.in-Bytes.is (λ line before.
    subst (λ l. g.V.Device.stands c.hear.new.self (line ++ l))
    (sym (take-map Byte c.hear.result.taken c.in-Bytes.bytes.now))
    (c.hear.ensures.stands line before))

pub returns-in-Bytes-clause-answer : goal.returns-in-Bytes-clause-answer
returns-in-Bytes-clause-answer g c = rw c.in-Bytes.is (λ line before.
    subst (λ l. g.V.Device.reads (line ++ l)
    ≡ g.V.Device.reads line ++ frames_lent c.hear.result.start (g.V.Device.lent c.hear.new.self))
    (sym (take-map Byte c.hear.result.taken c.in-Bytes.bytes.now))
    (c.hear.ensures.answer line before))

pub returns-in-Bytes-clause-before : goal.returns-in-Bytes-clause-before
returns-in-Bytes-clause-before g c = λ n early line before.
    ap (λ l. g.V.Device.reads (line ++ l)) (front_bytes c.args.run c.in-Bytes.bytes n c.in-Bytes.is)
    ∙ c.hear.ensures.before n early line before

pub returns-in-Silence-clause-before : goal.returns-in-Silence-clause-before
returns-in-Silence-clause-before g c = λ n early line before.
    let few : n ≤ c.in-Silence.ticks = omega (arith, c.wait.ensures.within) in
    ap (λ l. g.V.Device.reads (line ++ l))
    (front_silence c.args.run c.in-Silence.ticks n few c.in-Silence.is)
    ∙ c.wait.ensures.before n early line before

pub returns-in-Silence-clause-stands : goal.returns-in-Silence-clause-stands
returns-in-Silence-clause-stands g c = rw c.in-Silence.is (λ line before.
    subst (λ l. g.V.Device.stands c.wait.new.self (line ++ l))
    (sym (take-replicate c.wait.result.taken c.in-Silence.ticks Silent
    c.wait.ensures.within))
    (c.wait.ensures.stands line before))

pub returns-in-Silence-clause-answer : goal.returns-in-Silence-clause-answer
returns-in-Silence-clause-answer g c = rw c.in-Silence.is (λ line before.
    subst (λ l. g.V.Device.reads (line ++ l)
    ≡ g.V.Device.reads line ++ frames_lent c.wait.result.start (g.V.Device.lent c.wait.new.self))
    (sym (take-replicate c.wait.result.taken c.in-Silence.ticks Silent
    c.wait.ensures.within))
    (c.wait.ensures.answer line before))
