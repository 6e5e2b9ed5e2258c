use Rattle.std.proofs.Common.{◌∙◌, ◌≤◌, ℕ, List, ap, arith, length, sym, take}
use Rattle.std.proofs.lemmas.List.{length-map, length-replicate}
use Rattle.yasir_ticks.specs.TickRun.{run_ticks}
use Rattle.yasir_ticks.specs.declared.tick.Tick.TheVariants.{Silent, Byte}
use Rattle.link_box.proofs.Answered.{front-bytes, lent-bytes, lent-silence}
use Rattle.link_box.proofs.TakenRuns.{takes-as}
use Rattle.link_box.proofs.alike.forward_alike.Goals as goal

pub returns-in-Bytes-clause-run : goal.returns-in-Bytes-clause-run
returns-in-Bytes-clause-run g c =
    let n : ℕ = c.forward-count.result in
    let front : List ℕ = take c.min.result c.in-Bytes.bytes.now in
    let within : n ≤ length front =
    omega (arith, c.forward-count.ensures.within, length-map front Byte) in
    takes-as g.X.LinkBox.walking g.X.LinkBox.stands c.args.line_box.now c.forward-count.new.self
    _ _ _ _
    (front-bytes n c.min.result c.in-Bytes.bytes.now within
    ∙ sym (ap (λ r. take n (run_ticks r)) c.in-Bytes.is))
    (lent-bytes n front c.put_bytes.new.sent.items within c.put_bytes.ensures) c.forward-count.ensures.run

pub returns-in-Silence-clause-run : goal.returns-in-Silence-clause-run
returns-in-Silence-clause-run g c =
    let n : ℕ = c.forward-count-in-Silence.result in
    let ticks : ℕ = c.in-Silence.ticks in
    let within : n ≤ ticks = omega (
      arith,
      c.forward-count-in-Silence.ensures.within,
      length-replicate ticks Silent,
    ) in
    takes-as g.X.LinkBox.walking g.X.LinkBox.stands c.args.line_box.now
    c.forward-count-in-Silence.new.self _ _ _ _
    (sym (ap (λ r. take n (run_ticks r)) c.in-Silence.is))
    (lent-silence n ticks c.clear.new.self.items within c.clear.ensures)
    c.forward-count-in-Silence.ensures.run
