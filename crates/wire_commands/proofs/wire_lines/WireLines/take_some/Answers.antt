use Rattle.line_commands.specs.Recording.{filled_recording}
use Rattle.std.proofs.Common.{◌≡◌, ◌∙◌, ◌∷◌, ◌++◌, ◌+◌, ◌-◌, ℕ, List, take, ap, subst, arith}
use Rattle.two_wire.specs.Gate.{gate_state, gate_side, gate_waits}
use Rattle.wire_commands.proofs.Passing.{makes-some, first-of}
use Rattle.wire_commands.proofs.Taking.{gate-goes}
use Rattle.wire_commands.specs.TickLines.{HasWritten}
use Rattle.wire_commands.specs.WireBox.{next_of}
use Rattle.yasir_ticks.specs.{TickRun.run_ticks, declared.tick.Tick.Tick}
use Rattle.wire_commands.proofs.wire_lines.WireLines.take_some.Goals as goal

pub returns : goal.returns
returns g c =
    let old = c.args.self.now in
    let sender = c.catch_up-sealed.new.wire_box in
    let receiver = c.catch_up-checked.new.wire_box in
    let count : ℕ = c.ready-count.result in
    let left : ℕ = c.args.left in
    let device_rest : List Tick = filled_recording left c.args.device.now in
    let link_rest : List Tick = filled_recording left c.args.link.now in
    let sent_is : run_ticks c.front-sent.result ≡ take (count - 1) (next_of sender) =
    c.front-sent.ensures ∙ ap (take (count - 1)) c.next.ensures in
    makes-some g.S.LinkBox g.S.LineBox.line_of g.C.LinkBox g.C.LineBox.line_of old _ sender receiver
    c.catch_up-sealed.result c.catch_up-checked.result device_rest link_rest left count
    c.requires.able (omega (
      arith,
      c.wait.ensures.ticks,
      c.follow.ensures.ticks,
      c.ready-count.ensures.some,
    )) c.in-Ok-add_first-2.ensures.room c.in-Ok-add_first.ensures.room
    (record {
      sender_up = rw (c.pass-to_device.ensures, c.now-for_device.ensures, c.silence.ensures)
          at c.catch_up-sealed.ensures;
      receiver_up = rw (c.now-now.ensures, c.next-next.ensures) at c.catch_up-checked.ensures;
      may = c.ready-count.ensures;
      sender_leaves = c.leave.ensures;
      receiver_leaves = c.leave-2.ensures;
      same_side = c.wait.ensures.side ∙ c.follow.ensures.side;
      same_waits = c.wait.ensures.waits ∙ c.follow.ensures.waits;
      gate_goes = gate-goes (gate_side old.gate) (gate_waits old.gate) (gate_state old.gate)
          (gate_state c.follow.new.self) (gate_state c.wait.new.gate) old.receiver.first
          c.args.device.now left count c.ready-count.ensures.some
          (omega (arith, c.ready-count.ensures.sent, c.catch_up-sealed.ensures.within))
          (rw (c.hear.ensures, c.pass-to_device.ensures, c.tick_at.ensures, c.now-for_device.ensures)
          at c.follow.ensures.state)
          (λ n within. rw (c.follow.ensures.side, c.follow.ensures.waits, c.behind.ensures)
          at (c.wait.ensures.state n within));
      link_text = λ line goes. subst (λ l. HasWritten c.add_first-2.new.self (line ++ l))
          (ap (λ l. c.now.result ∷ l) sent_is
          ∙ (ap (λ t. t ∷ take (count - 1) (next_of sender)) c.now.ensures
          ∙ first-of sender.first (next_of sender) count c.ready-count.ensures.some))
          (c.in-Ok-add_first-2.ensures.written line goes);
      device_text = λ line goes. rw (c.pass-to_device.ensures, c.now-for_device.ensures)
          at (c.in-Ok-add_first.ensures.written line goes);
      notes = rw (c.holds-held.ensures, c.now-for_device.ensures) at c.in-Ok.ensures;
      ticks = ap (λ n. old.ticks + n) c.from.ensures;
    })
