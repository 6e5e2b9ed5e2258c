use Rattle.std.proofs.Common.{◌≡◌, ◌∙◌, ◌+◌, ◌-◌, ◌%◌, ◌++◌, [], ap, subst, sym, arith, length, map}
use Rattle.std.proofs.lemmas.List.{length-map, length-replicate}
use Rattle.trial_session.proofs.{Behind.link-long, Periods.run-suc, SentRuns.sends-none}
use Rattle.trial_session.specs.{Alterations.alteration_of, Draws.draw_state, Draws.nth_drawn}
use Rattle.trial_session.specs.{Links.link_sent, Session.period_line, Sides.SideHasSent}
use Rattle.{trial_session.specs.Sides.HasReceived, yasir_ticks.specs.Ticks.silent}
use Rattle.yasir_ticks.specs.declared.tick.Tick.TheVariants.{Silent, Byte}
use Rattle.trial_session.proofs.session.Session.run_period.Goals as goal

pub returns-clause-run : goal.returns-clause-run
returns-clause-run g c =
    let frame = c.draw_frame-frame.result.items in
    let mid = draw_state c.draw_frame-frame.new.draws in
    let sent = c.forward-2.new.link in
    let few = c.as_slice.ensures.fits in
    let is = c.as_slice.ensures.value in
    let long = ap length is in
    let all : sent.len ≡ 640 = omega (
      arith,
      c.clear.ensures.len,
      c.forward.ensures.len,
      c.forward-2.ensures.len,
      c.len-2.ensures.value,
      few,
      long,
      length-map c.as_slice.result.now Byte,
      length-replicate (640 - c.len-2.result) Silent,
    ) in
    let period_is : map (λ b. Byte b) c.as_slice.result.now ++ silent (640 - c.len-2.result)
    ≡ period_line frame =
    ap (λ x. map (λ b. Byte b) x ++ silent (640 - c.len-2.result)) is
    ∙ ap (λ n. map (λ b. Byte b) frame ++ silent (640 - n)) c.len-2.ensures.value in
    run-suc g.S.LinkBox g.S.CountingBox.counting g.C.LinkBox g.C.CountingBox.counting g.V.Device
    g.R.DrawnFrames.drawing c.args.behind c.args.self.now _ frame mid
    c.draw_alteration-alteration.result (link_sent sent)
    c.draw_frame-frame.ensures.frame c.draw_frame-frame.ensures.state
    c.draw_alteration-alteration.ensures.state
    (c.draw_alteration-alteration.ensures.alteration
    ∙ ap (λ n. alteration_of (nth_drawn 1 mid % 8) (nth_drawn 2 mid % (n + c.args.behind))
    (1 + nth_drawn 3 mid % 255)) c.len.ensures.value)
    (link-long sent ∙ all)
    (λ line taken. subst (λ l. SideHasSent g.S.LinkBox g.S.CountingBox.counting c.forward-2.new.self
    line l (link_sent sent)) period_is
    (c.forward-2.ensures.sent line (map (λ b. Byte b) c.as_slice.result.now)
    (c.forward.ensures.sent line []
    (subst (λ l. SideHasSent g.S.LinkBox g.S.CountingBox.counting c.args.self.now.sealing line [] l)
    (sym c.clear.ensures.sent)
    (sends-none g.S.LinkBox g.S.CountingBox.counting c.args.self.now.sealing line taken)))))
    (λ line received. subst (λ l. HasReceived g.C.LinkBox g.C.CountingBox.counting g.V.Device
    c.take.new.self (line ++ l)) c.alter.ensures.sent (c.take.ensures.received line received))
