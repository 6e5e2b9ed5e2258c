use Rattle.{line_rules.specs.Bytes.low_first, rtu_frame.specs.Crc.crc_rtu}
use Rattle.std.proofs.Common.{◌≡◌, ◌∙◌, ℕ, ◌+◌, ◌%◌, List, ◌++◌, ap, arith, length, replicate, take}
use Rattle.std.proofs.lemmas.List.{length-replicate, length-take-le, take_at}
use Rattle.trial_session.proofs.FrameDraws.{rtu-body-is, rtu-filled, rtu-state-is}
use Rattle.trial_session.specs.{DrawLaws.length-bytes_drawn, Draws.bytes_drawn, Draws.draw_state}
use Rattle.trial_session.specs.{Draws.draw_state_after}
use Rattle.trial_session.proofs.drawn_frames.RtuDrawnFrames.draw_frame.Goals as goal

pub returns-clause-frame : goal.returns-clause-frame
returns-clause-frame c =
    let x = draw_state c.args.draws.now in
    let one = draw_state c.draw.new.self in
    let n = c.draw.result % 253 + 2 in
    let blank : List ℕ = replicate 254 0 in
    let long : length blank ≡ 254 = length-replicate {A = ℕ} 254 0 in
    let room : length (take n blank) ≡ n = length-take-le n blank (omega (arith, long)) in
    let drawn : c.draw_bytes.new.places ≡ bytes_drawn n one =
    c.draw_bytes.ensures.bytes ∙ ap (λ k. bytes_drawn k one) room in
    let size = ap length drawn ∙ length-bytes_drawn n one in
    let body = take_at c.draw_bytes.new.places _ n size
    ∙ rtu-body-is x one c.draw.result c.draw.ensures.state c.draw.ensures.value _ drawn in
    let taken = rtu-filled _ _ _ _ (rw c.unwrap.ensures at c.try_extend_from_slice.ensures.ok)
    c.new-frame.ensures body in
    let closed = (rw c.unwrap-2.ensures at c.close.ensures.closed)
    ∙ ap (λ l. l ++ low_first (crc_rtu l)) taken in
    (rw c.unwrap-3.ensures at c.try_extend_from_slice-2.ensures.ok)
    ∙ ap (λ l. l ++ c.as_slice.result.now) c.new-bytes.ensures ∙ c.as_slice.ensures.value
    ∙ closed

pub returns-clause-state : goal.returns-clause-state
returns-clause-state c =
    let one = draw_state c.draw.new.self in
    let n = c.draw.result % 253 + 2 in
    let blank : List ℕ = replicate 254 0 in
    let long : length blank ≡ 254 = length-replicate {A = ℕ} 254 0 in
    let room : length (take n blank) ≡ n = length-take-le n blank (omega (arith, long)) in
    rtu-state-is (draw_state c.args.draws.now) one c.draw.result
    c.draw.ensures.state c.draw.ensures.value _
    (c.draw_bytes.ensures.state ∙ ap (λ k. draw_state_after k one) room)
