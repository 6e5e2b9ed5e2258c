use Rattle.std.proofs.Common.{◌≡◌, ◌∙◌, ℕ, ◌%◌, List, ap, arith, length, replicate, take}
use Rattle.std.proofs.lemmas.List.{length-replicate, length-take-le, take_at}
use Rattle.trial_session.proofs.FrameDraws.{dnp-frame-is, dnp-state-is}
use Rattle.trial_session.specs.{DrawLaws.length-bytes_drawn, Draws.bytes_drawn, Draws.draw_state}
use Rattle.trial_session.specs.Draws.{draw_state_after}
use Rattle.trial_session.proofs.drawn_frames.DnpDrawnFrames.draw_frame.Goals as goal

pub returns-clause-frame : goal.returns-clause-frame
returns-clause-frame c =
    let n = c.draw.result % 251 in
    let three = draw_state c.draw-3.new.self in
    let blank : List ℕ = replicate 250 0 in
    let long : length blank ≡ 250 = length-replicate {A = ℕ} 250 0 in
    let room : length (take n blank) ≡ n = length-take-le n blank (omega (arith, long)) in
    let drawn : c.draw_bytes.new.places ≡ bytes_drawn n three =
    c.draw_bytes.ensures.bytes ∙ ap (λ k. bytes_drawn k three) room in
    let size = ap length drawn ∙ length-bytes_drawn n three in
    dnp-frame-is (draw_state c.args.draws.now) (draw_state c.draw.new.self)
    (draw_state c.draw-2.new.self) three c.draw.result c.draw-2.result
    c.draw-3.result c.draw.ensures.state c.draw-2.ensures.state c.draw-3.ensures.state
    c.draw.ensures.value c.draw-2.ensures.value c.draw-3.ensures.value _ _
    (rw c.unwrap.ensures at c.build.ensures.built)
    (take_at c.draw_bytes.new.places _ n size ∙ drawn)

pub returns-clause-state : goal.returns-clause-state
returns-clause-state c =
    let n = c.draw.result % 251 in
    let blank : List ℕ = replicate 250 0 in
    let long : length blank ≡ 250 = length-replicate {A = ℕ} 250 0 in
    let room : length (take n blank) ≡ n = length-take-le n blank (omega (arith, long)) in
    dnp-state-is (draw_state c.args.draws.now) (draw_state c.draw.new.self)
    (draw_state c.draw-2.new.self) (draw_state c.draw-3.new.self) c.draw.result c.draw-2.result
    c.draw-3.result c.draw.ensures.state c.draw-2.ensures.state c.draw-3.ensures.state
    c.draw.ensures.value c.draw-2.ensures.value c.draw-3.ensures.value _
    (c.draw_bytes.ensures.state
    ∙ ap (λ k. draw_state_after k (draw_state c.draw-3.new.self)) room)
