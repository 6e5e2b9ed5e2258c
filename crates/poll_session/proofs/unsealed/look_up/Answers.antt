use Rattle.poll_session.proofs.Finding.{found-at, none-behind, not-at, no-frame}
use Rattle.poll_session.specs.Unsealed.{behind_frame, is_missing, still_unread}
use Rattle.receiver_laws.specs.Headline.{bytes_sealed}
use Rattle.session_lists.specs.FrameBox.{kept_frames, kept_numbered}
use Rattle.std.proofs.Common.{◌≡◌, ◌∙◌, ◌+◌, ap, arith, drop, suc, sym}
use Rattle.std.proofs.lemmas.List.{length-map}
use Rattle.poll_session.proofs.unsealed.look_up.Goals as goal

pub returns-then-eq-clause-missing : goal.returns-then-eq-clause-missing
returns-then-eq-clause-missing c = λ frames holds.
    let many = c.len.ensures.frames (kept_frames frames) holds ∙ length-map frames kept_numbered in
    let below = c.loop-at-test.true in
    sym (ap is_missing (c.loop-at.invariant frames holds
    ∙ found-at c.args.bytes.now c.bytes.result.now frames c.loop-at.at no-frame
    (omega (arith, many, below)) (c.bytes.ensures.frame (kept_frames frames) no-frame holds)
    (sym c.eq.ensures ∙ c.if-eq.true)))

pub returns-then-eq-clause-next : goal.returns-then-eq-clause-next
returns-then-eq-clause-next c = λ frames holds.
    let many = c.len.ensures.frames (kept_frames frames) holds ∙ length-map frames kept_numbered in
    let below = c.loop-at-test.true in
    let more : c.loop-at.at + 1 ≡ suc c.loop-at.at = omega arith in
    ap (λ n. drop n (bytes_sealed frames)) more
    ∙ sym (ap (λ o. still_unread o (drop c.args.from (bytes_sealed frames)))
    (c.loop-at.invariant frames holds
    ∙ found-at c.args.bytes.now c.bytes.result.now frames c.loop-at.at no-frame
    (omega (arith, many, below)) (c.bytes.ensures.frame (kept_frames frames) no-frame holds)
    (sym c.eq.ensures ∙ c.if-eq.true)))

pub loop-at-preserved : goal.loop-at-preserved
loop-at-preserved c = λ frames holds.
    let many = c.len.ensures.frames (kept_frames frames) holds ∙ length-map frames kept_numbered in
    let below = c.loop-at-test.true in
    let more : suc c.loop-at.at ≡ c.loop-at.at + 1 = omega arith in
    c.loop-at.invariant frames holds
    ∙ (not-at c.args.bytes.now c.bytes.result.now frames c.loop-at.at no-frame
    (omega (arith, many, below)) (c.bytes.ensures.frame (kept_frames frames) no-frame holds)
    (sym c.eq.ensures ∙ c.if-eq.false)
    ∙ ap (λ n. behind_frame c.args.bytes.now (drop n (bytes_sealed frames))) more)

pub returns-clause-missing : goal.returns-clause-missing
returns-clause-missing c = λ frames holds.
    let many = c.len.ensures.frames (kept_frames frames) holds ∙ length-map frames kept_numbered in
    let over = c.loop-at-test.false in
    sym (ap is_missing (c.loop-at.invariant frames holds
    ∙ none-behind c.args.bytes.now frames c.loop-at.at (omega (arith, many, over))))

pub returns-clause-next : goal.returns-clause-next
returns-clause-next c = λ frames holds.
    let many = c.len.ensures.frames (kept_frames frames) holds ∙ length-map frames kept_numbered in
    let over = c.loop-at-test.false in
    sym (ap (λ o. still_unread o (drop c.args.from (bytes_sealed frames)))
    (c.loop-at.invariant frames holds
    ∙ none-behind c.args.bytes.now frames c.loop-at.at (omega (arith, many, over))))
