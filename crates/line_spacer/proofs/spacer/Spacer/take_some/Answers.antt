use Rattle.{frame_ending.specs.Answered.answered, device_model.specs.Frames.frames_lent}
use Rattle.line_spacer.proofs.Runs.{IsQuiet, run-before, run-sent, run-answers}
use Rattle.line_spacer.specs.{Spacing.spaced, Spacing.accepted_of, Stands.SpacerStandsFor}
use Rattle.line_spacer.specs.Stands.{AnswersSpaced, unsent_of, spaced_frame_at, frames_waiting, bytes_sent}
use Rattle.std.proofs.Common.{◌≡◌, ◌∙◌, ◌<◌, ◌≤◌, ◌+◌, ◌-◌, ◌++◌, List, length, take, sym}
use Rattle.std.proofs.Common.{ap, subst, arith}
use Rattle.std.proofs.lemmas.List.{length-take, length-take-le, take-take}
use Rattle.yasir_ticks.specs.{TickRun.run_ticks, declared.tick.Tick.Tick}
use Rattle.line_spacer.proofs.spacer.Spacer.take_some.Goals as goal

pub returns-clause-long : goal.returns-clause-long
returns-clause-long g c =
    ap (λ b. length (answered c.hear_run-taken.result.taken b)) c.keep-lost.ensures.lent
    ∙ c.send_some.ensures.long

pub returns-clause-stands : goal.returns-clause-stands
returns-clause-stands g c = λ cap line stands.
    let reads = g.V.Device.reads in
    let gap = g.row.GAP in
    let sent = c.send_some.new.self in
    let heard = c.hear_run-taken in
    let all = run_ticks c.args.run in
    let most = c.min-most.result in
    let n = heard.result.taken in
    let part = run_ticks c.front-front.result in
    let size = ap length c.front-front.ensures in
    let cut = length-take most all in
    let few : n ≤ most = omega (arith, heard.ensures.within, size, cut) in
    let x = take n part in
    let long : length x ≡ n = length-take-le n part heard.ensures.within in
    let there : 0 < length part =
    grind (
      arith,
      c.min-most.ensures,
      c.alike.ensures.some,
      size,
      cut,
      c.requires.some,
      c.len.ensures,
    ) in
    let one : 0 < n = heard.ensures.some there in
    let some : 0 < length x = omega (arith, long, one) in
    let start = subst (λ d. g.V.Device.stands d line) (sym c.make_ready.ensures.device)
    stands.heard in
    let quiet : IsQuiet reads line x = λ k early.
    let before_end : k < n = omega (arith, early, long) in
    let fewer : k ≤ n = omega (arith, before_end) in
    ap (λ y. reads (line ++ y)) (take-take k n part fewer)
    ∙ heard.ensures.before k before_end line start in
    let same : x ≡ take n all = ap (take n) c.front-front.ensures ∙ take-take n most all few in
    let is = heard.ensures.answer line start
    ∙ ap (λ d. reads line ++ frames_lent heard.result.start (g.V.Device.lent d))
    (sym c.send_some.ensures.device) in
    let answer : List Tick = answered n (bytes_sent sent) in
    let as_long : length answer ≡ length x = c.send_some.ensures.long ∙ sym long in
    let frames = frames_lent heard.result.start (g.V.Device.lent sent.device) in
    let fits = c.send_some.ensures.room ∙ (c.make_ready.ensures.room ∙ stands.room) in
    let accepted = accepted_of reads gap cap line in
    let run = c.send_some.ensures.sends (length line) accepted
    (c.make_ready.ensures.sent (length line) accepted stands.sent) in
    let before = run-before reads gap cap sent.queue.capacity fits line x frames some quiet is
    accepted (unsent_of sent.ready sent.sent (spaced_frame_at sent)) sent.pause (frames_waiting sent) answer
    as_long run.sent in
    let new = c.keep-lost.new.self in
    let stands_now : SpacerStandsFor g.V.Device cap new (line ++ x) = record {
      heard = rw (c.keep-lost.ensures.device, c.send_some.ensures.device)
          (heard.ensures.stands line start);
      room = c.keep-lost.ensures.room ∙ fits;
      sent = run-sent reads gap cap sent.queue.capacity fits line x frames some quiet is
          (unsent_of new.ready new.sent (spaced_frame_at new)) new.pause (frames_waiting new)
          (c.keep-lost.ensures.sent (length line + (length x - 1))
          (spaced reads gap cap line) before);
    } in
    subst (λ y. SpacerStandsFor g.V.Device cap new (line ++ y)) same stands_now

pub returns-clause-answer : goal.returns-clause-answer
returns-clause-answer g c = λ cap line stands.
    let reads = g.V.Device.reads in
    let gap = g.row.GAP in
    let sent = c.send_some.new.self in
    let heard = c.hear_run-taken in
    let all = run_ticks c.args.run in
    let most = c.min-most.result in
    let n = heard.result.taken in
    let part = run_ticks c.front-front.result in
    let size = ap length c.front-front.ensures in
    let cut = length-take most all in
    let few : n ≤ most = omega (arith, heard.ensures.within, size, cut) in
    let x = take n part in
    let long : length x ≡ n = length-take-le n part heard.ensures.within in
    let there : 0 < length part =
    grind (
      arith,
      c.min-most.ensures,
      c.alike.ensures.some,
      size,
      cut,
      c.requires.some,
      c.len.ensures,
    ) in
    let one : 0 < n = heard.ensures.some there in
    let some : 0 < length x = omega (arith, long, one) in
    let start = subst (λ d. g.V.Device.stands d line) (sym c.make_ready.ensures.device)
    stands.heard in
    let quiet : IsQuiet reads line x = λ k early.
    let before_end : k < n = omega (arith, early, long) in
    let fewer : k ≤ n = omega (arith, before_end) in
    ap (λ y. reads (line ++ y)) (take-take k n part fewer)
    ∙ heard.ensures.before k before_end line start in
    let same : x ≡ take n all = ap (take n) c.front-front.ensures ∙ take-take n most all few in
    let is = heard.ensures.answer line start
    ∙ ap (λ d. reads line ++ frames_lent heard.result.start (g.V.Device.lent d))
    (sym c.send_some.ensures.device) in
    let answer : List Tick = answered n (bytes_sent sent) in
    let as_long : length answer ≡ length x = c.send_some.ensures.long ∙ sym long in
    let frames = frames_lent heard.result.start (g.V.Device.lent sent.device) in
    let fits = c.send_some.ensures.room ∙ (c.make_ready.ensures.room ∙ stands.room) in
    let accepted = accepted_of reads gap cap line in
    let run = c.send_some.ensures.sends (length line) accepted
    (c.make_ready.ensures.sent (length line) accepted stands.sent) in
    let before = run-before reads gap cap sent.queue.capacity fits line x frames some quiet is
    accepted (unsent_of sent.ready sent.sent (spaced_frame_at sent)) sent.pause (frames_waiting sent) answer
    as_long run.sent in
    let lost = frames_lent c.keep-lost.result (g.V.Device.lent c.keep-lost.new.self.device) in
    let answers = run-answers reads gap cap sent.queue.capacity fits line x frames some quiet is
    answer lost as_long run.leave
    (c.keep-lost.ensures.takes (length line + (length x - 1)) (spaced reads gap cap line) before) in
    let last : length line + (length x - 1) ≡ length line + (n - 1) =
    ap (λ k. length line + (k - 1)) long in
    subst (λ b. AnswersSpaced reads gap cap line (take n all) (answered n b)
    (length line + (n - 1)) lost) (sym c.keep-lost.ensures.lent)
    (subst (λ y. AnswersSpaced reads gap cap line y answer (length line + (n - 1)) lost) same
    (subst (λ k. AnswersSpaced reads gap cap line x answer k lost) last answers))
