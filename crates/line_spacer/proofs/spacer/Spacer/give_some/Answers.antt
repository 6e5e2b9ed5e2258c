use Rattle.{frame_ending.specs.Answered.answered, device_model.specs.Frames.frames_lent}
use Rattle.line_spacer.proofs.Owing.{given-answers, given-before, given-pending, given-sent}
use Rattle.line_spacer.specs.Stands.{AnswersSpaced, bytes_sent, spaced_frame_at, frames_waiting, unsent_of}
use Rattle.line_spacer.specs.Stands.{taken_in}
use Rattle.std.proofs.Common.{◌≡◌, ◌∙◌, ◌<◌, ◌≤◌, ◌+◌, ◌-◌, ◌++◌, [], List, length, take, drop, sym}
use Rattle.std.proofs.Common.{ap, subst, arith, append_assoc, take-append-drop}
use Rattle.yasir_ticks.specs.declared.tick.Tick.{Tick}
use Rattle.line_spacer.proofs.spacer.Spacer.give_some.Goals as goal

pub returns-clause-taken : goal.returns-clause-taken
returns-clause-taken g c = ap (λ d. g.V.Device.taken d)
    (c.keep-kept.ensures.device ∙ (c.send_some.ensures.device ∙ c.make_ready.ensures.device))

pub returns-clause-lent : goal.returns-clause-lent
returns-clause-lent g c = ap (λ d. g.V.Device.lent d)
    (c.keep-kept.ensures.device ∙ (c.send_some.ensures.device ∙ c.make_ready.ensures.device))

pub returns-clause-long : goal.returns-clause-long
returns-clause-long g c =
    ap (λ b. length (answered c.min-count.result b)) c.keep-kept.ensures.lent
    ∙ c.send_some.ensures.long

pub returns-clause-owes : goal.returns-clause-owes
returns-clause-owes g c = λ cap line ticks long owes.
    let device = g.V.Device in
    let reads = device.reads in
    let gap = g.row.GAP in
    let old = c.args.self.now in
    let sent = c.send_some.new.self in
    let new = c.keep-kept.new.self in
    let n = c.min-count.result in
    let room = sent.queue.capacity in
    let frames = frames_lent c.args.read (device.lent old.device) in
    let some : 0 < n =
    grind (arith, c.min-count.ensures, c.min-most.ensures, c.alike.ensures.some, c.requires) in
    let within : n ≤ length ticks = grind (arith, c.min-count.ensures, long) in
    let same = c.send_some.ensures.device ∙ c.make_ready.ensures.device in
    let front = frames_lent c.read_in_front-found.result (device.lent sent.device) in
    let part : n < length ticks → front ≡ [] = λ less.
    ap (λ r. frames_lent r (device.lent sent.device))
    (c.read_in_front-found.ensures.part (omega (arith, less, long))) in
    let all : length ticks ≤ n → front ≡ frames = λ whole.
    ap (λ r. frames_lent r (device.lent sent.device))
    (c.read_in_front-found.ensures.all (omega (arith, whole, long)))
    ∙ ap (λ d. frames_lent c.args.read (device.lent d)) same in
    let fits : room ≡ cap =
    c.send_some.ensures.room ∙ (c.make_ready.ensures.room ∙ owes.room) in
    let accepted = owes.made.accepted in
    let answer : List Tick = answered n (bytes_sent sent) in
    let run = c.send_some.ensures.sends (length line) accepted
    (c.make_ready.ensures.sent (length line) accepted owes.sent) in
    let before = given-before reads gap cap room fits line ticks owes.made frames n some within
    owes.pending front part all accepted (unsent_of sent.ready sent.sent (spaced_frame_at sent)) sent.pause
    (frames_waiting sent) answer c.send_some.ensures.long run.sent in
    let after = taken_in gap room (length line + (n - 1)) owes.made front in
    record {
      heard = subst (λ d. device.stands d ((line ++ take n ticks) ++ drop n ticks))
          (sym (c.keep-kept.ensures.device ∙ same))
          (subst (device.stands old.device)
          (sym (append_assoc line (take n ticks) (drop n ticks)
          ∙ ap (λ x. line ++ x) (take-append-drop n ticks))) owes.heard);
      room = c.keep-kept.ensures.room ∙ fits;
      made = after;
      sent = given-sent reads gap cap room fits line ticks owes.made frames n some within
          owes.pending front part all after.accepted (unsent_of new.ready new.sent (spaced_frame_at new))
          new.pause (frames_waiting new)
          (c.keep-kept.ensures.sent (length line + (n - 1)) owes.made before);
      pending = given-pending reads gap cap room fits line ticks owes.made frames n some within
          owes.pending front part all;
    }

pub returns-clause-answer : goal.returns-clause-answer
returns-clause-answer g c = λ cap line ticks long owes.
    let device = g.V.Device in
    let reads = device.reads in
    let gap = g.row.GAP in
    let old = c.args.self.now in
    let sent = c.send_some.new.self in
    let new = c.keep-kept.new.self in
    let n = c.min-count.result in
    let room = sent.queue.capacity in
    let frames = frames_lent c.args.read (device.lent old.device) in
    let some : 0 < n =
    grind (arith, c.min-count.ensures, c.min-most.ensures, c.alike.ensures.some, c.requires) in
    let within : n ≤ length ticks = grind (arith, c.min-count.ensures, long) in
    let same = c.send_some.ensures.device ∙ c.make_ready.ensures.device in
    let front = frames_lent c.read_in_front-found.result (device.lent sent.device) in
    let part : n < length ticks → front ≡ [] = λ less.
    ap (λ r. frames_lent r (device.lent sent.device))
    (c.read_in_front-found.ensures.part (omega (arith, less, long))) in
    let all : length ticks ≤ n → front ≡ frames = λ whole.
    ap (λ r. frames_lent r (device.lent sent.device))
    (c.read_in_front-found.ensures.all (omega (arith, whole, long)))
    ∙ ap (λ d. frames_lent c.args.read (device.lent d)) same in
    let fits : room ≡ cap =
    c.send_some.ensures.room ∙ (c.make_ready.ensures.room ∙ owes.room) in
    let accepted = owes.made.accepted in
    let answer : List Tick = answered n (bytes_sent sent) in
    let run = c.send_some.ensures.sends (length line) accepted
    (c.make_ready.ensures.sent (length line) accepted owes.sent) in
    let before = given-before reads gap cap room fits line ticks owes.made frames n some within
    owes.pending front part all accepted (unsent_of sent.ready sent.sent (spaced_frame_at sent)) sent.pause
    (frames_waiting sent) answer c.send_some.ensures.long run.sent in
    let lost = frames_lent c.keep-kept.result (device.lent new.device) in
    subst (λ b. AnswersSpaced reads gap cap line (take n ticks) (answered n b)
    (length line + (n - 1)) lost) (sym c.keep-kept.ensures.lent)
    (given-answers reads gap cap room fits line ticks owes.made frames n some within owes.pending
    front part all answer lost c.send_some.ensures.long run.leave
    (c.keep-kept.ensures.takes (length line + (n - 1)) owes.made before))
