use Rattle.{device_model.specs.Frames.frames_lent, line_spacer.proofs.Owing.more-pending}
use Rattle.std.proofs.Common.{◌≡◌, ◌∙◌, ◌<◌, ◌≤◌, ◌++◌, length, take, append_assoc, ap, subst}
use Rattle.std.proofs.{Common.arith, lemmas.List.length-take-le, lemmas.List.take-take}
use Rattle.yasir_ticks.specs.TickRun.{run_ticks}
use Rattle.line_spacer.proofs.spacer.Spacer.hear_some.Goals as goal

pub returns-clause-owes : goal.returns-clause-owes
returns-clause-owes g c = λ cap line owed owes.
    let heard = c.hear_run in
    let device = g.V.Device in
    let all = run_ticks c.args.run in
    let n = heard.result.taken in
    let more = take n all in
    let long : length more ≡ n = length-take-le n all heard.ensures.within in
    let one : 0 < n = heard.ensures.some c.requires.some in
    let some : 0 < length more = omega (arith, long, one) in
    record {
      heard = subst (device.stands heard.new.device) (append_assoc line owed more)
          (heard.ensures.stands (line ++ owed) owes.heard);
      room = owes.room;
      made = owes.made;
      sent = owes.sent;
      pending = more-pending device.reads g.row.GAP cap line owed more owes.made
          (frames_lent heard.result.start (device.lent heard.new.device)) owes.pending some
          (λ k early.
          let before_end : k < n = omega (arith, early, long) in
          let fewer : k ≤ n = omega (arith, before_end) in
          ap (λ y. device.reads ((line ++ owed) ++ y)) (take-take k n all fewer)
          ∙ heard.ensures.before k before_end (line ++ owed) owes.heard)
          (heard.ensures.answer (line ++ owed) owes.heard);
    }
