use Rattle.{frame_ending.specs.SoFar.live_bytes_so_far, link_format.specs.Trailers.bytes_unsent}
use Rattle.seal_transmitter.proofs.Stepping.{seal-taken}
use Rattle.std.proofs.Common.{List, [], ◌∷◌, ◌++◌, ◌+◌, ◌≡◌, ◌∙◌, ap, arith, length, length-append}
use Rattle.std.specs.Int.{w64, to_be_bytes, bytes_high_first}
use Rattle.yasir_ticks.specs.declared.tick.Tick.{Tick, TheVariants.Silent}
use Rattle.seal_transmitter.proofs.sealer.Sealer.seal.Goals as goal

pub returns-clause-step : goal.returns-clause-step
returns-clause-step g c = λ last setup line between judge.
    let line' : List Tick = line ++ Silent ∷ [] in
    let taken : c.ticks.result ≡ length line' = c.ticks.ensures.count line' between.cuts in
    let long : length line' ≡ length line + 1 = length-append line (Silent ∷ []) in
    let size : c.TAG.result ≡ g.M.Mac.TAG = c.TAG.ensures in
    let three : c.from.result ≡ 3 = c.from.ensures in
    let earliest : c.ticks.result + (g.row.B + c.TAG.result) + c.from.result
    ≡ length line + 1 + (g.row.B + g.M.Mac.TAG) + 3 = omega arith in
    let live = c.rules.ensures line' between.cuts in
    let number : c.to_be_bytes.result ≡ to_be_bytes w64 c.args.number = c.to_be_bytes.ensures in
    seal-taken g.R.LineRules g.M.Mac c.args.self.now last setup line c.finish-tag.new.self
    c.next_tick.new.self c.next_tick.result
    (c.ticks.result + (g.row.B + c.TAG.result) + c.from.result) c.args.number c.start.result
    c.len.result (bytes_unsent c.load.new.self)
    c.next_tick.ensures.unsent c.next_tick.ensures.tick between (c.start.ensures line' between.cuts)
    (c.len.ensures (live_bytes_so_far g.R.LineRules.rules line') live) judge earliest
    (λ text mac_is.
    let tagged = c.finish-tag.ensures.tag setup.key (text ++ c.to_be_bytes.result)
    (c.update.ensures setup.key text mac_is) in
    c.load.ensures ∙ (ap (λ x. bytes_high_first g.row.B c.args.number ++ x) tagged
    ∙ ap (λ x. bytes_high_first g.row.B c.args.number ++ g.M.Mac.tag_of setup.key (text ++ x))
    number))
    (λ text mac_is. c.finish-tag.ensures.begun setup.key (text ++ c.to_be_bytes.result)
    (c.update.ensures setup.key text mac_is))
