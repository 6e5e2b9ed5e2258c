use Rattle.{frame_ending.specs.SoFar.live_bytes_so_far, link_format.specs.Trailers.bytes_unsent}
use Rattle.station_boxes.proofs.Stepping.{seal-taken}
use Rattle.station_boxes.specs.Names.{name_in}
use Rattle.stations.specs.Table.{table_key}
use Rattle.std.proofs.Common.{List, [], ◌∷◌, ◌++◌, ◌+◌, ◌≡◌, ◌∙◌, ℕ, ap, arith, length}
use Rattle.std.proofs.Common.{length-append}
use Rattle.std.specs.Int.{w64, to_be_bytes, bytes_high_first}
use Rattle.yasir_ticks.specs.declared.tick.Tick.{Tick, TheVariants.Silent}
use Rattle.station_boxes.proofs.sealer.StationSealer.seal.Goals as goal

pub returns-clause-step : goal.returns-clause-step
returns-clause-step g c = λ old new setup s line between is.
    let line' : List Tick = line ++ Silent ∷ [] in
    let live : List ℕ = live_bytes_so_far g.R.LineRules.rules line' in
    let key : List ℕ = table_key setup.table (name_in setup.naming live) in
    let text : List ℕ = g.R.LineRules.rules.label ∷ setup.direction ∷ live in
    let taken : c.ticks.result ≡ length line' = c.ticks.ensures.count line' between.cuts in
    let long : length line' ≡ length line + 1 = length-append line (Silent ∷ []) in
    let size : c.TAG.result ≡ g.M.Mac.TAG = c.TAG.ensures in
    let three : c.from.result ≡ 3 = c.from.ensures in
    let earliest : c.ticks.result + (g.row.B + c.TAG.result) + c.from.result
    ≡ length line + 1 + (g.row.B + g.M.Mac.TAG) + 3 = omega arith in
    let number : c.to_be_bytes.result ≡ to_be_bytes w64 c.args.number = c.to_be_bytes.ensures in
    let tagged = c.finish-tag.ensures.tag key (text ++ c.to_be_bytes.result)
    (c.update.ensures key text is.text) in
    seal-taken g.R.LineRules g.M.Mac c.args.self.now old setup s line new c.finish-tag.new.self
    c.next_tick.new.self c.next_tick.result
    (c.ticks.result + (g.row.B + c.TAG.result) + c.from.result) c.args.station c.args.number
    c.start.result c.len.result (bytes_unsent c.load.new.self)
    c.next_tick.ensures.unsent c.next_tick.ensures.tick between
    (c.start.ensures line' between.cuts)
    (c.len.ensures live (c.rules.ensures line' between.cuts)) is earliest
    (c.load.ensures ∙ (ap (λ x. bytes_high_first g.row.B c.args.number ++ x) tagged
    ∙ ap (λ x. bytes_high_first g.row.B c.args.number ++ g.M.Mac.tag_of key (text ++ x)) number))
