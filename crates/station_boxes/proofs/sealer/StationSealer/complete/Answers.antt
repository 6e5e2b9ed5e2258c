use Rattle.station_boxes.proofs.Hearing.{begun-text, hears-ended, hears-whole}
use Rattle.stations.specs.Table.{table_key}
use Rattle.station_boxes.specs.{Names.name_len, Served.table_of}
use Rattle.link_format.specs.Tag.{direction_number}
use Rattle.std.proofs.Common.{◌≡◌, ◌∙◌, ◌<◌, ◌≤◌, length, ap, arith}
use Rattle.station_boxes.proofs.sealer.StationSealer.complete.Goals as goal

pub returns-then-len-name_len-clause-text : goal.returns-then-len-name_len-clause-text
returns-then-len-name_len-clause-text g c = λ setup live naming_is direction_is keys old.
    let self = c.args.self.now in
    let at : c.name_len.result ≡ name_len setup.naming =
    c.name_len.ensures.value ∙ ap name_len naming_is in
    let long : c.len.result ≡ length self.head.items = c.len.ensures.value in
    let full : c.name_len.result ≤ c.len.result = c.if-len-name_len.true in
    hears-whole g.R.LineRules g.M.Mac setup self.mac self.head.items live old (omega arith)

pub returns-clause-text : goal.returns-clause-text
returns-clause-text g c = λ setup live naming_is direction_is keys old.
    let self = c.args.self.now in
    let at : c.name_len.result ≡ name_len setup.naming =
    c.name_len.ensures.value ∙ ap name_len naming_is in
    let long : c.len.result ≡ length self.head.items = c.len.ensures.value in
    let few : c.len.result < c.name_len.result = c.if-len-name_len.false in
    hears-ended g.R.LineRules g.M.Mac setup self.mac self.head.items live old 0
    c.begin_text.new.self.mac (omega arith)
    (begun-text g.R.LineRules g.M.Mac setup self.naming (direction_number self.direction)
    (λ i. table_key (table_of c.args.stations.now) i) c.begin_text.new.self.mac self.head.items
    naming_is direction_is keys c.begin_text.ensures.text)
