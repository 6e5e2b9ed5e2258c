use Rattle.station_boxes.specs.{Names.name_in, Served.table_of}
use Rattle.stations.specs.Table.{table_key}
use Rattle.link_format.specs.Tag.{direction_number}
use Rattle.std.proofs.Common.{◌≡◌, ◌∙◌, ◌∷◌, [], ℕ, List, sym, ap, subst}
use Rattle.station_boxes.proofs.sealer.StationSealer.begin_text.Goals as goal

pub returns-clause-text : goal.returns-clause-text
returns-clause-text g c =
    let self = c.args.self.now in
    let key = c.key_of.result.now in
    let to = direction_number self.direction in
    let begun = c.update-2.ensures key (c.LABEL.result ∷ c.number.result ∷ [])
    (c.update.ensures key [] c.with_key.ensures) in
    let label : c.LABEL.result ≡ g.R.LineRules.rules.label =
    c.LABEL.ensures ∙ sym g.R.LineRules.numbers.label_is in
    let name : c.name_in-name.result ≡ name_in self.naming self.head.items =
    c.name_in-name.ensures ∙ ap (λ x. name_in self.naming x) c.as_slice.ensures.value in
    let key_is : key ≡ table_key (table_of c.args.stations.now)
    (name_in self.naming self.head.items) =
    c.key_of.ensures ∙ ap (λ i. table_key (table_of c.args.stations.now) i) name in
    let L : ℕ → Type 0 = λ n. g.M.Mac.stands c.update-2.new.self key
    (n ∷ c.number.result ∷ c.as_slice-2.result.now) in
    let N : ℕ → Type 0 = λ n. g.M.Mac.stands c.update-2.new.self key
    (g.R.LineRules.rules.label ∷ n ∷ c.as_slice-2.result.now) in
    let H : List ℕ → Type 0 = λ x. g.M.Mac.stands c.update-2.new.self key
    (g.R.LineRules.rules.label ∷ to ∷ x) in
    let K : List ℕ → Type 0 = λ k. g.M.Mac.stands c.update-2.new.self k
    (g.R.LineRules.rules.label ∷ to ∷ self.head.items) in
    subst K key_is (subst H c.as_slice-2.ensures.value (subst N c.number.ensures
    (subst L label begun)))
