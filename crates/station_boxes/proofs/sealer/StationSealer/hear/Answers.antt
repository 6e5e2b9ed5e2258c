use Rattle.station_boxes.proofs.Hearing.{begun-text, hears-kept, hears-more}
use Rattle.stations.specs.Table.{table_key}
use Rattle.station_boxes.specs.{Names.name_len, Served.table_of, Walks.HasText}
use Rattle.link_format.specs.Tag.{direction_number}
use Rattle.std.proofs.Common.{◌≡◌, ◌∙◌, ◌<◌, ◌≤◌, ℕ, List, length, sym, ap, subst, arith}
use Rattle.station_boxes.proofs.sealer.StationSealer.hear.Goals as goal

pub returns-then-len-name_len-clause-heard : goal.returns-then-len-name_len-clause-heard
returns-then-len-name_len-clause-heard g c = λ setup live naming_is direction_is keys old.
    let self = c.args.self.now in
    let at : c.name_len.result ≡ name_len setup.naming =
    c.name_len.ensures.value ∙ ap name_len naming_is in
    let long : c.len.result ≡ length self.head.items = c.len.ensures.value in
    let full : c.name_len.result ≤ c.len.result = c.if-len-name_len.true in
    hears-more g.R.LineRules g.M.Mac setup self.mac self.head.items live old c.args.byte
    c.update.new.self (omega arith) (λ key text stands. c.update.ensures key text stands)

pub returns-then-len-name_len-2-clause-heard : goal.returns-then-len-name_len-2-clause-heard
returns-then-len-name_len-2-clause-heard g c = λ setup live naming_is direction_is keys old.
    let self = c.args.self.now in
    let at : c.name_len.result ≡ name_len setup.naming =
    c.name_len.ensures.value ∙ ap name_len naming_is in
    let long : c.len.result ≡ length self.head.items = c.len.ensures.value in
    let few : c.len.result < c.name_len.result = c.if-len-name_len.false in
    let at2 : c.name_len-2.result ≡ name_len setup.naming =
    c.name_len-2.ensures.value ∙ ap name_len naming_is in
    let long2 : c.len-2.result ≡ length c.push.new.self.items = c.len-2.ensures.value in
    let few2 : c.len-2.result < c.name_len-2.result = c.if-len-name_len-2.true in
    hears-kept g.R.LineRules g.M.Mac setup self.mac self.head.items live old c.args.byte
    self.mac c.push.new.self.items c.push.ensures.items (omega arith)
    (λ whole. absurd (omega arith))

pub returns-clause-others : goal.returns-clause-others
returns-clause-others g c =
    let self = c.args.self.now in
    let new = c.begin_text.new.self in
    let o = c.begin_text.ensures.others in
    let P : _ → Type 0 = λ h. new ≡ record self { mac = new.mac; head = h } in
    subst P (sym (ap (λ v. v.head) o)) o

pub returns-clause-heard : goal.returns-clause-heard
returns-clause-heard g c = λ setup live naming_is direction_is keys old.
    let self = c.args.self.now in
    let new = c.begin_text.new.self in
    let pushed = c.push.new.self.items in
    let at : c.name_len.result ≡ name_len setup.naming =
    c.name_len.ensures.value ∙ ap name_len naming_is in
    let long : c.len.result ≡ length self.head.items = c.len.ensures.value in
    let few : c.len.result < c.name_len.result = c.if-len-name_len.false in
    let same : new.head.items ≡ pushed = ap (λ v. v.head.items) c.begin_text.ensures.others in
    let text : HasText g.R.LineRules g.M.Mac new.mac setup pushed =
    begun-text g.R.LineRules g.M.Mac setup self.naming (direction_number self.direction)
    (λ i. table_key (table_of c.args.stations.now) i) new.mac pushed naming_is direction_is keys
    c.begin_text.ensures.text in
    let T : List ℕ → Type 0 = λ x. HasText g.R.LineRules g.M.Mac new.mac setup x in
    hears-kept g.R.LineRules g.M.Mac setup self.mac self.head.items live old c.args.byte
    new.mac new.head.items (same ∙ c.push.ensures.items) (omega arith)
    (λ whole. subst T (sym same) text)
