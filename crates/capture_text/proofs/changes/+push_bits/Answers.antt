use Rattle.capture_text.proofs.ChangeLaws.{none_of_a, none_of_b}
use Rattle.capture_text.{proofs.TextLaws.bits_text, specs.Dump.change_text}
use Rattle.std.proofs.Common.{◌∙◌, ◌++◌, sym, ap}
use Rattle.std.{proofs.lemmas.List.append-nil, specs.List.flat_map}
use Rattle.capture_text.proofs.changes.+push_bits.Goals as goal

pub returns-in_default : goal.returns-in_default
returns-in_default t c =
    sym (append-nil c.args.text.now.items)
    ∙ ap (λ x. c.args.text.now.items ++ flat_map change_text x)
    (sym (none_of_a c.args.cursor.rate c.args.cursor.bit c.args.cursor.before c.args.a.now
    c.args.b.now c.in_default.len_below))

pub returns-in_default-b : goal.returns-in_default-b
returns-in_default-b t c =
    sym (append-nil c.args.text.now.items)
    ∙ ap (λ x. c.args.text.now.items ++ flat_map change_text x)
    (sym (none_of_b c.args.cursor.rate c.args.cursor.bit c.args.cursor.before c.args.a.now
    c.args.b.now c.in_default-b.len_below))

pub returns : goal.returns
returns t c =
    bits_text c.args.cursor.rate c.args.cursor.bit c.args.cursor.before c.args.a.now c.args.b.now
    c.args.text.now.items c.push_bit.new.text.items c.push_bits.new.text.items
    c.in-len1-up.len_at_least c.in-len1-up-b.len_at_least c.push_bit.ensures.text
    c.push_bits.ensures
