use Rattle.std.proofs.Common.{arith, sym, ◌∙◌, get_or}
use Rattle.std.proofs.lemmas.List.Elements.{All-more}
use Rattle.command_ends.proofs.KeyLemmas.{hexdigit_same, is_digit_true}
use Rattle.command_ends.proofs.key_text.digit_count.Goals as goal

pub loop-place-preserved : goal.loop-place-preserved
loop-place-preserved c = All-more is_digit_true c.args.text.now c.loop-place.place 0
    (omega (arith, c.min-most.ensures)) c.loop-place.invariant
    (sym (hexdigit_same (get_or c.args.text.now c.loop-place.place 0))
    ∙ (sym c.is_ascii_hexdigit.ensures.value ∙ c.if-not-is_ascii_hexdigit.false))
