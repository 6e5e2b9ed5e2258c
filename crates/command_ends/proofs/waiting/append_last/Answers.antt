use Rattle.std.proofs.Common.{◌∙◌, ◌++◌, ap}
use Rattle.yasir_ticks.proofs.DigitsAdded.{front-digits}
use Rattle.command_ends.proofs.waiting.append_last.Goals as goal

pub returns : goal.returns
returns g c = c.append_front.ensures ∙ ap (λ l. c.args.text.now.items ++ l)
    (front-digits c.args.rest.now _ c.copy_from_slice.new.self c.digits_of.result
    c.copy_from_slice.ensures.after c.digits_of.ensures)
