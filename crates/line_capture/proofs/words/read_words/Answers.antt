use Rattle.line_capture.specs.{Words.IsCaptureCommand, declared.words.Command.Command}
use Rattle.command_ends.proofs.Listed.{five}
use Rattle.std.proofs.Common.{OnErr, subst, sym}
use Rattle.std.specs.String.{string_bytes}
use Rattle.line_capture.proofs.words.read_words.Goals as goal

pub returns-in-len5-clause-usage : goal.returns-in-len5-clause-usage
returns-in-len5-clause-usage c =
    let words = five string_bytes c.args.words.now c.in-len5.len_at_least c.in-len5.len_below
    c.verb-item-then-words-lt6.is c.form-item-then-words-lt6.is c.rate-item-then-words-lt6.is
    c.ways-item-then-words-lt6.is c.last-item.is c.as_str-in-len5.ensures.value
    c.as_str-in-len5-2.ensures.value c.as_str-in-len5-3.ensures.value
    c.as_str-in-len5-4.ensures.value c.as_str-in-len5-5.ensures.value in
    subst (λ l. OnErr c.read_five.result ((command : Command) → IsCaptureCommand l command → ⊥))
    (sym words) c.read_five.ensures.usage
