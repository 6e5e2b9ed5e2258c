use Rattle.link_replay.specs.{Words.IsCommand, declared.words.Command.Command}
use Rattle.command_ends.proofs.Listed.{four, five}
use Rattle.std.proofs.Common.{◌≡◌, [], ◌∷◌, map, IfOk, OnErr, subst, sym}
use Rattle.std.specs.String.{string_bytes}
use Rattle.link_replay.proofs.words.read_words.Goals as goal

-- If there are four or five words, the list of their bytes has these items.
words4 : (c : goal.After-read_four) → map string_bytes c.args.words.now
    ≡ c.as_str-in-len4.result.now ∷ c.as_str-in-len4-2.result.now
    ∷ c.as_str-in-len4-3.result.now ∷ c.as_str-in-len4-4.result.now ∷ []
words4 c = four string_bytes c.args.words.now c.in-len4.len_at_least c.in-len4.len_below
    c.first-item-then-words-lt5.is c.second-item-then-words-lt5.is c.third-item.is
    c.fourth-item.is c.as_str-in-len4.ensures.value c.as_str-in-len4-2.ensures.value
    c.as_str-in-len4-3.ensures.value c.as_str-in-len4-4.ensures.value

words5 : (c : goal.After-read_five) → map string_bytes c.args.words.now
    ≡ c.as_str-in-len5.result.now ∷ c.as_str-in-len5-2.result.now
    ∷ c.as_str-in-len5-3.result.now ∷ c.as_str-in-len5-4.result.now
    ∷ c.as_str-in-len5-5.result.now ∷ []
words5 c = five string_bytes c.args.words.now c.in-len5.len_at_least c.in-len5.len_below
    c.first-item-then-words-lt6.is c.second-item-then-words-lt6.is c.third-item-then-words-lt6.is
    c.key-item.is c.path-item.is c.as_str-in-len5.ensures.value c.as_str-in-len5-2.ensures.value
    c.as_str-in-len5-3.ensures.value c.as_str-in-len5-4.ensures.value
    c.as_str-in-len5-5.ensures.value

pub returns-in-len4-clause-ok : goal.returns-in-len4-clause-ok
returns-in-len4-clause-ok c =
    subst (λ l. IfOk c.read_four.result (λ command. IsCommand l command)) (sym (words4 c))
    c.read_four.ensures.ok

pub returns-in-len4-clause-usage : goal.returns-in-len4-clause-usage
returns-in-len4-clause-usage c =
    subst (λ l. OnErr c.read_four.result ((command : Command) → IsCommand l command → ⊥))
    (sym (words4 c)) c.read_four.ensures.usage

pub returns-in-len5-clause-ok : goal.returns-in-len5-clause-ok
returns-in-len5-clause-ok c =
    subst (λ l. IfOk c.read_five.result (λ command. IsCommand l command)) (sym (words5 c))
    c.read_five.ensures.ok

pub returns-in-len5-clause-usage : goal.returns-in-len5-clause-usage
returns-in-len5-clause-usage c =
    subst (λ l. OnErr c.read_five.result ((command : Command) → IsCommand l command → ⊥))
    (sym (words5 c)) c.read_five.ensures.usage
