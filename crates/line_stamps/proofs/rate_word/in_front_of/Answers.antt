use Rattle.std.proofs.Common.{rules, ◌≡◌, ◌≢◌, List, [], ◌∷◌, ◌++◌, MatchOption, ℕ}
use Rattle.std.proofs.lemmas.Str.Pattern.{strip_suffix_char}
use Rattle.line_stamps.proofs.rate_word.in_front_of.Goals as goal

pub returns : goal.returns
returns c =
    let cases : MatchOption c.strip_suffix.result
    ((front : List ℕ) → c.args.word.now ≢ front ++ (c.args.letter ∷ []))
    (λ x. c.args.word.now ≡ x.now ++ (c.args.letter ∷ [])) =
    strip_suffix_char c.args.letter c.args.word.now c.strip_suffix.result
    c.strip_suffix.ensures.cases c.requires in
    record { some = search (rules, cases); none = search (rules, cases) }
