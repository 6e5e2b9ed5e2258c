use Rattle.std.proofs.Common.{◌∙◌, ◌≡◌, sym, ap, arith, length, Some}
use Rattle.session_lists.proofs.Comparing.{unexpected-differs, fewer-differ, all-same, place_of}
use Rattle.session_lists.proofs.comparison.Comparison.place.Goals as goal

pub returns-in-Some : goal.returns-in-Some
returns-in-Some c = λ late frames reads expects found.
    sym (unexpected-differs late frames reads c.in-Some.unexpected.place
    (sym found.place ∙ ap place_of c.in-Some.is))

pub returns-then-self-len : goal.returns-then-self-len
returns-then-self-len c = λ late frames reads expects found.
    let all : c.len.result ≡ length frames = c.len.ensures frames expects in
    ap (λ n. Some n) found.count
    ∙ sym (fewer-differ late frames reads (sym found.place ∙ ap place_of c.in-None.is)
    (omega (arith, all, found.count, c.if-self-len.true)))

pub returns : goal.returns
returns c = λ late frames reads expects found.
    let all : c.len.result ≡ length frames = c.len.ensures frames expects in
    sym (all-same late frames reads (sym found.place ∙ ap place_of c.in-None.is)
    (omega (arith, all, found.count, c.if-self-len.false)))
