use Rattle.std.proofs.Common.{◌∙◌, Some, None, arith, ap, sym, drop}
use Rattle.std.proofs.lemmas.Str.Pattern.{strip_prefix_char}
use Rattle.yasir_io.proofs.OutputLemmas.{always_on_err}
use Rattle.link_replay.proofs.Asking.{spelled-one}
use Rattle.link_replay.proofs.LateWords.{parted}
use Rattle.link_replay.proofs.words.read_range.Goals as goal

pub returns-in_default-clause-usage : goal.returns-in_default-clause-usage
returns-in_default-clause-usage c = λ tolerance may is.
    parted tolerance c.args.word.now None may c.in_default.ensures.cases is

pub returns-in_default-strip_prefix-clause-usage :
    goal.returns-in_default-strip_prefix-clause-usage
returns-in_default-strip_prefix-clause-usage c = λ tolerance may is.
    let parts = parted tolerance c.args.word.now (Some (c.in-Some.least, c.in-Some.rest)) may
    c.in-Some.ensures.cases is in
    strip_prefix_char 46 c.in-Some.rest.now None c.in_default-strip_prefix.ensures.cases
    (omega arith) _ parts.1

pub returns-in_err-least-clause-usage : goal.returns-in_err-least-clause-usage
returns-in_err-least-clause-usage c = always_on_err c.from_residual.result (λ tolerance may is.
    let parts = parted tolerance c.args.word.now (Some (c.in-Some.least, c.in-Some.rest)) may
    c.in-Some.ensures.cases is in
    c.in_err-least.ensures.usage tolerance.least (omega (arith, may.ordered, may.few)) parts.0)

pub returns-in_err-most-clause-usage : goal.returns-in_err-most-clause-usage
returns-in_err-most-clause-usage c =
    always_on_err c.from_residual-in_err-most.result (λ tolerance may is.
    let parts = parted tolerance c.args.word.now (Some (c.in-Some.least, c.in-Some.rest)) may
    c.in-Some.ensures.cases is in
    let behind = strip_prefix_char 46 c.in-Some.rest.now (Some c.in-Some-strip_prefix.most)
    c.in-Some-strip_prefix.ensures.cases (omega arith) in
    c.in_err-most.ensures.usage tolerance.most may.few (ap (drop 1) (sym behind ∙ parts.1)))

pub returns-then-least-most-clause-usage : goal.returns-then-least-most-clause-usage
returns-then-least-most-clause-usage c = λ tolerance may is.
    let parts = parted tolerance c.args.word.now (Some (c.in-Some.least, c.in-Some.rest)) may
    c.in-Some.ensures.cases is in
    let behind = strip_prefix_char 46 c.in-Some.rest.now (Some c.in-Some-strip_prefix.most)
    c.in-Some-strip_prefix.ensures.cases (omega arith) in
    let low = spelled-one tolerance.least c.in_ok-least.least
    (omega (arith, may.ordered, may.few)) (omega (arith, c.in_ok-least.ensures.within))
    (sym parts.0 ∙ c.in_ok-least.ensures.ok) in
    let high = spelled-one tolerance.most c.in_ok-most.most
    (omega (arith, may.few)) (omega (arith, c.in_ok-most.ensures.within))
    (sym (ap (drop 1) (sym behind ∙ parts.1)) ∙ c.in_ok-most.ensures.ok) in
    omega (arith, low, high, may.ordered, c.if-least-most.true)
