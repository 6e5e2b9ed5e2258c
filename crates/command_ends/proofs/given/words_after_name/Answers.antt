use Rattle.std.proofs.Common.{rules, ◌≡◌, ◌∙◌, ap, length}
use Rattle.std.proofs.lemmas.Iterator.Adapters.{fact_from_collect, YieldsList-from_skip}
use Rattle.std.{proofs.lemmas.Iterator.Adapters.YieldsList-from_vec, specs.Prelude.vec_len}
use Rattle.std.specs.Vec.Iter.{into_iter_items, into_iter_len}
use Rattle.command_ends.proofs.given.words_after_name.Goals as goal

pub returns : goal.returns
returns c =
    let source = c.skip.ensures.source in
    let all = YieldsList-from_vec {s = c.skip.result.iter} (into_iter_items c.args.args)
    (ap into_iter_items source) (ap into_iter_len source ∙ c.args.args.rest.ok.0) in
    let taken = fact_from_collect (λ xs v. (v.items ≡ xs) × (vec_len v ≡ length xs))
    c.collect.result c.collect.ensures.ran
    (YieldsList-from_skip {s = c.skip.result} 1 all c.skip.ensures.count) in
    search rules
