use Rattle.link_replay.specs.Words.{Asks}
use Rattle.std.proofs.Common.{◌≡◌, ◌∙◌, sym, subst, inl, drop, map}
use Rattle.std.specs.{String.string_bytes, Vec.Iter.into_iter_items}
use Rattle.link_replay.proofs.over_files.run_over_files.Goals as goal

pub returns-in-Ok-run_words-clause-ends : goal.returns-in-Ok-run_words-clause-ends
returns-in-Ok-run_words-clause-ends g c =
    let words : c.as_slice.result.now ≡ drop 1 (into_iter_items c.in-Ok-args.args) =
    c.as_slice.ensures.value ∙ c.in-Ok-words_after_name.ensures in
    rw c.in-Ok-args.is (λ asked asks.
    let runs = c.in-Ok-run_words.ensures.runs asked
    (subst (λ them. Asks (map string_bytes them) asked) (sym words) asks) in
    inl (c.in-Ok-run_words.ended, c.exit_status.ensures, rw words at runs))
