use Rattle.std.proofs.{Common.ℕ, Common.List, Common.◌++◌, Common.ap, lemmas.List.drop-replicate}
use Rattle.link_format.proofs.keyed_hash.filled.Goals as goal

pub returns : goal.returns
returns c = rw c.copy_from_slice.ensures.after
    (ap (λ (zeros : List ℕ). c.args.key.now ++ zeros) (drop-replicate _ 64 0))
