use Rattle.sha2.specs.Sha256.{digest_bytes, sha256}
use Rattle.std.proofs.Common.{◌≡◌, ℕ, List, length, ap, ◌∙◌, arith}
use Rattle.link_format.proofs.hash_value.Sha256Value.digest.Goals as goal

pub returns : goal.returns
unfolding sha256
returns c = λ m after.
    let words : List ℕ = c.args.self.now.words in
    let size : length words ≡ 8 = omega arith in
    c.write_words.ensures ∙ ap (digest_bytes words) size ∙ ap (λ h. digest_bytes h 8) after
