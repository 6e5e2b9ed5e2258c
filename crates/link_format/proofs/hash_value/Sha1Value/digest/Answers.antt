use Rattle.link_format.proofs.HashValues.{same_bytes}
use Rattle.sha1.specs.Sha1.{digest_bytes, sha1}
use Rattle.std.proofs.Common.{◌≡◌, ℕ, List, length, ap, ◌∙◌, arith}
use Rattle.link_format.proofs.hash_value.Sha1Value.digest.Goals as goal

pub returns : goal.returns
unfolding sha1
returns c = λ m after.
    let words : List ℕ = c.args.self.now.words in
    let size : length words ≡ 5 = omega arith in
    c.write_words.ensures ∙ same_bytes words (length words)
    ∙ ap (digest_bytes words) size ∙ ap (λ h. digest_bytes h 5) after
