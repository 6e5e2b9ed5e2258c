use Rattle.std.proofs.Common.{◌≡◌, ◌*◌, length, take}
use Rattle.sha2.specs.Sha256.{digest_bytes}
use Rattle.link_format.proofs.hash_value.write_words.Given as goal

abbrev pub invariant-words : goal.invariant-words
invariant-words l = (length l.bytes ≡ 4 * length l.words)
    × (take (4 * l.i) l.bytes ≡ digest_bytes l.words l.i)
