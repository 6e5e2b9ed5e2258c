-- The hash values of SHA-1 and SHA-256 after the whole blocks of a message.
use Rattle.std.specs.Prelude.{◌≡◌, ℕ, ◌/◌, List, length}
use Rattle.sha1.specs.Sha1.{hash_after}
use Rattle.sha2.specs.Sha256.{hash_after as hash_after_256, initial_hash_256}
use Rattle.link_format.specs.declared.hash_value.Sha1Value.{Sha1Value}
use Rattle.link_format.specs.declared.hash_value.Sha256Value.{Sha256Value}

-- Holds if this is the hash value of SHA-1 after these blocks of 64 bytes.
abbrev pub IsSha1After : Sha1Value → List ℕ → Type 0
IsSha1After value blocks = value.words ≡ hash_after blocks (length blocks / 64)

-- Holds if this is the hash value of SHA-256 after these blocks of 64 bytes.
abbrev pub IsSha256After : Sha256Value → List ℕ → Type 0
IsSha256After value blocks =
    value.words ≡ hash_after_256 initial_hash_256 blocks (length blocks / 64)
