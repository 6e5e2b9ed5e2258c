-- HMAC (RFC 2104) over a hash function that takes blocks of 64 bytes, on whole lists of bytes.
use Rattle.std.specs.Prelude.{ℕ, ◌-◌, nat_lt, List, ◌++◌, length, map, replicate, bit_xor}
use Rattle.std.specs.Prelude.{if◌then◌else◌}

-- each byte xored with a pad's byte
abbrev pub xored : ℕ → List ℕ → List ℕ
xored pad bytes = map (λ b. bit_xor b pad) bytes

-- a key of at most a block, filled_key with zeros to a whole one
abbrev pub filled_key : List ℕ → List ℕ
filled_key key = key ++ replicate (64 - length key) 0

-- the block of a key; a key that is longer than a block is hashed first
unfoldable pub key_block : (List ℕ → List ℕ) → List ℕ → List ℕ
key_block hash key = if nat_lt 64 (length key) then filled_key (hash key) else filled_key key

-- the MAC of a text under a key
unfoldable pub hmac : (List ℕ → List ℕ) → List ℕ → List ℕ → List ℕ
hmac hash key text =
    hash (xored 0x5C (key_block hash key) ++ hash (xored 0x36 (key_block hash key) ++ text))
