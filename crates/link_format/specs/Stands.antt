-- What a running HMAC represents.
use Rattle.std.specs.Prelude.{ℕ, List, ◌++◌}
use Rattle.link_format.specs.Hmac.{xored, key_block}
use Rattle.link_format.specs.declared.keyed_hash.Hmac.{Hmac}

-- Holds if the running HMAC represents this key and the text so far, given the hash function and
-- what its states and hashers hold.
pub record MacStandsFor {D S : Type 0} {N : ℕ} (hash : List ℕ → List ℕ) (Starts : S → List ℕ → Type 0)
    (Holds : D → List ℕ → Type 0) (mac : Hmac D S N)
    (key text : List ℕ) : Type 0 where
  pub inner : Starts mac.inner (xored 0x36 (key_block hash key))
  pub outer : Starts mac.outer (xored 0x5C (key_block hash key))
  pub running : Holds mac.running (xored 0x36 (key_block hash key) ++ text)
