-- Tags: the first bytes of a MAC of a text, and the text that is tagged for a numbered frame.
use Rattle.std.specs.Prelude.{◌≡◌, ◌⊎◌, ℕ, List, ◌∷◌, ◌++◌, take}
use Rattle.std.specs.Int.{w64, to_be_bytes}
use Rattle.sha1.specs.Sha1.{sha1}
use Rattle.sha2.specs.Sha256.{sha256}
use Rattle.link_format.specs.Hmac.{hmac}
use Rattle.link_format.specs.declared.dir.Dir.{Dir}
use Rattle.link_format.specs.declared.dir.Dir.TheVariants.{Ab, Ba}

-- Holds if a tag may have this many bytes: 12 or 16.
abbrev pub IsTagSize : ℕ → Type 0
IsTagSize size = (size ≡ 12) ⊎ (size ≡ 16)

-- a MAC cut to its first bytes
abbrev pub hmac_cut : (List ℕ → List ℕ) → ℕ → List ℕ → List ℕ → List ℕ
hmac_cut hash size key text = take size (hmac hash key text)

-- HMAC over SHA-1, and its first 12 bytes (RFC 2404)
abbrev pub hmac_sha1 : List ℕ → List ℕ → List ℕ
hmac_sha1 = hmac sha1

abbrev pub hmac_sha1_96 : List ℕ → List ℕ → List ℕ
hmac_sha1_96 = hmac_cut sha1 12

-- HMAC over SHA-256, and its first 16 bytes (RFC 4868)
abbrev pub hmac_sha256 : List ℕ → List ℕ → List ℕ
hmac_sha256 = hmac sha256

abbrev pub hmac_sha256_128 : List ℕ → List ℕ → List ℕ
hmac_sha256_128 = hmac_cut sha256 16

-- the number of a direction in the tagged text
abbrev pub direction_number : Dir → ℕ
direction_number Ab = 0
direction_number Ba = 1

-- the tagged text of a numbered frame: a byte for the protocol, a byte for the direction, the
-- frame's bytes, and its full number as 8 bytes, high byte first
abbrev pub tag_text : ℕ → ℕ → List ℕ → ℕ → List ℕ
tag_text label direction frame number = label ∷ direction ∷ frame ++ to_be_bytes w64 number

-- the tag of a numbered frame, given how a tag is made of a key and a text
abbrev pub tag : (List ℕ → List ℕ → List ℕ) → List ℕ → ℕ → ℕ → List ℕ → ℕ → List ℕ
tag tag_of key label direction frame number = tag_of key (tag_text label direction frame number)
