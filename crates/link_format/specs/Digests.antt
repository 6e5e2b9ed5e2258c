-- How long digests and tags are, and that they consist of bytes.
use Rattle.std.specs.Prelude.{◌≡◌, ℕ, zero, suc, ◌<◌, ◌≤◌, List, [], ◌++◌, length, All, refl}
use Rattle.std.specs.Prelude.{slice_index}
use Rattle.std.specs.Int.{byte_at, bytes_high_first}
use Rattle.std.proofs.Common.{arith, inl, inr}
use Rattle.std.proofs.lemmas.List.{length-take-le}
use Rattle.std.proofs.lemmas.List.Elements.{All-nil, All-cons, All-append, All-take}
use Rattle.link_format.specs.Hmac.{hmac}
use Rattle.link_format.specs.Tag.{IsTagSize, hmac_cut}
use Rattle.sha1.specs.Sha1.{digest_bytes, sha1}
use Rattle.sha2.specs.Sha256.{digest_bytes as digest_bytes_256, sha256}

-- a digest of SHA-1 has 20 bytes, one of SHA-256 has 32
pub length-sha1 : (message : List ℕ) → length (sha1 message) ≡ 20
unfolding digest_bytes sha1
length-sha1 message = refl

pub length-sha256 : (message : List ℕ) → length (sha256 message) ≡ 32
unfolding digest_bytes_256 sha256
length-sha256 message = refl

byte_at-lt : (i n : ℕ) → byte_at i n < 256
byte_at-lt zero n = omega arith
byte_at-lt (suc i) n = omega arith

All-bytes_high_first : (k n : ℕ) → All (λ b. b < 256) (bytes_high_first k n)
All-bytes_high_first zero n = All-nil _
All-bytes_high_first (suc k) n = All-cons (λ b. b < 256) (byte_at k n) _ (byte_at-lt k n)
    (All-bytes_high_first k n)

-- words of four bytes, written one after the other, are bytes
All-words : (written : ℕ → List ℕ) (word : ℕ → ℕ) → written zero ≡ []
    → ((k : ℕ) → written (suc k) ≡ written k ++ bytes_high_first 4 (word k))
    → (k : ℕ) → All (λ b. b < 256) (written k)
All-words written word none more zero = rw none (All-nil _)
All-words written word none more (suc k) = rw (more k)
    (All-append (λ b. b < 256) (written k) _ (All-words written word none more k)
    (All-bytes_high_first 4 (word k)))

All-digest_bytes : (value : List ℕ) (k : ℕ) → All (λ b. b < 256) (digest_bytes value k)
unfolding digest_bytes
All-digest_bytes value = All-words (digest_bytes value) (slice_index value) refl (λ k. refl)

All-digest_bytes_256 : (value : List ℕ) (k : ℕ) → All (λ b. b < 256) (digest_bytes_256 value k)
unfolding digest_bytes_256
All-digest_bytes_256 value = All-words (digest_bytes_256 value) (slice_index value) refl (λ k. refl)

-- a digest consists of bytes
pub All-sha1 : (message : List ℕ) → All (λ b. b < 256) (sha1 message)
unfolding sha1
All-sha1 message = All-digest_bytes _ 5

pub All-sha256 : (message : List ℕ) → All (λ b. b < 256) (sha256 message)
unfolding sha256
All-sha256 message = All-digest_bytes_256 _ 8

-- a digest fits into a block, and a tag isn't longer than a digest
pub sha1-fits_block : 20 ≤ 64
sha1-fits_block = omega arith

pub sha256-fits_block : 32 ≤ 64
sha256-fits_block = omega arith

pub sha1-tag_size : IsTagSize 12
sha1-tag_size = inl refl

pub sha256-tag_size : IsTagSize 16
sha256-tag_size = inr refl

pub sha1-tag_within : 12 ≤ 20
sha1-tag_within = omega arith

pub sha256-tag_within : 16 ≤ 32
sha256-tag_within = omega arith

module _ (hash : List ℕ → List ℕ) where
  -- a tag has `size` bytes if digests have at least that many
  pub length-hmac_cut : (n size : ℕ) → ((m : List ℕ) → length (hash m) ≡ n) → size ≤ n
      → (key text : List ℕ)
      → length (hmac_cut hash size key text) ≡ size
  unfolding hmac
  length-hmac_cut n size sized within key text = length-take-le size _ (rw (sized _) within)

  -- a tag consists of bytes if digests do
  pub All-hmac_cut : (size : ℕ) → ((m : List ℕ) → All (λ b. b < 256) (hash m)) → (key text : List ℕ)
      → All (λ b. b < 256) (hmac_cut hash size key text)
  unfolding hmac
  All-hmac_cut size bytes key text = All-take (λ b. b < 256) size _ (bytes _)
