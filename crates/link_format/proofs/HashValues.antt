-- The hash value after one more block, and its digest.
use Rattle.std.proofs.Common.{◌≡◌, ℕ, zero, suc, ◌*◌, ◌/◌, ◌%◌, List, [], ◌++◌, length, take, drop}
use Rattle.std.proofs.Common.{refl, sym, ap, ◌∙◌, arith, slice_index}
use Rattle.std.proofs.lemmas.List.{drop_all}
use Rattle.std.specs.Int.{w32, to_be_bytes}
use Rattle.sha1.proofs.Absorbing as A1
use Rattle.sha1.specs.Sha1 as S1
use Rattle.sha2.proofs.Absorbing256 as A256
use Rattle.sha2.specs.Sha256 as S256

pub sha1_more : (h n blocks x : List ℕ) → length blocks % 64 ≡ 0
    → h ≡ S1.hash_after blocks (length blocks / 64) → length x ≡ 64 → n ≡ S1.compress h x
    → n ≡ S1.hash_after (blocks ++ x) (length (blocks ++ x) / 64)
sha1_more h n blocks x whole hash size next =
    let none : drop (length blocks / 64 * 64) blocks ≡ [] =
    drop_all (length blocks / 64 * 64) blocks (omega arith) in
    let absorbed : S1.IsAbsorbed h [] blocks = (hash, rw whole (sym none)) in
    let laid : x ≡ take (length blocks % 64) [] ++ x = rw whole refl in
    let more : S1.IsAbsorbed (S1.compress h x) [] (blocks ++ x) =
    A1.IsAbsorbed_fill h [] [] blocks x x absorbed (omega arith) laid in
    next ∙ more.0

pub sha256_more : (h n blocks x : List ℕ) → length blocks % 64 ≡ 0
    → h ≡ S256.hash_after S256.initial_hash_256 blocks (length blocks / 64) → length x ≡ 64
    → n ≡ S256.compress h x
    → n ≡ S256.hash_after S256.initial_hash_256 (blocks ++ x) (length (blocks ++ x) / 64)
sha256_more h n blocks x whole hash size next =
    let none : drop (length blocks / 64 * 64) blocks ≡ [] =
    drop_all (length blocks / 64 * 64) blocks (omega arith) in
    let absorbed : S256.IsAbsorbed S256.initial_hash_256 h [] blocks =
    (hash, rw whole (sym none)) in
    let laid : x ≡ take (length blocks % 64) [] ++ x = rw whole refl in
    let more : S256.IsAbsorbed S256.initial_hash_256 (S256.compress h x) [] (blocks ++ x) =
    A256.IsAbsorbed_fill S256.initial_hash_256 h [] [] blocks x x absorbed (omega arith) laid in
    next ∙ more.0

-- both hash crates write out words in the same way
pub same_bytes : (h : List ℕ) (k : ℕ) → S256.digest_bytes h k ≡ S1.digest_bytes h k
unfolding S1.digest_bytes S256.digest_bytes
same_bytes h zero = refl
same_bytes h (suc k) =
    ap (λ (front : List ℕ). front ++ to_be_bytes w32 (slice_index h k)) (same_bytes h k)
