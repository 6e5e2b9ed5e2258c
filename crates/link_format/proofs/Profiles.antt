-- Words and lengths of trailers, and the profiles y18 and y24.
use Rattle.{byteorder.specs.Numbers.big_from-bytes, link_format.specs.Digests.length-sha1}
use Rattle.link_format.specs.{Digests.length-sha256, Digests.length-hmac_cut, Tag.tag_text}
use Rattle.link_format.specs.Profile.{Profile, HasTags, trailer, trailer_len, delay, words, word_of}
use Rattle.link_format.specs.{Setup.Setup, Y18.y18, Y24.y24}
use Rattle.{sha1.specs.Sha1.sha1, sha2.specs.Sha256.sha256}
use Rattle.std.proofs.Common.{◌≡◌, ◌∙◌, ℕ, ◌%◌, zero, suc, List, length, refl, ap, arith, lit≤}
use Rattle.std.{proofs.Common.length-append, specs.Int.bytes_high_first}

length-word : (k n : ℕ) → length (bytes_high_first k n) ≡ k
length-word zero n = refl
length-word (suc k) n = ap suc (length-word k n)

-- a trailer has its length
pub length-trailer : (profile : Profile) → HasTags profile → (number : ℕ) (frame : List ℕ)
    → length (trailer profile number frame) ≡ trailer_len profile
length-trailer profile tags number frame =
    let word = length-word profile.word_len number in
    let sized = tags.sized number frame in
    length-append (bytes_high_first profile.word_len number) (profile.tag number frame)
    ∙ omega arith

-- the word of a trailer is its number modulo the count of words
pub word_of-trailer : (profile : Profile) (number : ℕ) (frame : List ℕ)
    → word_of profile (trailer profile number frame) ≡ number % words profile
word_of-trailer profile number frame =
    big_from-bytes profile.word_len number (profile.tag number frame)

pub y18-tags : (label limit : ℕ) (setup : Setup) → HasTags (y18 label limit setup)
y18-tags label limit setup = record {
  sized = λ number frame.
      length-hmac_cut sha1 20 12 length-sha1 (lit≤ tt) setup.key
      (tag_text label setup.direction frame number);
}

pub y24-tags : (label limit : ℕ) (setup : Setup) → HasTags (y24 label limit setup)
y24-tags label limit setup = record {
  sized = λ number frame.
      length-hmac_cut sha256 32 16 length-sha256 (lit≤ tt) setup.key
      (tag_text label setup.direction frame number);
}

y18-trailer : (label limit : ℕ) (setup : Setup) → trailer_len (y18 label limit setup) ≡ 14
y18-trailer label limit setup = refl

y18-delay : (label limit : ℕ) (setup : Setup) → delay (y18 label limit setup) ≡ 18
y18-delay label limit setup = refl

y24-trailer : (label limit : ℕ) (setup : Setup) → trailer_len (y24 label limit setup) ≡ 20
y24-trailer label limit setup = refl

y24-delay : (label limit : ℕ) (setup : Setup) → delay (y24 label limit setup) ≡ 24
y24-delay label limit setup = refl

y18-words : (label limit : ℕ) (setup : Setup) → words (y18 label limit setup) ≡ 65536
y18-words label limit setup = refl

y24-words : (label limit : ℕ) (setup : Setup) → words (y24 label limit setup) ≡ 4294967296
y24-words label limit setup = refl
