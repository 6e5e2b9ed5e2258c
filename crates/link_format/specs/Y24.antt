-- The profile y24: words of 4 bytes, and tags of 16 bytes by HMAC over SHA-256 cut to 128 bits. So
-- a trailer has 20 bytes and the delay is 24 ticks.
use Rattle.std.specs.Prelude.{ℕ}
use Rattle.link_format.specs.Tag.{hmac_sha256_128, tag}
use Rattle.link_format.specs.Profile.{Profile}
use Rattle.link_format.specs.Setup.{Setup}

-- y24 for a protocol with this label, with numbers up to a limit, for a box with this setup
abbrev pub y24 : ℕ → ℕ → Setup → Profile
y24 label limit setup = record {
  word_len = 4;
  tag_len = 16;
  tag = λ number frame. tag hmac_sha256_128 setup.key label setup.direction frame number;
  limit = limit;
}
