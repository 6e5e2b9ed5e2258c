-- The profile y18: words of 2 bytes, and tags of 12 bytes by HMAC over SHA-1 cut to 96 bits. So a
-- trailer has 14 bytes and the delay is 18 ticks.
use Rattle.std.specs.Prelude.{ℕ}
use Rattle.link_format.specs.Tag.{hmac_sha1_96, tag}
use Rattle.link_format.specs.Profile.{Profile}
use Rattle.link_format.specs.Setup.{Setup}

-- y18 for a protocol with this label, with numbers up to a limit, for a box with this setup
abbrev pub y18 : ℕ → ℕ → Setup → Profile
y18 label limit setup = record {
  word_len = 2;
  tag_len = 12;
  tag = λ number frame. tag hmac_sha1_96 setup.key label setup.direction frame number;
  limit = limit;
}
