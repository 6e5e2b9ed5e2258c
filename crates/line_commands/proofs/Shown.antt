-- What the definitions of the commands `seal` and `check` say of their boxes is what the walks of
-- the boxes give.
use Rattle.line_commands.specs.{CheckBoxed.checking, CheckLines.check_line, LinkBoxed.boxed_of}
use Rattle.line_commands.specs.{SealBoxed.sealing, SealLines.seal_line}
use Rattle.{check_receiver.specs.Boxed.check_walking, link_format.specs.declared.tag.Mac.Ghosts as Mac}
use Rattle.line_rules.specs.declared.line_rules.LineRules.{Ghosts as LineRules}
use Rattle.link_format.specs.{Profile.profile_of, Setup.Setup}
use Rattle.seal_transmitter.specs.Boxed.{seal_walking}
use Rattle.sequence_journal.specs.declared.numbers.TheConstants.{LIMIT}
use Rattle.std.proofs.Common.{◌≡◌, ℕ, refl}

module _ {R M : Type 0} (proto : LineRules R) (macs : Mac M) (word_len : ℕ) (setup : Setup) where
  pub sealing-shown : boxed_of (seal_walking proto macs word_len) seal_line setup
      ≡ sealing (profile_of proto macs word_len LIMIT setup) proto.rules setup.floor
  sealing-shown = refl

  pub checking-shown : boxed_of (check_walking proto macs word_len) check_line setup
      ≡ checking (profile_of proto macs word_len LIMIT setup) proto.rules setup.floor
  checking-shown = refl
