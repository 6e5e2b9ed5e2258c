-- A link's words name one protocol, one profile and one direction: each can be read back from them.
use Rattle.link_format.specs.declared.dir.Dir.{Dir, TheVariants.Ab, TheVariants.Ba}
use Rattle.command_ends.specs.Words.{dir_word, link_word}
use Rattle.command_ends.specs.declared.link.Profile.{Profile, TheVariants.Y18, TheVariants.Y24}
use Rattle.command_ends.specs.declared.link.Proto.{Proto, TheVariants.Rtu, TheVariants.Dnp3}
use Rattle.std.proofs.Common.{◌≡◌, ℕ, ◌+◌, ◌*◌, Bool, List, [], ◌∷◌, cond, nat_eq, refl}
use Rattle.std.specs.Prelude.{codes}

-- a word as one number, so that a test can tell two words apart
abbrev pub number_of : List ℕ → ℕ
number_of [] = 0
number_of (byte ∷ word) = byte + 256 * number_of word

abbrev pub is_word : List ℕ → List ℕ → Bool
is_word expected word = nat_eq (number_of word) (number_of expected)

abbrev pub proto_by : List ℕ → Proto
proto_by word =
    cond (is_word (codes "dnp3") word) Dnp3 (cond (is_word (codes "dnp24") word) Dnp3 Rtu)

abbrev pub profile_by : List ℕ → Profile
profile_by word =
    cond (is_word (codes "rtu24") word) Y24 (cond (is_word (codes "dnp24") word) Y24 Y18)

abbrev pub dir_by : List ℕ → Dir
dir_by word = cond (is_word (codes "ab") word) Ab Ba

pub proto-by : (proto : Proto) (profile : Profile) → proto_by (link_word proto profile) ≡ proto
proto-by Rtu Y18 = refl
proto-by Rtu Y24 = refl
proto-by Dnp3 Y18 = refl
proto-by Dnp3 Y24 = refl

pub profile-by : (proto : Proto) (profile : Profile)
    → profile_by (link_word proto profile) ≡ profile
profile-by Rtu Y18 = refl
profile-by Rtu Y24 = refl
profile-by Dnp3 Y18 = refl
profile-by Dnp3 Y24 = refl

pub dir-by : (dir : Dir) → dir_by (dir_word dir) ≡ dir
dir-by Ab = refl
dir-by Ba = refl
