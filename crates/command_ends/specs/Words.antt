-- The words that name a link.
use Rattle.std.specs.Prelude.{ℕ, List, codes}
use Rattle.link_format.specs.declared.dir.Dir.{Dir}
use Rattle.link_format.specs.declared.dir.Dir.TheVariants.{Ab, Ba}
use Rattle.command_ends.specs.declared.link.Proto.{Proto}
use Rattle.command_ends.specs.declared.link.Proto.TheVariants.{Rtu, Dnp3}
use Rattle.command_ends.specs.declared.link.Profile.{Profile}
use Rattle.command_ends.specs.declared.link.Profile.TheVariants.{Y18, Y24}

-- the word for a protocol, which is also the word for the protocol with the profile y18
abbrev pub proto_word : Proto → List ℕ
proto_word Rtu = codes "rtu"
proto_word Dnp3 = codes "dnp3"

-- the word for a protocol and a profile
abbrev pub link_word : Proto → Profile → List ℕ
link_word proto Y18 = proto_word proto
link_word Rtu Y24 = codes "rtu24"
link_word Dnp3 Y24 = codes "dnp24"

-- the word for a direction
abbrev pub dir_word : Dir → List ℕ
dir_word Ab = codes "ab"
dir_word Ba = codes "ba"
