-- Each link that a protocol, a profile and a direction name is one that a journal may serve.
use Rattle.link_format.specs.declared.dir.Dir.{Dir, TheVariants.Ab, TheVariants.Ba}
use Rattle.command_ends.specs.Links.{link_of}
use Rattle.command_ends.specs.declared.link.{Profile.Profile, Proto.Proto}
use Rattle.{sequence_journal.specs.Links.HasDirection, std.proofs.Common.refl}

pub link-right : (proto : Proto) (profile : Profile) (dir : Dir)
    → HasDirection (link_of proto profile dir)
link-right proto profile Ab = refl
link-right proto profile Ba = refl
