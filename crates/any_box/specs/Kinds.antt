-- Which of the eight boxes a box is, and the link of its journal.
use Rattle.link_format.specs.declared.dir.Dir.{Dir}
use Rattle.sequence_journal.specs.declared.link.LinkId.{LinkId}
use Rattle.command_ends.specs.Links.{link_of}
use Rattle.any_box.specs.declared.kind.Kind.{Kind}

-- the link of a box of this kind in a direction
abbrev pub link_for : Kind → Dir → LinkId
link_for kind dir = link_of kind.proto kind.profile dir
