-- The two directions of a line.
use Rattle.link_format.specs.declared.dir.Dir.{Dir}
use Rattle.link_format.specs.declared.dir.Dir.TheVariants.{Ab, Ba}

abbrev pub opposite_of : Dir → Dir
opposite_of Ab = Ba
opposite_of Ba = Ab
