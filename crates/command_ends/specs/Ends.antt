-- The outside of a run, to which the ends that a call was given refer: before the call, and after
-- it.
use Rattle.std.specs.Borrow.{MutBor}
use Rattle.command_ends.specs.Outside.{Outside, outside}
use Rattle.command_ends.specs.declared.ends.Ends.{Ends}

abbrev pub outside_before : {K S O L D : Type 0} → Ends K S O L D → Outside K S O L D
outside_before ends =
    outside ends.key.now ends.input.now ends.out.now ends.log.now ends.disk.now

abbrev pub outside_after : {K S O L D : Type 0}
    → MutBor K × (MutBor S × (MutBor O × (MutBor L × (MutBor D × Unit {0})))) → Outside K S O L D
outside_after (key, (input, (out, (log, (disk, end))))) =
    outside key.now input.now out.now log.now disk.now
