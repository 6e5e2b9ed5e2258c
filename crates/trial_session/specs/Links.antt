-- The link of a period, while it is sent.
use Rattle.std.specs.Prelude.{◌-◌, List, ◌++◌, take}
use Rattle.yasir_ticks.specs.{Ticks.silent, declared.tick.Tick.Tick}
use Rattle.yasir_ticks.specs.DelayRing.{marked_ticks}
use Rattle.trial_session.specs.declared.link.Link.{Link}

-- the ticks that are sent: those that are marked, and then silence
abbrev pub link_sent : Link → List Tick
link_sent link = take link.marked (marked_ticks link.bytes link.marks)
    ++ silent (link.len - link.marked)
