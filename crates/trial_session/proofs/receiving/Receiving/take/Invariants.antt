use Rattle.std.proofs.Common.{◌≡◌, ◌+◌, ◌-◌, ◌≤◌, ◌++◌, List, take}
use Rattle.trial_session.specs.{Links.link_sent, Sides.HasReceived, Sides.MayGoOnReceiving}
use Rattle.{trial_session.specs.Sides.IsReceiving, yasir_ticks.specs.declared.tick.Tick.Tick}
use Rattle.trial_session.proofs.receiving.Receiving.take.Given as goal

abbrev pub invariant-loop-at : goal.invariant-loop-at
invariant-loop-at g l =
    (l.at ≤ l.link.len)
    × MayGoOnReceiving g.C.LinkBox g.V.Device l.self l.waiting.items
    × (g.C.LinkBox.taken l.self.checking.line_box
    ≡ g.C.LinkBox.taken l.fn.self.checking.line_box + l.at)
    × ((link : List Tick) → HasReceived g.C.LinkBox g.C.CountingBox.counting g.V.Device l.fn.self
    link
    → IsReceiving g.C.LinkBox g.C.CountingBox.counting g.V.Device l.self l.waiting.items
    (link ++ take l.at (link_sent l.link)))

abbrev pub decreases-loop-at : goal.decreases-loop-at
decreases-loop-at g l = l.link.len - l.at
