use Rattle.link_box.specs.{Stepping.ServesLink}
use Rattle.std.proofs.Common.{◌≡◌, Some}
use Rattle.yasir_io.specs.Steady.{steady_slots}
use Rattle.box_tests.proofs.third_links.run_box.Given as goal

abbrev pub invariant-loop-letter : goal.invariant-loop-letter
invariant-loop-letter g l = (g.X.LinkBox.taken l.line_box ≡ l.letter-index)
    × ServesLink (g.X.LinkBox.link_of l.line_box) l.journal (Some (steady_slots l.disk))
