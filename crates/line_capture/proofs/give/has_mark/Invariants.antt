use Rattle.std.proofs.Common.{◌≡◌, drop}
use Rattle.line_capture.specs.Gives.{has_mark, has_mark_behind}
use Rattle.line_capture.proofs.give.has_mark.Given as goal

-- what follows has a mark exactly if the text has one
abbrev pub invariant-loop-b : goal.invariant-loop-b
invariant-loop-b l = has_mark_behind l.before (drop l.b-index l.text) ≡ has_mark l.text
