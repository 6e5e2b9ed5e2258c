use Rattle.{line_capture.specs.Collecting.Collecting, std.proofs.Common.◌≡◌, std.proofs.Common.take}
use Rattle.line_capture.proofs.collect.collect.Given as goal

-- the bytes so far were read, and their items are kept
abbrev pub invariant-loop-b : goal.invariant-loop-b
invariant-loop-b g l = record {
  count : l.place ≡ l.b-index;
  taken : g.F.FormReader.taken l.reader ≡ l.b-index;
  so_far : Collecting g.F.FormReader l.fn.taking l.reader l.kept (take l.b-index l.file);
}
