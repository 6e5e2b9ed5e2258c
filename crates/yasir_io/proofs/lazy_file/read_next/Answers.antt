use Rattle.{std.proofs.Common.rules, yasir_io.proofs.FileLemmas.read_and_zeros}
use Rattle.yasir_io.proofs.lazy_file.read_next.Goals as goal

pub returns : goal.returns
returns g c = read_and_zeros g.F.Read _ _ _ c.in_ok-n.n _ _ (search rules) c.in_ok-n.ensures.within
    c.in_ok-n.ensures.taken c.in_ok-n.ensures.end c.copy_from_slice.ensures.after
