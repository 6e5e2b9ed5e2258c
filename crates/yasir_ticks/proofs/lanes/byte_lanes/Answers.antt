use Rattle.memchr.{proofs.lemmas.LaneLemmas.HasLanes-select, specs.Lanes.HasLanes}
use Rattle.std.proofs.Common.{cond, eqb, get_or, replicate, sym, subst, w8}
use Rattle.std.{proofs.lemmas.Simd.tops_compared, specs.Simd.Lanes.sel_l}
use Rattle.yasir_ticks.proofs.lanes.byte_lanes.Goals as goal

pub returns : goal.returns
returns c =
    let v = c.args.marks in
    subst (λ ms. HasLanes (sel_l ms (replicate 32 0) (replicate 32 255))
    (λ k. cond (eqb (get_or v k 0) 0) 0 255))
    (sym (tops_compared w8 eqb v (replicate 32 0)))
    (HasLanes-select eqb v 0 0 255 c.fits-marks.0)
