use Rattle.{std.proofs.Common.arith, yasir_c.proofs.Holding.some-held}
use Rattle.yasir_c.proofs.handle.taken_out.Goals as goal

pub into_loose-requires : goal.into_loose-requires
into_loose-requires c = some-held _ _ c.replace-held.result.holds_is
    (omega (arith, c.if-holds-eq0.false))
