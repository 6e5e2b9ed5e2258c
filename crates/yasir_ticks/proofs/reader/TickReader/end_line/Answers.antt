use Rattle.{std.proofs.Common.refl, yasir_ticks.proofs.Steps.accepts_lf}
use Rattle.yasir_ticks.proofs.reader.TickReader.end_line.Goals as goal

pub returns-in-Ok : goal.returns-in-Ok
returns-in-Ok c = record {
  case = (
    accepts_lf _ _ _ _ _ c.in-Ok.ensures.content,
    refl,
    λ n. absurd (n refl),
    c.in-Ok.ensures.ticks,
  );
}
