use Rattle.{std.proofs.Common.◌∙◌, yasir_io.proofs.OutputLemmas.some_written_of_slice}
use Rattle.yasir_io.proofs.sink.write_all.Goals as goal

pub loop-rest-preserved : goal.loop-rest-preserved
loop-rest-preserved g c = (
  some_written_of_slice _ _ _ _ _ _ c.loop-rest.invariant.0 c.in_ok-n.ensures.bytes,
  c.in_ok-n.ensures.cause.same ∙ c.loop-rest.invariant.1,
  c.in_ok-n.ensures.flushes ∙ c.loop-rest.invariant.2,
)
