use Rattle.session_audit.proofs.Unlisting.{gives-nothing}
use Rattle.{std.proofs.Common.arith, yasir_ticks.proofs.TickRuns.length-run_items}
use Rattle.session_audit.proofs.unlisted.UnlistedConsumer.take_some.Goals as goal

pub returns : goal.returns
returns c = gives-nothing _ _ _ (omega (arith, c.requires.some, length-run_items c.args._run))
