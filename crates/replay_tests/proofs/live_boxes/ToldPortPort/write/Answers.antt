use Rattle.{line_commands.proofs.StreamLemmas.wrote_untold, std.proofs.Common.Ok}
use Rattle.replay_tests.proofs.live_boxes.ToldPortPort.write.Goals as goal

pub returns-clause-wrote : goal.returns-clause-wrote
returns-clause-wrote c = wrote_untold c.args.to c.args.piece.now (Ok tt)
