use Rattle.link_replay.proofs.Asking.{asked-floors}
use Rattle.std.{proofs.Common.Some, proofs.Common.map, specs.String.string_bytes}
use Rattle.link_replay.proofs.program.asked_by.Goals as goal

pub returns-in-Ok-clause-floors : goal.returns-in-Ok-clause-floors
returns-in-Ok-clause-floors c =
    asked-floors (map string_bytes c.args.words.now) (Some c.in-Ok.command) c.in-Ok.ensures.ok
