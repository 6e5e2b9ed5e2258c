use Rattle.line_commands.proofs.RunsAreUptimes.{uptime-or-none}
use Rattle.line_commands.proofs.laws.runs_are_uptimes.Goals as goal

pub returns : goal.returns
returns g c = λ boxed link dir rest before after status begins image right replays told one left.
    uptime-or-none g.K.Source g.S.Source g.O.Sink g.L.Sink g.D.SlotDisk boxed link right dir rest
    before after begins image told one left status replays
