use Rattle.check_receiver.proofs.checker.Checker.live_bytes.Goals as goal

pub returns : goal.returns
returns g c = λ last setup link stands. c.rules.ensures link stands.cuts
