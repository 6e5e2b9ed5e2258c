use Rattle.check_receiver.proofs.{Beginnings.good-keeps, Lending.same-taken}
use Rattle.frame_ending.specs.SoFar.{live_bytes_so_far}
use Rattle.check_receiver.proofs.checker.Checker.follow.Goals as goal

pub returns-then-not-has_good_head-clause-run : goal.returns-then-not-has_good_head-clause-run
returns-then-not-has_good_head-clause-run g c = λ last setup line stands.
    same-taken g.R.LineRules g.M.Mac c.args.self.now last setup line stands c.args.sent.now.items
    c.requires.empty

pub returns-clause-run : goal.returns-clause-run
returns-clause-run g c = λ last setup line stands.
    c.follow_on.ensures.run last setup line stands c.requires.phase
    (good-keeps g.R.LineRules.rules (live_bytes_so_far g.R.LineRules.rules line) c.args.bytes.now
    (c.has_good_head.ensures c.if-not-has_good_head.false line stands.cuts))
