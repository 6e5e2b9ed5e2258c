use Rattle.{dnp_link_frame.proofs.DnpLaws.dnp_good, std.proofs.Common.◌∙◌}
use Rattle.dnp_link_frame.proofs.dnp.DnpLineRules.good.Goals as goal

pub returns : goal.returns
returns c = λ x stands. c.is_whole.ensures ∙ dnp_good c.args.self.now x stands
