use Rattle.{dnp_link_frame.proofs.DnpLaws.dnp_ends_right, std.proofs.Common.◌∙◌}
use Rattle.dnp_link_frame.proofs.dnp.DnpLineRules.ends_right.Goals as goal

pub returns : goal.returns
returns c = λ x stands. c.ends_right.ensures ∙ dnp_ends_right c.args.self.now x stands
