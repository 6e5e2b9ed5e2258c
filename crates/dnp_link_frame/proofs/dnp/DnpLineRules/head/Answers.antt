use Rattle.{dnp_link_frame.proofs.DnpLaws.dnp_head, std.proofs.Common.◌∙◌}
use Rattle.dnp_link_frame.proofs.dnp.DnpLineRules.head.Goals as goal

pub returns : goal.returns
returns c = λ x stands. c.head_by.ensures ∙ dnp_head c.args.self.now x stands
