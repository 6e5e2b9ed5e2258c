use Rattle.{session_lists.proofs.Lists.holds-head, std.proofs.Common.◌∙◌, std.proofs.Common.ap}
use Rattle.session_lists.proofs.frame_list.FrameList.head.Goals as goal

pub returns : goal.returns
returns g c = λ frames other holds.
    ap (λ entry. entry.head) c.index.ensures
    ∙ holds-head _ c.args.index _ frames other c.requires holds
