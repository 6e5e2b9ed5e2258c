use Rattle.std.proofs.Common.{◌∙◌, ap, length}
use Rattle.session_lists.proofs.Lists.{holds-length}
use Rattle.session_lists.proofs.frame_list.FrameList.len.Goals as goal

pub returns-clause-frames : goal.returns-clause-frames
returns-clause-frames g c = λ frames holds.
    ap length c.as_slice.ensures.value ∙ holds-length _ frames holds
