use Rattle.std.proofs.Common.{◌∙◌, ap, length, length-append}
use Rattle.session_lists.proofs.Lists.{holds-more}
use Rattle.session_lists.proofs.frame_list.FrameList.push.Goals as goal

pub returns-in-Ok-push-clause-kept : goal.returns-in-Ok-push-clause-kept
returns-in-Ok-push-clause-kept g c =
    let bytes = rw c.in-Ok.is at c.extend_from_slice.ensures.items in
    holds-more _ _ _ c.args.bytes.now (rw c.in-Ok-push.is at c.push.ensures.items) bytes
    (ap length c.as_slice.ensures.value ∙ ap length bytes
    ∙ length-append _ c.args.bytes.now) c.requires

pub returns-in-Ok-push-clause-grows : goal.returns-in-Ok-push-clause-grows
returns-in-Ok-push-clause-grows g c =
    ap length (rw c.in-Ok-push.is at c.push.ensures.items) ∙ length-append _ _
