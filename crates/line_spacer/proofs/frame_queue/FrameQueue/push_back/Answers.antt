use Rattle.std.proofs.Common.{◌∙◌, ◌<◌, ◌++◌, [], ◌∷◌, length, sym, ap, subst, arith}
use Rattle.line_spacer.specs.FrameQueue.{cut_by, AreFrames}
use Rattle.line_spacer.proofs.CutBytes.{count-cut, frames-more, cut-more, filled, kept}
use Rattle.line_spacer.proofs.frame_queue.FrameQueue.push_back.Goals as goal

pub invariant_of-self : goal.invariant_of-self
invariant_of-self c =
    let lengths = c.self.inside.lengths in
    let bytes = c.self.inside.bytes in
    let frame = c.args.frame.now in
    let count = count-cut lengths.items bytes.items in
    let same = ap (λ q. length q.frames) c.self.view_is in
    let cap = ap (λ q. q.capacity) c.self.view_is in
    let few : length lengths.items < lengths.capacity =
    omega (arith, count, same, cap, c.requires.room) in
    let new = filled lengths.capacity bytes.capacity lengths.items bytes.items frame
    c.self.invariant few c.requires.few c.fill_from_slice-length.result
    c.fill_from_slice-length.ensures.count in
    let into = ap (λ q. q.items) c.fill_from_slice-length.ensures.items ∙ new.1 in
    let onto = ap (λ q. q.items) c.push_back.ensures.items
    ∙ kept lengths.capacity lengths.items frame few c.fill_from_slice-length.result new.0 in
    subst (λ r. AreFrames c.push_back.new.self.capacity r c.push_back.new.self.items
    c.fill_from_slice-length.new.self.items)
    (sym (ap (λ q. q.capacity) c.fill_from_slice-length.ensures.items))
    (subst (λ n. AreFrames n bytes.capacity c.push_back.new.self.items
    c.fill_from_slice-length.new.self.items)
    (sym (ap (λ q. q.capacity) c.push_back.ensures.items))
    (subst (λ x. AreFrames lengths.capacity bytes.capacity x
    c.fill_from_slice-length.new.self.items) (sym onto)
    (subst (λ x. AreFrames lengths.capacity bytes.capacity (lengths.items ++ length frame ∷ []) x)
    (sym into)
    (frames-more lengths.capacity bytes.capacity lengths.items bytes.items frame c.self.invariant
    c.requires.few))))

pub returns-clause-frames : goal.returns-clause-frames
returns-clause-frames c =
    let lengths = c.self.inside.lengths in
    let bytes = c.self.inside.bytes in
    let frame = c.args.frame.now in
    let count = count-cut lengths.items bytes.items in
    let same = ap (λ q. length q.frames) c.self.view_is in
    let cap = ap (λ q. q.capacity) c.self.view_is in
    let few : length lengths.items < lengths.capacity =
    omega (arith, count, same, cap, c.requires.room) in
    let new = filled lengths.capacity bytes.capacity lengths.items bytes.items frame
    c.self.invariant few c.requires.few c.fill_from_slice-length.result
    c.fill_from_slice-length.ensures.count in
    let into = ap (λ q. q.items) c.fill_from_slice-length.ensures.items ∙ new.1 in
    let onto = ap (λ q. q.items) c.push_back.ensures.items
    ∙ kept lengths.capacity lengths.items frame few c.fill_from_slice-length.result new.0 in
    ap (λ x. cut_by x c.fill_from_slice-length.new.self.items) onto
    ∙ (ap (λ x. cut_by (lengths.items ++ length frame ∷ []) x) into
    ∙ (cut-more lengths.items bytes.items frame c.self.invariant.are
    ∙ ap (λ q. q.frames ++ frame ∷ []) c.self.view_is))
