use Rattle.std.proofs.Common.{◌∙◌, ap, arith, length, sym}
use Rattle.std.proofs.lemmas.List.{take_all}
use Rattle.session_audit.proofs.shown_frames.ShownFramesFrameBox.bytes.Goals as goal

pub returns-clause-bytes : goal.returns-clause-bytes
returns-clause-bytes g c =
    let long = ap length c.bytes-kept.ensures.kept in
    c.bytes-kept.ensures.kept
    ∙ sym (take_all c.args.self.now.live c.args.self.now.burst.bytes.items (omega arith))
