use Rattle.device_model.proofs.RtuFamilyLaws.{ended-frame, ended-none}
use Rattle.rtu_frame.{proofs.FrameLaws.is_frame_lem, specs.Frame.is_frame}
use Rattle.std.proofs.Common.{sym, ap, ◌∙◌}
use Rattle.device_model.proofs.rtu_family.RtuFamily.close.Goals as goal

pub returns-then-not-is_frame : goal.returns-then-not-is_frame
returns-then-not-is_frame c =
    ended-none c.args.self.now.broken c.args.self.now.start c.args.self.now.bytes.items
    (ap is_frame (sym c.as_slice.ensures.value)
    ∙ (sym (is_frame_lem c.as_slice.result.now c.is_frame.result c.is_frame.ensures)
    ∙ c.if-not-is_frame.true))

pub returns : goal.returns
returns c =
    ended-frame c.args.self.now.broken c.args.self.now.start c.args.self.now.bytes.items
    c.if-self.false
    (ap is_frame (sym c.as_slice.ensures.value)
    ∙ (sym (is_frame_lem c.as_slice.result.now c.is_frame.result c.is_frame.ensures)
    ∙ c.if-not-is_frame.false))
