use Rattle.session_lists.specs.Expected.{AreLater, ExpectsFrom}
use Rattle.session_lists.specs.FrameBox.{kept_frames, kept_numbered}
use Rattle.session_lists.specs.FrameList.{Holds}
use Rattle.session_lists.specs.Lateness.{read_later}
use Rattle.session_lists.specs.ReplayLists.{kept_read, kept_reads}
use Rattle.std.proofs.Common.{◌∙◌, ap, length, subst, sym}
use Rattle.std.proofs.lemmas.List.{length-map}
use Rattle.session_lists.proofs.expected.Expected.len.Goals as goal

pub returns-in-Passed : goal.returns-in-Passed
returns-in-Passed c = λ frames expects.
    let later : AreLater c.args.self.late.late c.in-Passed.list.now frames =
    subst (λ o. ExpectsFrom o c.args.self.late.late frames) c.in-Passed.is expects in
    c.len.ensures.frames (kept_frames later.passed_ones) later.holds
    ∙ length-map later.passed_ones kept_numbered
    ∙ sym (ap length later.are ∙ length-map later.passed_ones (read_later c.args.self.late.late))

pub returns-in-Spaced : goal.returns-in-Spaced
returns-in-Spaced c = λ frames expects.
    let holds : Holds c.in-Spaced.list.now (kept_reads frames) =
    subst (λ o. ExpectsFrom o c.args.self.late.late frames) c.in-Spaced.is expects in
    c.len-in-Spaced.ensures.frames (kept_reads frames) holds ∙ length-map frames kept_read
