use Rattle.link_replay.proofs.Asking.{asks-one}
use Rattle.link_replay.proofs.OverTwo.{causes_after_two, sinks_in_two, calm_before_two}
use Rattle.link_replay.proofs.UsageTexts.{no_text}
use Rattle.link_replay.specs.Commands.{FlushesAfter}
use Rattle.link_replay.specs.TwoDisks.{DoesOverTwo, FlushesLog, RunsSo, KeepsDisks, HasCausesOverTwo}
use Rattle.link_replay.specs.TwoDisks.{MayDoOverTwo, EndsWellOverTwo, disk_of}
use Rattle.link_replay.specs.UsageLines.{fault_text}
use Rattle.{link_replay.specs.Words.Asks, command_ends.proofs.Running.runs_of}
use Rattle.command_ends.specs.{Outside.outside, Reasons.told_by, Programs.EndsLog}
use Rattle.link_replay.specs.OverFiles.{outside_of}
use Rattle.std.proofs.Common.{◌≡◌, ◌∙◌, ap, subst, sym}
use Rattle.std.specs.{Prelude.map, String.string_bytes}
use Rattle.link_replay.proofs.program.run.Given.{Over}
use Rattle.link_replay.proofs.program.run.Goals as goal

-- What is written last to the log is the text of the words, the reasons and the status.
text_is : (g : Over) (c : goal.After-log_fault g) → c.as_slice.result.now
    ≡ fault_text (map string_bytes c.args.words.now)
    (told_by g.K.TellsReason.told_reason g.S.TellsReason.told_reason g.D.TellsReason.told_reason
    c.answer-ended.new.key c.answer-ended.new.streams.input
    (disk_of c.answer-ended.result.way c.answer-ended.new.disks)) c.answer-ended.result
text_is g c = c.as_slice.ensures.value ∙ c.fault_text-text.ensures
    ∙ ap (λ told. fault_text (map string_bytes c.args.words.now) told c.answer-ended.result)
    c.reasons_of-reasons.ensures

pub returns-clause-usage : goal.returns-clause-usage
returns-clause-usage g c = (
  λ is. subst (Asks (map string_bytes c.args.words.now)) (c.answer-ended.ensures.usage.0 is)
      c.asked_by-asked.ensures.asks,
  λ none. c.answer-ended.ensures.usage.1 (asks-one _ _ _ c.asked_by-asked.ensures.asks none),
)

pub returns-clause-runs : goal.returns-clause-runs
returns-clause-runs g c = λ asked asks.
    let same = asks-one _ _ _ c.asked_by-asked.ensures.asks asks in
    let before = outside_of c.args.key.now c.args.streams.now c.args.disks.now in
    let ends = c.answer-ended.new.streams in
    let after = outside c.answer-ended.new.key ends.input ends.out c.log_fault.new.log
    c.answer-ended.new.disks in
    let words = map string_bytes c.args.words.now in
    let reasons = told_by g.K.TellsReason.told_reason g.S.TellsReason.told_reason
    g.D.TellsReason.told_reason c.answer-ended.new.key ends.input
    (disk_of c.answer-ended.result.way c.answer-ended.new.disks) in
    let line = fault_text words reasons in
    let does = DoesOverTwo g.K.Source g.S.Source g.O.Sink g.L.Sink g.D.SlotDisk in
    let logged : EndsLog g.L.Sink ends.log c.log_fault.new.log (line c.answer-ended.result) =
    subst (EndsLog g.L.Sink ends.log c.log_fault.new.log) (text_is g c) c.log_fault.ensures.ends in
    let flushed : FlushesAfter g.L.Sink c.asked_by-asked.result ends.log c.log_fault.new.log
    (line c.answer-ended.result) =
    subst (FlushesAfter g.L.Sink c.asked_by-asked.result ends.log c.log_fault.new.log)
    (text_is g c) c.log_fault.ensures.flushes in
    subst (λ a. RunsSo g.K.Source g.S.Source g.O.Sink g.L.Sink g.D.SlotDisk line a before after
    c.answer-ended.result) same
    (runs_of g.L.Sink line does (FlushesLog g.L.Sink line) c.asked_by-asked.result before after
    ends.log c.answer-ended.result _ _ c.answer-ended.result.status
    (no_text words reasons c.answer-ended.result) c.answer-ended.ensures.does
    (sinks_in_two g.K.Source g.S.Source g.O.Sink g.L.Sink g.D.SlotDisk c.asked_by-asked.result
    before (outside_of c.answer-ended.new.key ends c.answer-ended.new.disks)
    c.answer-ended.result c.answer-ended.ensures.causes) logged flushed)

pub returns-clause-any_moment : goal.returns-clause-any_moment
returns-clause-any_moment g c = λ asked asks.
    subst (λ a. KeepsDisks g.D.SlotDisk a c.args.disks.now c.answer-ended.new.disks)
    (asks-one _ _ _ c.asked_by-asked.ensures.asks asks) c.answer-ended.ensures.any_moment

pub returns-clause-causes : goal.returns-clause-causes
returns-clause-causes g c = λ asked asks.
    let same = asks-one _ _ _ c.asked_by-asked.ensures.asks asks in
    let before = outside_of c.args.key.now c.args.streams.now c.args.disks.now in
    let ends = c.answer-ended.new.streams in
    let after = outside c.answer-ended.new.key ends.input ends.out c.log_fault.new.log
    c.answer-ended.new.disks in
    subst (λ a. HasCausesOverTwo g.K.Source g.S.Source g.O.Sink g.L.Sink g.D.SlotDisk a before after
    c.answer-ended.result) same
    (causes_after_two g.K.Source g.S.Source g.O.Sink g.L.Sink g.D.SlotDisk c.asked_by-asked.result
    before after ends.log c.answer-ended.result c.as_slice.result.now
    (λ none. text_is g c ∙ no_text (map string_bytes c.args.words.now)
    (told_by g.K.TellsReason.told_reason g.S.TellsReason.told_reason g.D.TellsReason.told_reason
    c.answer-ended.new.key ends.input
    (disk_of c.answer-ended.result.way c.answer-ended.new.disks)) c.answer-ended.result none)
    c.answer-ended.ensures.causes c.log_fault.ensures.ends c.log_fault.ensures.flushes)

pub returns-clause-done : goal.returns-clause-done
returns-clause-done g c = λ asked asks may calm.
    let same = asks-one _ _ _ c.asked_by-asked.ensures.asks asks in
    let before = outside_of c.args.key.now c.args.streams.now c.args.disks.now in
    let ends = c.answer-ended.new.streams in
    let after = outside c.answer-ended.new.key ends.input ends.out c.log_fault.new.log
    c.answer-ended.new.disks in
    let right = subst (λ a. MayDoOverTwo g.K.Source g.S.Source g.O.Sink g.L.Sink g.D.SlotDisk a
    before) (sym same) may in
    subst (λ a. EndsWellOverTwo g.K.Source g.S.Source g.O.Sink g.L.Sink g.D.SlotDisk a before
    c.answer-ended.result) same
    (c.answer-ended.ensures.done right
    (calm_before_two g.K.Source g.S.Source g.O.Sink g.L.Sink g.D.SlotDisk before after ends.log
    c.log_fault.ensures.ends.never_falls calm))
