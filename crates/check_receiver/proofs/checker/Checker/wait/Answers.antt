use Rattle.check_receiver.proofs.{Machine.waiting-some, Resting.rest-taken}
use Rattle.check_receiver.proofs.Silences.{refuse-silent, open-silent, waits-long, waits-header}
use Rattle.frame_ending.specs.LiveBytes.{live_end}
use Rattle.std.proofs.Common.{◌∙◌, ◌+◌, ◌≤◌, ◌<◌, sym, arith, length, [], ◌∷◌, ◌++◌}
use Rattle.yasir_ticks.specs.declared.tick.Tick.TheVariants.{Silent}
use Rattle.check_receiver.proofs.checker.Checker.wait.Goals as goal

pub returns-then-not-is_open-clause-step : goal.returns-then-not-is_open-clause-step
returns-then-not-is_open-clause-step g c = λ last setup line cut silence between.
    let closed = sym c.is_open.ensures ∙ c.if-not-is_open.true in
    rest-taken g.R.LineRules g.M.Mac c.args.self.now last setup line Silent cut between
    c.pass_by.new.self c.pass_by.result c.pass_by.ensures.turned c.pass_by.ensures.note tt
    closed

pub returns-then-from-clause-step : goal.returns-then-from-clause-step
returns-then-from-clause-step g c = λ last setup line cut silence between.
    let opens = sym c.is_open.ensures ∙ c.if-not-is_open.false in
    let waits = waiting-some between.walks.waiting
    (sym between.walks.waits_is ∙ opens) in
    let long = waits-long g.R.LineRules g.M.Mac c.args.self.now last setup line cut between waits.0
    waits.1 in
    let until = c.from.ensures in
    let few = c.if-from.true in
    let one = between.one_less in
    let is = between.walks.until_is in
    let behind : live_end g.R.LineRules.rules waits.0 + 3 ≤ length line = omega arith in
    refuse-silent g.R.LineRules g.M.Mac c.args.self.now last setup line cut between
    c.refuse.new.self c.refuse.result c.refuse.ensures.turned
    (c.refuse.ensures.earliest (line ++ Silent ∷ []) between.cuts)
    (c.refuse.ensures.told (line ++ Silent ∷ []) between.cuts) waits.0 waits.1 behind

pub returns-then-from-2-clause-step : goal.returns-then-from-2-clause-step
returns-then-from-2-clause-step g c = λ last setup line cut silence between.
    let opens = sym c.is_open.ensures ∙ c.if-not-is_open.false in
    let same = c.from-2.ensures in
    let second = c.if-from-2.true in
    c.pause.ensures.step last setup line cut silence opens (omega arith) between

pub returns-clause-step : goal.returns-clause-step
returns-clause-step g c = λ last setup line cut silence between.
    let opens = sym c.is_open.ensures ∙ c.if-not-is_open.false in
    let d = waiting-some between.walks.waiting
    (sym between.walks.waits_is ∙ opens) in
    let long = waits-long g.R.LineRules g.M.Mac c.args.self.now last setup line cut between d.0
    d.1 in
    let one = between.one_less in
    let is = between.walks.until_is in
    let first = c.from.ensures in
    let second = c.from-2.ensures in
    let pause = c.if-from.false in
    let other = c.if-from-2.false in
    let few : length line < live_end g.R.LineRules.rules d.0 + 3 = omega arith in
    open-silent g.R.LineRules g.M.Mac c.args.self.now last setup line cut between
    c.pass_by-2.new.self c.pass_by-2.result c.pass_by-2.ensures.turned c.pass_by-2.ensures.note
    d.0 d.1 few
    (λ from. waits-header g.R.LineRules g.M.Mac c.args.self.now last setup line cut between d.0 d.1
    (omega arith))
    opens
