use Rattle.check_receiver.proofs.{Dropping.drop-silent, Heads.head-is-short, Heads.head-isn't-short}
use Rattle.check_receiver.proofs.Machine.{waiting-some}
use Rattle.check_receiver.proofs.Silences.{open-silent, waits-long, waits-last}
use Rattle.check_receiver.specs.{Between.IsNoPass, Stands.checker_direction}
use Rattle.frame_ending.specs.{LiveBytes.live_bytes, LiveBytes.live_end, SoFar.live_bytes_in}
use Rattle.line_rules.specs.{Rules.head_of, declared.head.Head.TheVariants.Short}
use Rattle.link_box.specs.declared.check_note.CheckNote.{CheckNote}
use Rattle.std.proofs.Common.{◌≡◌}
use Rattle.std.proofs.Common.{◌∙◌, ◌+◌, ◌<◌, ⊎_elim, sym, ap, subst, arith, length, Option, [], ◌∷◌}
use Rattle.{std.proofs.Common.◌++◌, yasir_ticks.specs.declared.tick.Tick.TheVariants.Silent}
use Rattle.check_receiver.proofs.checker.Checker.pause.Goals as goal

pub returns-in-Short-clause-step : goal.returns-in-Short-clause-step
returns-in-Short-clause-step g c = λ last setup line cut silence waits until between.
    let d = waiting-some between.walks.waiting (sym between.walks.waits_is ∙ waits) in
    let long = waits-long g.R.LineRules g.M.Mac c.args.self.now last setup line cut between d.0
    d.1 in
    let one = between.one_less in
    let is = between.walks.until_is in
    let second : length line ≡ live_end g.R.LineRules.rules d.0 + 1 = omega arith in
    let whose = waits-last g.R.LineRules g.M.Mac c.args.self.now last setup line cut between d.0
    d.1 in
    let head : head_of g.R.LineRules.rules (live_bytes g.R.LineRules.rules d.0) ≡ Short =
    sym (ap (λ o. head_of g.R.LineRules.rules (live_bytes_in g.R.LineRules.rules o)) whose)
    ∙ (sym (c.head.ensures (line ++ Silent ∷ []) between.cuts) ∙ c.in-Short.is) in
    drop-silent g.R.LineRules g.M.Mac c.args.self.now last setup line cut between
    c.drop_headless.new.self c.drop_headless.result c.drop_headless.ensures.turned
    (c.drop_headless.ensures.told (line ++ Silent ∷ []) between.cuts) d.0 d.1 second
    (head-is-short g.R.LineRules.rules (live_bytes g.R.LineRules.rules d.0) head)

pub returns-in-Bad : goal.returns-in-Bad
returns-in-Bad g c = record {
  cut = ap (λ v. v.cut) c.pass_by.ensures.turned.others;
  direction = ap checker_direction c.pass_by.ensures.turned.others;
  note =
      let P : Option CheckNote → Type 0 = λ n. IsNoPass n in
      subst P (sym c.pass_by.ensures.note) tt;
  step = λ last setup line cut silence waits until between.
      let d = waiting-some between.walks.waiting (sym between.walks.waits_is ∙ waits) in
      let long = waits-long g.R.LineRules g.M.Mac c.args.self.now last setup line cut between d.0
      d.1 in
      let one = between.one_less in
      let is = between.walks.until_is in
      let few : length line < live_end g.R.LineRules.rules d.0 + 3 = omega arith in
      let whose = waits-last g.R.LineRules g.M.Mac c.args.self.now last setup line cut between d.0
      d.1 in
      let head = c.head.ensures (line ++ Silent ∷ []) between.cuts
      ∙ ap (λ o. head_of g.R.LineRules.rules (live_bytes_in g.R.LineRules.rules o)) whose in
      open-silent g.R.LineRules g.M.Mac c.args.self.now last setup line cut between
      c.pass_by.new.self c.pass_by.result c.pass_by.ensures.turned c.pass_by.ensures.note d.0 d.1
      few
      (λ from. head-isn't-short g.R.LineRules.rules (live_bytes g.R.LineRules.rules d.0)
      (λ short. let which = c.in-Bad.is in
      ⊎_elim (λ bad. absurd cc) (λ good. absurd cc) which))
      waits;
}
