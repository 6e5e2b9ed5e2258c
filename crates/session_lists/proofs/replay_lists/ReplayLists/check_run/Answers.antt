use Rattle.frame_ending.specs.Answered.{answered}
use Rattle.session_lists.{proofs.Runs.keeps-run, specs.ReplayLists.Listens}
use Rattle.std.proofs.Common.{◌≡◌, ◌∙◌, ◌++◌, ap, sym, subst, arith, length, take}
use Rattle.{std.proofs.lemmas.List.length-take-le, yasir_ticks.specs.TickRun.run_ticks}
use Rattle.session_lists.proofs.replay_lists.ReplayLists.check_run.Goals as goal

pub hear_answered-requires : goal.hear_answered-requires
hear_answered-requires g c =
    omega (arith, c.requires.room, c.requires.ready.taken, c.pass_run-count.ensures.within)

pub returns-in-Ok-clause-ready : goal.returns-in-Ok-clause-ready
returns-in-Ok-clause-ready g c = record {
  sealer = c.requires.ready.sealer;
  checker = c.pass_run-count.ensures.able;
  taken = omega (
    arith,
    c.requires.ready.taken,
    c.pass_run-count.ensures.taken,
    c.in-Ok.ensures.taken,
  );
}

pub returns-in-Ok-clause-ok : goal.returns-in-Ok-clause-ok
returns-in-Ok-clause-ok g c = λ setup link checks.
    let count = c.pass_run-count.result in
    let answers = c.pass_run-count.ensures.answers setup link checks.passes.steps in
    let size : length (take count (run_ticks c.args.run)) ≡ count =
    length-take-le count (run_ticks c.args.run) c.pass_run-count.ensures.within in
    let long : length (answered count c.as_slice.result.now) ≡ count =
    ap (λ l. length (answered count l)) c.as_slice.ensures.value ∙ (answers.long ∙ size) in
    let other = (g.C.FrameBox.numbering setup).other_line in
    record {
      passes = keeps-run g.C.FrameBox c.args.self.now.checker c.pass_run-count.new.line_box
          c.args.self.now.passed setup link _ _ checks.passes
          (c.pass_run-count.ensures.stands setup link checks.passes.steps) answers;
      reads = subst (Listens g.V.Device c.hear_answered.new.device c.hear_answered.new.frames)
          (ap (λ l. other link ++ answered count l) c.as_slice.ensures.value
          ∙ sym answers.ticks)
          (c.in-Ok.ensures.ok (other link) long checks.reads);
    }
