use Rattle.{std.proofs.Common.ap, vectors.proofs.Answered.is_answer}
use Rattle.vectors.specs.Cases.{case_answer_at, answer}
use Rattle.vectors.proofs.table.run_table.Goals as goal

pub returns-in-None-clause-first : goal.returns-in-None-clause-first
unfolding answer
returns-in-None-clause-first c = is_answer c.args.cases.now _ (ap case_answer_at c.in-None.ensures.value)

pub returns-in-Some-clause-first : goal.returns-in-Some-clause-first
unfolding answer
returns-in-Some-clause-first c = is_answer c.args.cases.now _ (ap case_answer_at c.in-Some.ensures.value)
