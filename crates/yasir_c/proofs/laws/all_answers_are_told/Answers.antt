use Rattle.any_box.proofs.OfKinds.{as-long, none-noted}
use Rattle.yasir_c.proofs.Telling.{tells-none, tells-answer, tells-less, tells-withheld}
use Rattle.yasir_c.proofs.Telling.{tells-no-more, tells-run}
use Rattle.yasir_c.proofs.laws.all_answers_are_told.Goals as goal

pub returns-clause-begins : goal.returns-clause-begins
returns-clause-begins c = tells-none _ as-long none-noted

pub returns-clause-answers : goal.returns-clause-answers
returns-clause-answers c = tells-answer _ as-long none-noted

pub returns-clause-withholds : goal.returns-clause-withholds
returns-clause-withholds c = tells-less _ as-long none-noted

pub returns-clause-hands : goal.returns-clause-hands
returns-clause-hands c = tells-withheld _ as-long none-noted

pub returns-clause-stops : goal.returns-clause-stops
returns-clause-stops c = tells-no-more _ as-long none-noted

pub returns-clause-runs : goal.returns-clause-runs
returns-clause-runs c = tells-run _ as-long none-noted
