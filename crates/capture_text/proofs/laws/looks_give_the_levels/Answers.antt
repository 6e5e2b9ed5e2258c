use Rattle.capture_text.proofs.LookLaws.{looked_a, looked_b}
use Rattle.capture_text.proofs.laws.looks_give_the_levels.Goals as goal

pub returns-clause-way_a : goal.returns-clause-way_a
returns-clause-way_a c = λ rate a b tick bit time within small looks.
    looked_a rate a b tick bit time small looks within

pub returns-clause-way_b : goal.returns-clause-way_b
returns-clause-way_b c = λ rate a b tick bit time within small looks.
    looked_b rate a b tick bit time small looks within
