use Rattle.std.proofs.Common.{refl}
use Rattle.link_replay.proofs.program.answer.Goals as goal

pub returns-in-None-clause-does : goal.returns-in-None-clause-does
returns-in-None-clause-does g c = rw c.in-None.is (record {
  does = (refl, refl);
  second = refl;
  way = refl;
})

pub returns-in-None-clause-any_moment : goal.returns-in-None-clause-any_moment
returns-in-None-clause-any_moment g c = rw c.in-None.is (refl, refl)

pub returns-in-None-clause-done : goal.returns-in-None-clause-done
returns-in-None-clause-done g c = rw c.in-None.is (λ may calm. absurd may)

pub returns-in-Some-clause-does : goal.returns-in-Some-clause-does
returns-in-Some-clause-does g c = rw c.in-Some.is c.answer_command.ensures.does

pub returns-in-Some-clause-any_moment : goal.returns-in-Some-clause-any_moment
returns-in-Some-clause-any_moment g c = rw c.in-Some.is c.answer_command.ensures.any_moment

pub returns-in-Some-clause-causes : goal.returns-in-Some-clause-causes
returns-in-Some-clause-causes g c = rw c.in-Some.is c.answer_command.ensures.causes

pub returns-in-Some-clause-done : goal.returns-in-Some-clause-done
returns-in-Some-clause-done g c = rw c.in-Some.is c.answer_command.ensures.done
