use Rattle.two_wire.proofs.Letting.{asks-again, answers-again}
use Rattle.two_wire.proofs.laws.gates_recover.Goals as goal

pub returns-clause-asks : goal.returns-clause-asks
returns-clause-asks c = λ waits g k ticks others rested never covered enough same turns.
    asks-again waits g k ticks others rested never covered enough same turns

pub returns-clause-answers : goal.returns-clause-answers
returns-clause-answers c = λ waits g b ticks others rested same turns.
    answers-again waits g b ticks others rested same turns
