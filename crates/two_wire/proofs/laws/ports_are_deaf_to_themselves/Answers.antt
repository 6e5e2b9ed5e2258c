use Rattle.two_wire.proofs.Sharing.{hears-echo, hears-deaf, hears-other, hears-own, hears-between}
use Rattle.two_wire.proofs.laws.ports_are_deaf_to_themselves.Goals as goal

pub returns-clause-echo : goal.returns-clause-echo
returns-clause-echo c = λ own wires. hears-echo own wires

pub returns-clause-deaf : goal.returns-clause-deaf
returns-clause-deaf c = λ own wires same. hears-deaf own wires same

pub returns-clause-other : goal.returns-clause-other
returns-clause-other c = λ own other apart. hears-other own other apart

pub returns-clause-own : goal.returns-clause-own
returns-clause-own c = λ own other apart. hears-own own other apart

pub returns-clause-between : goal.returns-clause-between
returns-clause-between c = λ own device others apart two. hears-between own device others apart two
