-- What is given to each of both ways of a live line.
use Rattle.std.specs.Prelude.{ℕ}
use Rattle.live_line.specs.declared.ways.Way.{Way}
use Rattle.live_line.specs.declared.ways.Way.TheVariants.{Outgoing, Incoming}
use Rattle.live_ways.specs.declared.rests.Rests.{Rests}

-- what is given to the ways of a line by these two
abbrev pub by_way : {A : Type 0} → A → A → Way → A
by_way outgoing incoming Outgoing = outgoing
by_way outgoing incoming Incoming = incoming

-- how many silent ticks follow the whole text of a way
abbrev pub rest_on : Rests → Way → ℕ
rest_on rests = by_way rests.outgoing rests.incoming
