-- Which list the next tick belongs to.
use Rattle.std.specs.Prelude.{ℕ, zero, suc}
use Rattle.session_lists.specs.declared.tick_lists.Place.{Place}
use Rattle.session_lists.specs.declared.tick_lists.Place.TheVariants as place

-- the place after one more mark
abbrev pub place_behind : Place → Place
place_behind place.First = place.Second
place_behind place.Second = place.Third
place_behind place.Third = place.None
place_behind place.None = place.None

-- the place after `n` marks
abbrev pub place_after : ℕ → Place
place_after zero = place.First
place_after (suc n) = place_behind (place_after n)
