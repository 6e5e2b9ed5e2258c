-- What the lists hold.
use Rattle.std.specs.Prelude.{◌≡◌, ℕ, ◌+◌, List, [], ◌∷◌, ◌++◌}
use Rattle.yasir_ticks.specs.Ticks.{Item, marks_in}
use Rattle.yasir_ticks.specs.declared.tick.Tick.{Tick}
use Rattle.session_lists.specs.Parts.{part}
use Rattle.session_lists.specs.ListPlaces.{place_after}
use Rattle.session_lists.specs.declared.tick_lists.Place.{Place}
use Rattle.session_lists.specs.declared.tick_lists.Place.TheVariants as place
use Rattle.session_lists.specs.declared.tick_lists.TickLists.{TickLists}

-- the ticks of the first list
abbrev pub ticks_first : TickLists → List Tick
ticks_first lists = lists.first.items

-- the ticks of the second list
abbrev pub ticks_second : TickLists → List Tick
ticks_second lists = lists.second.items

-- the ticks of the third list
abbrev pub ticks_third : TickLists → List Tick
ticks_third lists = lists.third.items

-- how many ticks were taken, of all recordings together
abbrev pub ticks_listed : TickLists → ℕ
ticks_listed lists = lists.taken

-- Holds if these items were taken: each list holds the ticks of its part.
pub record HoldsParts (lists : TickLists) (items : List Item) : Type 0 where
  pub first_is : ticks_first lists ≡ part 0 items
  pub second_is : ticks_second lists ≡ part 1 items
  pub third_is : ticks_third lists ≡ part 2 items
  pub place_is : lists.place ≡ place_after (marks_in items)

-- the first list after a tick: with that tick at its end if the tick belongs to it
abbrev pub with_first_tick : Place → Tick → List Tick → List Tick
with_first_tick place.First t list = list ++ t ∷ []
with_first_tick place.Second t list = list
with_first_tick place.Third t list = list
with_first_tick place.None t list = list

-- the second list after a tick: with that tick at its end if the tick belongs to it
abbrev pub with_second : Place → Tick → List Tick → List Tick
with_second place.First t list = list
with_second place.Second t list = list ++ t ∷ []
with_second place.Third t list = list
with_second place.None t list = list

-- the third list after a tick: with that tick at its end if the tick belongs to it
abbrev pub with_third : Place → Tick → List Tick → List Tick
with_third place.First t list = list
with_third place.Second t list = list
with_third place.Third t list = list ++ t ∷ []
with_third place.None t list = list

-- Holds if a tick was added to the list that it belongs to, if any, and was counted.
pub record TakesTick (old new : TickLists) (t : Tick) : Type 0 where
  pub first_is : ticks_first new ≡ with_first_tick old.place t (ticks_first old)
  pub second_is : ticks_second new ≡ with_second old.place t (ticks_second old)
  pub third_is : ticks_third new ≡ with_third old.place t (ticks_third old)
  pub place_is : new.place ≡ old.place
  pub counted : ticks_listed new ≡ ticks_listed old + 1
