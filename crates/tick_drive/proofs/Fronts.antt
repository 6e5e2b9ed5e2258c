-- A consumer that takes the first ticks of a run at once if it can, and otherwise one tick.
use Rattle.std.proofs.Common.{◌≡◌, ℕ, ◌≤◌, ◌<◌, List, [], ◌∷◌, length, take, Result, Ok, Err}
use Rattle.std.proofs.Common.{ap, sym, arith}
use Rattle.tick_drive.proofs.Moving.{gives_items, gives_front, gives_then}
use Rattle.tick_drive.specs.Consumers.{Consuming, AreJoined, MayTake, Gives, GivesFirst, GivesUpTo}
use Rattle.tick_drive.specs.{Consumers.GivesFront, declared.consumer.Stop.Stop}
use Rattle.yasir_ticks.specs.Ticks.{Item}

module _ {C : Type 0} (meaning : Consuming C) where
  pub none_given : (c0 c1 : C) (items : List Item) (n : ℕ) → n ≤ 0
      → GivesUpTo meaning c0 c1 items n → Gives meaning c0 c1 [] (Ok tt)
  none_given c0 c1 items n few given =
      let is : n ≡ 0 = omega arith in
      gives_items meaning c0 c1 (take n items) [] (Ok tt) (ap (λ k. take k items) is) given.gives

  pub some_given : (c0 c1 : C) (items : List Item) (n : ℕ) → 0 < n
      → GivesUpTo meaning c0 c1 items n → GivesFirst meaning c0 c1 items n
  some_given c0 c1 items n some given =
      record { some = some; within = given.within; gives = given.gives }

  -- A consumer that was given nothing may still take the items.
  pub still_may : (c0 c1 : C) (items : List Item) → MayTake meaning c0 items
      → Gives meaning c0 c1 [] (Ok tt) → MayTake meaning c1 items
  still_may c0 c1 items may none =
      record { room = omega (arith, may.room, none.counted); able = none.is_able }

module _ {C : Type 0} (meaning : Consuming C) (joins : AreJoined meaning) (c0 c1 c2 : C)
    (items : List Item) (none : Gives meaning c0 c1 [] (Ok tt)) where
  -- If a consumer was given nothing, and then some of the items, it was given these.
  pub front_then : (result : Result ℕ Stop) → GivesFront meaning c1 c2 items result
      → GivesFront meaning c0 c2 items result
  front_then (Ok n) then = record {
    within = then.within;
    gives = gives_then meaning joins c0 c1 c2 [] (take n items) (Ok tt) none then.gives;
  }
  front_then (Err stop) then = gives_then meaning joins c0 c1 c2 [] items (Err stop) none then

  -- what was given if a consumer was given nothing, and then the first item by itself
  module _ (item : Item) (rest : List Item) (is : items ≡ item ∷ rest) where
    pub one_given : Gives meaning c1 c2 (item ∷ []) (Ok tt) → GivesFirst meaning c0 c2 items 1
    one_given then = record {
      some = omega arith;
      within = omega (arith, ap length is);
      gives = gives_items meaning c0 c2 (item ∷ []) (take 1 items) (Ok tt)
          (sym (ap (λ l. take 1 l) is))
          (gives_then meaning joins c0 c1 c2 [] (item ∷ []) (Ok tt) none then);
    }

    pub one_stopped : (stop : Stop) → Gives meaning c1 c2 (item ∷ []) (Err stop)
        → Gives meaning c0 c2 items (Err stop)
    one_stopped stop then = gives_items meaning c0 c2 (item ∷ rest) items (Err stop) (sym is)
        (gives_front meaning c0 c2 (item ∷ []) rest stop
        (gives_then meaning joins c0 c1 c2 [] (item ∷ []) (Err stop) none then))
