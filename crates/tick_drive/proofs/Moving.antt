-- What calls do to a consumer, one after the other.
use Rattle.std.proofs.Common.{◌≡◌, ℕ, ◌+◌, List, [], ◌∷◌, ◌++◌, length, length-append, take, drop}
use Rattle.std.proofs.Common.{append-nil, Result, Ok, Err, subst, sym, ap, refl, append_assoc}
use Rattle.std.proofs.{Common.arith, Common.◌∙◌, Math.Seq.take-append-add}
use Rattle.std.proofs.lemmas.List.{take-append-le, take-append-drop}
use Rattle.tick_drive.proofs.ItemLaws.{ticks_with}
use Rattle.tick_drive.specs.Consumers.{Consuming, IsNoneDone, AreJoined, MayTake, Moves, ConsumerStops}
use Rattle.tick_drive.specs.{Consumers.Gives, Consumers.GivesFirst, declared.consumer.Stop.Stop}
use Rattle.yasir_ticks.specs.Ticks.{Item, ticks_in, Item.mark}

module _ {C : Type 0} (meaning : Consuming C) where
  moves_then : (c0 c1 c2 : C) (a b : List Item) → Moves meaning c0 c1 a → Moves meaning c1 c2 b
      → Moves meaning c0 c2 (a ++ b)
  moves_then c0 c1 c2 a b first second = λ origin items stands.
      subst (meaning.stands c2 origin) (append_assoc items a b)
      (second origin (items ++ a) (first origin items stands))

  stops_then : (c0 c1 c2 : C) (a b : List Item) (stop : Stop) → Moves meaning c0 c1 a
      → ConsumerStops meaning c1 c2 b stop → ConsumerStops meaning c0 c2 (a ++ b) stop
  stops_then c0 c1 c2 a b stop first second =
      let sum : length a + second.place + 1 ≡ length a + (second.place + 1) = omega arith in
      let front : take (length a + second.place + 1) (a ++ b) ≡ a ++ take (second.place + 1) b =
      ap (λ n. take n (a ++ b)) sum ∙ take-append-add a b (second.place + 1) in record {
        place = length a + second.place;
        within = omega (arith, length-append a b, second.within);
        at = λ origin items stands. subst (meaning.stopped c2 stop origin)
            (append_assoc items a (take (second.place + 1) b) ∙ ap (λ l. items ++ l) (sym front))
            (second.at origin (items ++ a) (first origin items stands));
      }

  -- Where a consumer stopped among some items doesn't depend on the items that follow.
  stops_before : (c0 c1 : C) (a rest : List Item) (stop : Stop) → ConsumerStops meaning c0 c1 a stop
      → ConsumerStops meaning c0 c1 (a ++ rest) stop
  stops_before c0 c1 a rest stop stops = record {
    place = stops.place;
    within = omega (arith, length-append a rest, stops.within);
    at = λ origin items stands. subst (λ front. meaning.stopped c1 stop origin (items ++ front))
        (sym (take-append-le (stops.place + 1) a rest (omega (arith, stops.within))))
        (stops.at origin items stands);
  }

  -- Giving no item to a consumer leaves it as it is.
  pub gives_none : (c : C) → IsNoneDone meaning → meaning.able c → Gives meaning c c [] (Ok tt)
  gives_none c none able = record {
    moved = λ origin items stands. subst (meaning.stands c origin) (sym (append-nil items)) stands;
    stopped = tt;
    counted = omega arith;
    is_able = able;
    went = none c able;
  }

  -- Giving a mark to a consumer leaves it as it is, if a mark changes nothing of what it
  -- represents.
  pub gives_mark : (c : C) → IsNoneDone meaning → meaning.able c
      → ((origin : meaning.Origin) (items : List Item) → meaning.stands c origin items
      → meaning.stands c origin (items ++ mark ∷ []))
      → Gives meaning c c (mark ∷ []) (Ok tt)
  gives_mark c none able passes = record {
    moved = passes;
    stopped = tt;
    counted = omega arith;
    is_able = able;
    went = none c able;
  }

  pub gives_items : (c0 c1 : C) (a b : List Item) (result : Result (Unit {0}) Stop) → a ≡ b
      → Gives meaning c0 c1 a result → Gives meaning c0 c1 b result
  gives_items c0 c1 a b result same given =
      subst (λ items. Gives meaning c0 c1 items result) same given

  -- A consumer that stopped at one of some items isn't given the items that follow.
  pub gives_front : (c0 c1 : C) (a rest : List Item) (stop : Stop)
      → Gives meaning c0 c1 a (Err stop) → Gives meaning c0 c1 (a ++ rest) (Err stop)
  gives_front c0 c1 a rest stop given = record {
    moved = tt;
    stopped = stops_before c0 c1 a rest stop given.stopped;
    counted = tt;
    is_able = tt;
    went = given.went;
  }

  -- Holds if a consumer was given all items except those that are left.
  pub record HasGiven (start now : C) (all left : List Item) : Type 0 where
    pub done : List Item
    pub all_are : all ≡ done ++ left
    pub gives : Gives meaning start now done (Ok tt)

module _ {C : Type 0} (meaning : Consuming C) (joins : AreJoined meaning) where
  -- If a consumer was given some items, and then some more, it was given all of them.
  pub gives_then : (c0 c1 c2 : C) (a b : List Item) (result : Result (Unit {0}) Stop)
      → Gives meaning c0 c1 a (Ok tt) → Gives meaning c1 c2 b result
      → Gives meaning c0 c2 (a ++ b) result
  gives_then c0 c1 c2 a b (Ok x) first second = record {
    moved = moves_then meaning c0 c1 c2 a b first.moved second.moved;
    stopped = tt;
    counted = omega (arith, first.counted, second.counted, ticks_with a b);
    is_able = second.is_able;
    went = joins c0 c1 c2 (Ok x) first.went second.went;
  }
  gives_then c0 c1 c2 a b (Err stop) first second = record {
    moved = tt;
    stopped = stops_then meaning c0 c1 c2 a b stop first.moved second.stopped;
    counted = tt;
    is_able = tt;
    went = joins c0 c1 c2 (Err stop) first.went second.went;
  }

  -- ---- items in parts

  pub given_none : (c : C) (all : List Item) → IsNoneDone meaning → meaning.able c
      → HasGiven meaning c c all all
  given_none c all none able =
      record { done = []; all_are = refl; gives = gives_none meaning c none able }

  pub given_some : (start now next : C) (all left rest : List Item) (count : ℕ)
      → rest ≡ drop count left → HasGiven meaning start now all left
      → GivesFirst meaning now next left count → HasGiven meaning start next all rest
  given_some start now next all left rest count is has first = record {
    done = has.done ++ take count left;
    all_are = has.all_are ∙ ap (λ l. has.done ++ l) (sym (take-append-drop count left))
        ∙ sym (append_assoc has.done (take count left) (drop count left))
        ∙ ap (λ l. (has.done ++ take count left) ++ l) (sym is);
    gives = gives_then start now next has.done (take count left) (Ok tt) has.gives first.gives;
  }

  pub given_stop : (start now next : C) (all left : List Item) (stop : Stop)
      → HasGiven meaning start now all left → Gives meaning now next left (Err stop)
      → Gives meaning start next all (Err stop)
  given_stop start now next all left stop has stops =
      gives_items meaning start next (has.done ++ left) all (Err stop) (sym has.all_are)
      (gives_then start now next has.done left (Err stop) has.gives stops)

  pub given_all : (start now : C) (all left : List Item) → left ≡ []
      → HasGiven meaning start now all left → Gives meaning start now all (Ok tt)
  given_all start now all left nothing has = gives_items meaning start now has.done all (Ok tt)
      (sym (has.all_are ∙ ap (λ l. has.done ++ l) nothing ∙ append-nil has.done)) has.gives

  pub given_may : (start now : C) (all left : List Item) → MayTake meaning start all
      → HasGiven meaning start now all left → MayTake meaning now left
  given_may start now all left may has =
      let sum : length (ticks_in all) ≡ length (ticks_in has.done) + length (ticks_in left) =
      ap (λ l. length (ticks_in l)) has.all_are ∙ ticks_with has.done left in record {
        room = omega (arith, may.room, has.gives.counted, sum);
        able = has.gives.is_able;
      }
