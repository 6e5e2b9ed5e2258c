-- If the lists hold the parts of some items and take one more item, they hold the parts of all.
use Rattle.std.proofs.Common.{◌≡◌, ◌∙◌, ℕ, zero, suc, ◌<◌, List, [], ◌∷◌, ◌++◌, length, take, Ok}
use Rattle.std.proofs.Common.{Err, refl, sym, ap, arith}
use Rattle.tick_drive.{proofs.Moving.gives_items, specs.Consumers.Gives}
use Rattle.tick_drive.specs.{Consumers.GivesFirst, declared.consumer.Stop.TheVariants.NoMemory}
use Rattle.session_lists.proofs.Parting.{marks-tick, marks-mark, part-here, part-there, part-mark}
use Rattle.session_lists.proofs.Parting.{place-none}
use Rattle.session_lists.specs.Listing.{listing}
use Rattle.session_lists.specs.Parts.{part}
use Rattle.session_lists.specs.ListPlaces.{place_behind, place_after}
use Rattle.session_lists.specs.TickLists.{HoldsParts, TakesTick, with_first_tick, with_second, with_third}
use Rattle.session_lists.specs.TickLists.{ticks_first, ticks_second, ticks_third}
use Rattle.session_lists.specs.declared.tick_lists.{Place.Place, TickLists.TickLists}
use Rattle.yasir_ticks.specs.Ticks.{Item, marks_in, Item.tick, Item.mark}
use Rattle.yasir_ticks.specs.declared.tick.Tick.{Tick}

-- If the first list is part 0 of some items, then after one tick more it is part 0 of these and the
-- tick, however many marks came before the tick.
first-with : (m : ℕ) (items : List Item) (t : Tick) → marks_in items ≡ m
    → with_first_tick (place_after m) t (part 0 items) ≡ part 0 (items ++ tick t ∷ [])
first-with zero items t marks = sym (part-here 0 items t marks)
first-with (suc zero) items t marks = sym (part-there 0 items t (λ same. omega arith))
first-with (suc (suc zero)) items t marks = sym (part-there 0 items t (λ same. omega arith))
first-with (suc (suc (suc k))) items t marks =
    ap (λ p. with_first_tick p t (part 0 items)) (place-none k)
    ∙ sym (part-there 0 items t (λ same. omega arith))

second-with : (m : ℕ) (items : List Item) (t : Tick) → marks_in items ≡ m
    → with_second (place_after m) t (part 1 items) ≡ part 1 (items ++ tick t ∷ [])
second-with zero items t marks = sym (part-there 1 items t (λ same. omega arith))
second-with (suc zero) items t marks = sym (part-here 1 items t marks)
second-with (suc (suc zero)) items t marks = sym (part-there 1 items t (λ same. omega arith))
second-with (suc (suc (suc k))) items t marks =
    ap (λ p. with_second p t (part 1 items)) (place-none k)
    ∙ sym (part-there 1 items t (λ same. omega arith))

third-with : (m : ℕ) (items : List Item) (t : Tick) → marks_in items ≡ m
    → with_third (place_after m) t (part 2 items) ≡ part 2 (items ++ tick t ∷ [])
third-with zero items t marks = sym (part-there 2 items t (λ same. omega arith))
third-with (suc zero) items t marks = sym (part-there 2 items t (λ same. omega arith))
third-with (suc (suc zero)) items t marks = sym (part-here 2 items t marks)
third-with (suc (suc (suc k))) items t marks =
    ap (λ p. with_third p t (part 2 items)) (place-none k)
    ∙ sym (part-there 2 items t (λ same. omega arith))

holds-tick : (old new : TickLists) (t : Tick) (items : List Item) → TakesTick old new t
    → HoldsParts old items → HoldsParts new (items ++ tick t ∷ [])
holds-tick old new t items takes holds =
    let m : ℕ = marks_in items in
    record {
      first_is = takes.first_is
          ∙ (ap (λ p. with_first_tick p t (ticks_first old)) holds.place_is
          ∙ (ap (λ l. with_first_tick (place_after m) t l) holds.first_is ∙ first-with m items t refl));
      second_is = takes.second_is
          ∙ (ap (λ p. with_second p t (ticks_second old)) holds.place_is
          ∙ (ap (λ l. with_second (place_after m) t l) holds.second_is
          ∙ second-with m items t refl));
      third_is = takes.third_is
          ∙ (ap (λ p. with_third p t (ticks_third old)) holds.place_is
          ∙ (ap (λ l. with_third (place_after m) t l) holds.third_is ∙ third-with m items t refl));
      place_is = takes.place_is ∙ (holds.place_is ∙ ap place_after (sym (marks-tick items t)));
    }

pub holds-mark : (lists : TickLists) (p : Place) (items : List Item)
    → p ≡ place_behind lists.place → HoldsParts lists items
    → HoldsParts (record lists { place = p }) (items ++ mark ∷ [])
holds-mark lists p items is holds = record {
  first_is = holds.first_is ∙ sym (part-mark 0 items);
  second_is = holds.second_is ∙ sym (part-mark 1 items);
  third_is = holds.third_is ∙ sym (part-mark 2 items);
  place_is = is ∙ (ap place_behind holds.place_is ∙ ap place_after (sym (marks-mark items)));
}

-- If the lists have taken the first tick of some items, they keep what they promise as a consumer.
pub gives-first : (old new : TickLists) (t : Tick) (items rest : List Item)
    → items ≡ tick t ∷ rest → TakesTick old new t → GivesFirst listing old new items 1
gives-first old new t items rest is takes = record {
  some = omega arith;
  within = let long = ap length is in omega arith;
  gives = gives_items listing old new (tick t ∷ []) (take 1 items) (Ok tt)
      (sym (ap (λ l. take 1 l) is))
      (record {
        moved = λ origin before holds. holds-tick old new t before takes holds;
        stopped = tt;
        counted = takes.counted;
        is_able = tt;
        went = tt;
      });
}

-- If there was no memory for a tick, they keep what they promise of a consumer that stops.
pub gives-none : (old new : TickLists) (items : List Item) → 0 < length items
    → Gives listing old new items (Err NoMemory)
gives-none old new items some = record {
  moved = tt;
  stopped = record { place = 0; within = some; at = λ origin before holds. refl };
  counted = tt;
  is_able = tt;
  went = tt;
}
