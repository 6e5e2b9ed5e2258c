-- How it is checked that no two stations have the same name.
use Rattle.stations.specs.Table.{has_station}
use Rattle.station_boxes.specs.OwnNames.{AreOwn, IsNamedTwice}
use Rattle.station_boxes.specs.{Served.table_of, declared.station.Station.Station}
use Rattle.std.proofs.Common.{◌≡◌, ◌∙◌, ℕ, ◌+◌, ◌<◌, true, List, [], ◌∷◌, ◌++◌, length, refl}
use Rattle.std.proofs.Common.{sym, ap, subst, arith, get_or, take, drop, append_assoc}
use Rattle.std.proofs.lemmas.List.{length-take-le, take-append-drop, take_more}

module _ {D : Type 0} (stations : List (Station D)) (place : ℕ) (d : Station D)
    (within : place < length stations) where
  abbrev name : ℕ
  name = (get_or stations place d).name

  pub own-not : has_station (table_of (take place stations)) name ≡ true → AreOwn stations place
      → IsNamedTwice stations name
  own-not again own =
      let one : Station D = get_or stations place d in
      let long : length (take place stations) ≡ place =
      length-take-le place stations (omega arith) in
      let A : ℕ → Type 0 = λ n. AreOwn stations n in
      record {
        front = take place stations;
        one = one;
        back = drop (place + 1) stations;
        is = sym (take-append-drop (place + 1) stations)
            ∙ (ap (λ l. l ++ drop (place + 1) stations) (take_more stations place d within)
            ∙ append_assoc (take place stations) (one ∷ []) (drop (place + 1) stations));
        named = refl;
        again = again;
        others = subst A (sym long) own;
      }
