-- Tables in which no two stations have the same name.
use Rattle.std.specs.Prelude.{◌≡◌, ℕ, ◌<◌, true, false, List, ◌∷◌, ◌++◌, length}
use Rattle.stations.specs.Table.{has_station}
use Rattle.station_boxes.specs.Served.{table_of}
use Rattle.station_boxes.specs.declared.station.Station.{Station}

module _ {D : Type 0} (stations : List (Station D)) where
  -- Holds if none of the first n stations has the name of an earlier one.
  abbrev pub AreOwn : ℕ → Type 0
  AreOwn n = (front : List (Station D)) (one : Station D) (back : List (Station D))
      → stations ≡ front ++ one ∷ back → length front < n
      → has_station (table_of front) one.name ≡ false

  -- Holds if no two stations have the same name.
  abbrev pub HaveOwnNames : Type 0
  HaveOwnNames = AreOwn (length stations)

  -- Holds if the first station whose name an earlier one has has this name.
  pub record IsNamedTwice (name : ℕ) : Type 0 where
    pub front : List (Station D)
    pub one : Station D
    pub back : List (Station D)
    pub is : stations ≡ front ++ one ∷ back
    pub named : one.name ≡ name
    pub again : has_station (table_of front) name ≡ true
    pub others : AreOwn (length front)
