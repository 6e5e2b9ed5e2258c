-- The stations that a box serves.
use Rattle.std.specs.Prelude.{◌≡◌, ℕ, false, List, ◌∷◌, ◌++◌, length, map}
use Rattle.yasir_io.specs.declared.disk.SlotDisk.{Ghosts as SlotDisk}
use Rattle.sequence_journal.specs.declared.link.LinkId.{LinkId}
use Rattle.sequence_journal.specs.Journal.{journal_link, journal_floor, Fits}
use Rattle.stations.specs.Table.{StationEntry, has_station}
use Rattle.station_boxes.specs.declared.station.Station.{Station}

module _ {D : Type 0} where
  -- the name, the key and the floor of a station
  abbrev pub entry_of : Station D → StationEntry
  entry_of one = record {
    name = one.name;
    key = one.key.items;
    floor = journal_floor one.journal;
  }

  abbrev pub table_of : List (Station D) → List StationEntry
  table_of stations = map entry_of stations

  -- Holds if the station's disk is as its journal knows it.
  abbrev pub FitsOf : SlotDisk D → Station D → Type 0
  FitsOf d one = Fits one.journal (d.told one.disk)

  -- Holds if the station's journal serves this link.
  abbrev pub ServesOf : LinkId → Station D → Type 0
  ServesOf link one = journal_link one.journal ≡ link

  -- Holds if the first station with this name is at this place.
  pub record IsPlaceOf (stations : List (Station D)) (name place : ℕ) : Type 0 where
    pub front : List (Station D)
    pub one : Station D
    pub back : List (Station D)
    pub is : stations ≡ front ++ one ∷ back
    pub at : length front ≡ place
    pub named : one.name ≡ name
    pub first : has_station (table_of front) name ≡ false
