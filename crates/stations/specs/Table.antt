-- The table of a line that several stations share: the key and the floor of each.
use Rattle.std.specs.Prelude.{ℕ, ◌==◌, Bool, true, false, List, [], ◌∷◌, if◌then◌else◌}
use Rattle.link_format.specs.Profile.{Profile}
use Rattle.receiver_laws.specs.Reflected.{with_tags}

pub record StationEntry : Type 0 where
  pub name : ℕ
  pub key : List ℕ
  pub floor : ℕ

-- whether a name is in the table
abbrev pub has_station : List StationEntry → ℕ → Bool
has_station [] i = false
has_station (entry ∷ table) i = if entry.name == i then true else has_station table i

-- the key of a name, by its first entry; none is used for a name without an entry
abbrev pub table_key : List StationEntry → ℕ → List ℕ
table_key [] i = []
table_key (entry ∷ table) i = if entry.name == i then entry.key else table_key table i

-- The floor of a name, by its first entry. A name without an entry has the limit: no number is left
-- for it.
abbrev pub table_floor : ℕ → List StationEntry → ℕ → ℕ
table_floor limit [] i = limit
table_floor limit (entry ∷ table) i = if entry.name == i then entry.floor else table_floor limit table i

-- `tags i` are the tags under the key of station i.
abbrev pub StationTags : Type 0
StationTags = ℕ → ℕ → List ℕ → List ℕ

-- the tags under the keys of a table, if `tags key` are those under a key
abbrev pub table_tags : (List ℕ → ℕ → List ℕ → List ℕ) → List StationEntry → StationTags
table_tags tags table = λ i. tags (table_key table i)

-- the profile of a box that has one key, that of station i
abbrev pub profile_for : Profile → StationTags → ℕ → Profile
profile_for profile tags i = with_tags profile (tags i)

-- the profile of a box that has all keys, and takes that of the station that the frame names
abbrev pub by_station : Profile → StationTags → (List ℕ → ℕ) → Profile
by_station profile tags station = with_tags profile (λ number frame. tags (station frame) number frame)
