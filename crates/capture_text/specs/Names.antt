-- The channels of an export by their names, in the order in which they come.
use Rattle.std.specs.Prelude.{◌≡◌, ℕ, ◌==◌, nat_lt, if◌then◌else◌, List, [], length, Option, Some, None}
use Rattle.std.specs.Prelude.{bytes_eq}
use Rattle.line_stamps.specs.declared.capture.Way.{Way}
use Rattle.line_stamps.specs.declared.capture.Way.TheVariants.{A, B}
use Rattle.capture_text.specs.declared.TheConstants.{MAX_NAME}
use Rattle.capture_text.specs.declared.names.Names.{Names}

-- the names of the first and the second channel, each empty if the channel hasn't come yet
pub record ChannelNames : Type 0 where
  pub first : List ℕ
  pub second : List ℕ

abbrev pub no_names : ChannelNames
no_names = record { first = []; second = [] }

-- The way of the channel with this name, and the names after it has come. A third channel has no
-- way, nor has one whose name doesn't have 1 to 64 bytes.
abbrev pub way_in : ChannelNames → List ℕ → Option (ChannelNames × Way)
way_in names name =
    if length name == 0 then None
    else if nat_lt MAX_NAME (length name) then None
    else if length names.first == 0 then Some (record { first = name; second = names.second }, A)
    else if bytes_eq names.first name then Some (names, A)
    else if length names.second == 0 then Some (record { first = names.first; second = name }, B)
    else if bytes_eq names.second name then Some (names, B)
    else None

abbrev pub names_of : Names → ChannelNames
names_of names = record { first = names.first.items; second = names.second.items }

abbrev pub Finds : Names → List ℕ → Option Way → Names → Type 0
Finds old name (Some way) new = way_in (names_of old) name ≡ Some (names_of new, way)
Finds old name None new = way_in (names_of old) name ≡ None
