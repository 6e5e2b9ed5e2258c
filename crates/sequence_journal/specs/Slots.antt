-- The numbers that slots hold, and the floor of the slots of a disk.
use Rattle.std.specs.Prelude.{ℕ, ◌-◌, ◌&&◌, List, ◌++◌, map, max, nat_lt, nat_le}
use Rattle.std.specs.Prelude.{Option, Some, None, option_map, get_or, if◌then◌else◌}
use Rattle.std.specs.Str.{bytes_eq}
use Rattle.byteorder.specs.Endian.{big_bytes, big_number}
use Rattle.yasir_io.specs.declared.disk.Slot.{Slot}
use Rattle.yasir_io.specs.declared.disk.Slot.TheVariants.{A, B}
use Rattle.yasir_io.specs.Disks.{Slots}
use Rattle.sequence_journal.specs.declared.numbers.TheConstants.{LIMIT}
use Rattle.sequence_journal.specs.declared.link.LinkId.{LinkId}
use Rattle.sequence_journal.specs.Links.{has_direction, link_bytes}

-- these bytes, and then the complement of each
abbrev pub with_complement : List ℕ → List ℕ
with_complement half = half ++ map (λ b. 255 - b) half

-- the slot that holds a number for a link: the eight bytes of the number, the highest first, the
-- four of the link and the version, and then the complement of these twelve
unfoldable pub slot_bytes : ℕ → LinkId → List ℕ
slot_bytes n link = with_complement (big_bytes 8 n ++ link_bytes link)

-- the old slot that holds a number: its eight bytes, the highest first, and then their complement
unfoldable pub old_slot_bytes : ℕ → List ℕ
old_slot_bytes n = with_complement (big_bytes 8 n)

-- The number that these bytes hold, if `made` gives the bytes of each number. It is the number n of
-- their first eight bytes, or `None` if they aren't `made n`, or if n is above the limit.
abbrev pub held_by : (ℕ → List ℕ) → List ℕ → Option ℕ
held_by made bytes =
    let n = big_number 8 bytes in
    if bytes_eq bytes (made n) && nat_le n LIMIT then Some n else None

-- the number that a slot holds for a link
unfoldable pub number_held : LinkId → List ℕ → Option ℕ
number_held link slot = held_by (λ n. slot_bytes n link) slot

-- the number that an old slot holds
unfoldable pub old_number_held : List ℕ → Option ℕ
old_number_held slot = held_by old_slot_bytes slot

-- the link that a slot names in its bytes 8 to 10
abbrev pub link_named : List ℕ → LinkId
link_named slot = record {
  label = get_or slot 8 0;
  dir = get_or slot 9 0;
  profile = get_or slot 10 0;
}

-- the number that a slot holds, and the link for which it holds it
unfoldable pub link_held : List ℕ → Option (ℕ × LinkId)
link_held slot =
    let link = link_named slot in
    if has_direction link then option_map (λ n. (n, link)) (number_held link slot) else None

-- the number that a slot holds, for whatever link
abbrev pub any_number_held : List ℕ → Option ℕ
any_number_held slot = option_map (λ (held : ℕ × LinkId). held.0) (link_held slot)

-- the greater of two numbers, each of which may be missing
abbrev pub greater : Option ℕ → Option ℕ → Option ℕ
greater None b = b
greater (Some a) None = Some a
greater (Some a) (Some b) = Some (max a b)

-- the slot with the greater of the numbers in slots A and B, each of which may be missing; slot A
-- if they are equal
abbrev pub place_of_greater : Option ℕ → Option ℕ → Option Slot
place_of_greater None None = None
place_of_greater None (Some b) = Some B
place_of_greater (Some a) None = Some A
place_of_greater (Some a) (Some b) = Some (if nat_lt a b then B else A)

-- the greatest number that slots A and B hold for a link
abbrev pub own_floor : LinkId → Slots → Option ℕ
own_floor link slots = greater (number_held link slots.a) (number_held link slots.b)

-- the greatest number that slots A and B hold for any link
abbrev pub any_floor : Slots → Option ℕ
any_floor slots = greater (any_number_held slots.a) (any_number_held slots.b)

-- the greatest number that the old slots hold
abbrev pub old_floor : Slots → Option ℕ
old_floor slots = greater (old_number_held slots.old.a) (old_number_held slots.old.b)

-- the greatest number of all slots, old ones included, for whatever link
abbrev pub greatest : Slots → Option ℕ
greatest slots = greater (any_floor slots) (old_floor slots)

-- the floor for a link, by the greatest number of slots A and B for this link, their greatest for
-- any link, and the greatest of the old slots
abbrev pub floor_by : Option ℕ → Option ℕ → Option ℕ → Option ℕ
floor_by (Some own) any old = greater (Some own) old
floor_by None (Some any) old = None
floor_by None None old = old

-- The floor of a disk for a link. Old slots name no link. They count if slot A or B holds a number
-- for this link, and also if neither holds one for any link.
abbrev pub floor_of : LinkId → Slots → Option ℕ
floor_of link slots = floor_by (own_floor link slots) (any_floor slots) (old_floor slots)

-- the slot that holds the greatest number for a link
abbrev pub floor_slot : LinkId → Slots → Option Slot
floor_slot link slots = place_of_greater (number_held link slots.a) (number_held link slots.b)

-- this slot if there is no number for the link, and `None` if there is one
abbrev pub wrong_by : Option ℕ → Option Slot → Option Slot
wrong_by (Some own) place = None
wrong_by None place = place

-- the slot with the greatest number, if slots A and B hold numbers for other links only
abbrev pub wrong_slot : LinkId → Slots → Option Slot
wrong_slot link slots = wrong_by (own_floor link slots)
    (place_of_greater (any_number_held slots.a) (any_number_held slots.b))
