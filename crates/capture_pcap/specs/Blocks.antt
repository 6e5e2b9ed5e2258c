-- A pcapng file whose interfaces have link type 250, RTAC serial (draft-ietf-opsawg-pcapng):
-- blocks, each of which begins with its kind and its length, and ends with the length again.
use Rattle.std.specs.Prelude.{◌≡◌, ℕ, ◌+◌, ◌*◌, ◌-◌, ◌/◌, ◌%◌, ◌<◌, ◌≤◌, ◌^◌, ◌==◌, ◌&&◌, ◌||◌, not}
use Rattle.std.specs.Prelude.{nat_le, Bool, true, false, List, [], ◌∷◌, ◌++◌, length, drop}
use Rattle.std.specs.Prelude.{Option, Some, None, if◌then◌else◌, slice_index}
use Rattle.capture_pcap.specs.Words.{number, short_number, is_field}
use Rattle.capture_pcap.specs.Record.{IsRecord}
use Rattle.line_stamps.specs.declared.seen.Seen.{Seen}
use Rattle.capture_pcap.specs.declared.words.Order.{Order}
use Rattle.capture_pcap.specs.declared.words.Order.TheVariants.{Big, Little}
use Rattle.capture_pcap.specs.declared.block.Section.{Section}

-- a number, rounded up to a multiple of four
abbrev pub padded : ℕ → ℕ
padded n = (n + 3) / 4 * 4

-- how many nanoseconds a unit is if 10 to this power of them make a second, or `None` for a power
-- above nine
abbrev pub counts_at : ℕ → Option ℕ
counts_at digits = if nat_le digits 9 then Some (10 ^ (9 - digits)) else None

-- A block of this kind with this body. Its length counts all its bytes, and is a multiple of four.
pub record IsBlock (order : Order) (bytes kind body : List ℕ) : Type 0 where
  pub size : List ℕ
  pub again : List ℕ
  pub is : bytes ≡ ((kind ++ size) ++ body) ++ again
  pub kind_long : length kind ≡ 4
  pub size_long : length size ≡ 4
  pub again_long : length again ≡ 4
  pub size_is : number order size ≡ 12 + length body
  pub again_is : number order again ≡ 12 + length body
  pub even : (12 + length body) % 4 ≡ 0

-- the kind of the block that is a section's header, the same in both orders
abbrev pub section_kind : List ℕ
section_kind = 0x0A ∷ 0x0D ∷ 0x0D ∷ 0x0A ∷ []

-- the bytes with which a section says its order
pub data IsOrderMark : Order → List ℕ → Type 0 where
  big : IsOrderMark Big (0x1A ∷ 0x2B ∷ 0x3C ∷ 0x4D ∷ [])
  little : IsOrderMark Little (0x4D ∷ 0x3C ∷ 0x2B ∷ 0x1A ∷ [])

-- the header of a section: its order, and bytes that say nothing of its packets
pub record IsSection (order : Order) (bytes : List ℕ) : Type 0 where
  pub mark : List ℕ
  pub rest : List ℕ
  pub block : IsBlock order bytes section_kind (mark ++ rest)
  pub mark_is : IsOrderMark order mark
  pub whole : 12 ≤ length rest

-- whether an option says nothing of times, and doesn't end the options
abbrev pub is_plain : ℕ → Bool
is_plain code = not (code == 0) && not (code == 9) && not (code == 14)

-- The options of an interface, and how many nanoseconds a unit of its times is before these options
-- and after them. Option 9 (if_tsresol) sets the unit, by a power of ten of at most nine. Option 0
-- ends the options. An interface with option 14 (if_tsoffset) isn't read.
pub data AreOptions (order : Order) : ℕ → List ℕ → ℕ → Type 0 where
  none : (counts : ℕ) → AreOptions order counts [] counts
  ended : (counts : ℕ) (head rest : List ℕ) → length head ≡ 4 → short_number order head ≡ 0
      → AreOptions order counts (head ++ rest) counts
  plain : (from to : ℕ) (head value more : List ℕ) → length head ≡ 4
      → is_plain (short_number order head) ≡ true
      → length value ≡ padded (short_number order (drop 2 head))
      → AreOptions order from more to → AreOptions order from (head ++ (value ++ more)) to
  resolution : (from counts to : ℕ) (head value more : List ℕ) → length head ≡ 4
      → short_number order head ≡ 9 → short_number order (drop 2 head) ≡ 1 → length value ≡ 4
      → counts_at (slice_index value 0) ≡ Some counts → AreOptions order counts more to
      → AreOptions order from (head ++ (value ++ more)) to

-- an interface of link type 250, for which a unit of its times is this many nanoseconds
pub record IsInterface (order : Order) (bytes : List ℕ) (counts : ℕ) : Type 0 where
  pub kind : List ℕ
  pub link : List ℕ
  pub snap : List ℕ
  pub options : List ℕ
  pub block : IsBlock order bytes kind ((link ++ snap) ++ options)
  pub kind_is : number order kind ≡ 1
  pub link_long : length link ≡ 4
  pub link_is : short_number order link ≡ 250
  pub snap_long : length snap ≡ 4
  pub options_are : AreOptions order 1000 options counts

-- a section with one more interface, for which a unit of its times is this many nanoseconds
abbrev pub section_with : Section → ℕ → Section
section_with section counts = record {
  order = section.order;
  first = if section.counts == counts then section.first else section.interfaces;
  interfaces = section.interfaces + 1;
  counts = counts;
}

-- A packet with its time and all its bytes. Its interface was described, and counts its times in
-- the same unit as all the interfaces that were described after it.
pub record IsEnhanced (section : Section) (bytes : List ℕ) (items : List Seen) : Type 0 where
  pub kind : List ℕ
  pub interface : List ℕ
  pub high : List ℕ
  pub low : List ℕ
  pub captured : List ℕ
  pub original : List ℕ
  pub packet : List ℕ
  pub rest : List ℕ
  pub start : ℕ
  pub count : ℕ
  pub block : IsBlock section.order bytes kind
      ((((((interface ++ high) ++ low) ++ captured) ++ original) ++ packet) ++ rest)
  pub kind_is : number section.order kind ≡ 6
  pub interface_long : length interface ≡ 4
  pub high_long : length high ≡ 4
  pub low_long : length low ≡ 4
  pub captured_long : length captured ≡ 4
  pub original_long : length original ≡ 4
  pub numbered : section.first < 4294967296
  pub interface_alike : section.first ≤ number section.order interface
  pub interface_is : number section.order interface < section.interfaces
  pub start_is : start
      ≡ (number section.order high * 4294967296 + number section.order low) * section.counts
  pub fits : start < 2 ^ 64
  pub captured_is : number section.order captured ≡ 12 + count
  pub original_is : number section.order original ≡ 12 + count
  pub padding : padded (12 + count) ≤ 12 + count + length rest
  pub record_is : IsRecord start count packet items

-- whether a block of this kind is neither an interface nor a packet
abbrev pub is_other : ℕ → Bool
is_other kind = not (kind == 1) && not (kind == 6) && not (kind == 2 || kind == 3)

-- Holds for a whole block in this order that is neither a section's header nor of a kind that is
-- read or refused.
pub record IsOther (order : Order) (bytes : List ℕ) : Type 0 where
  pub kind : List ℕ
  pub body : List ℕ
  pub block : IsBlock order bytes kind body
  pub other : is_other (number order kind) ≡ true
  pub apart : is_field 0x0A 0x0D 0x0D 0x0A kind ≡ false

-- a section that has described no interface yet
abbrev pub fresh : Order → Section
fresh order = record { order = order; first = 0; interfaces = 0; counts = 1000 }

-- Blocks one after the other, the last section among them with its interfaces, if there is one, and
-- what is seen in the blocks.
pub data AreBlocks : Option Section → List ℕ → List Seen → Type 0 where
  nothing : AreBlocks None [] []
  section : (before : Option Section) (order : Order) (front bytes : List ℕ) (items : List Seen)
      → AreBlocks before front items → IsSection order bytes
      → AreBlocks (Some (fresh order)) (front ++ bytes) items
  interface : (before : Section) (counts : ℕ) (front bytes : List ℕ) (items : List Seen)
      → AreBlocks (Some before) front items → before.interfaces < 4294967295
      → IsInterface before.order bytes counts
      → AreBlocks (Some (section_with before counts)) (front ++ bytes) items
  packet : (in_section : Section) (front bytes : List ℕ) (items others : List Seen)
      → AreBlocks (Some in_section) front items → IsEnhanced in_section bytes others
      → AreBlocks (Some in_section) (front ++ bytes) (items ++ others)
  other : (in_section : Section) (front bytes : List ℕ) (items : List Seen)
      → AreBlocks (Some in_section) front items → IsOther in_section.order bytes
      → AreBlocks (Some in_section) (front ++ bytes) items

-- A pcapng file in which these bytes of the line and events are seen.
pub record IsPcapng (file : List ℕ) (items : List Seen) : Type 0 where
  pub last : Section
  pub blocks : AreBlocks (Some last) file items
