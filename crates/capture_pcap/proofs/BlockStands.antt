-- What may follow a pcapng file so far at each place of its reader.
use Rattle.capture_pcap.specs.BlockStep.{SteppedBlock, is_size}
use Rattle.capture_pcap.specs.Blocks.{padded, counts_at, IsOrderMark, AreOptions, section_with}
use Rattle.capture_pcap.specs.{Blocks.fresh, Blocks.AreBlocks, Record.IsRecord, Words.number}
use Rattle.capture_pcap.specs.{Words.short_number, declared.block.Block.Block}
use Rattle.capture_pcap.specs.declared.block.Kind.{Kind, TheVariants.Interface as InterfaceKind}
use Rattle.capture_pcap.specs.declared.block.Kind.TheVariants.{Packet as PacketKind}
use Rattle.capture_pcap.specs.declared.block.{Kind.TheVariants.Other as OtherKind, Section.Section}
use Rattle.capture_pcap.specs.declared.{body.Body.Body, words.Order.Order}
use Rattle.capture_pcap.specs.declared.words.Order.TheVariants.{Big, Little}
use Rattle.line_stamps.specs.declared.seen.Seen.{Seen}
use Rattle.std.proofs.Common.{◌≡◌, ℕ, ◌+◌, ◌*◌, ◌-◌, ◌/◌, ◌<◌, ◌≤◌, ◌^◌, true, List, [], ◌++◌}
use Rattle.std.proofs.Common.{length, Some, Ok, Err, sym, subst, append-nil, slice_index}
use Rattle.std.specs.Option.{option_to_list}
use Rattle.capture_pcap.specs.declared.block.Block.TheVariants as b
use Rattle.capture_pcap.proofs.Bodies.{AtBody}

-- ---- what makes a file so far one of whole blocks with these items

-- After the length of the block again, the file is one of whole blocks.
abbrev pub EndsAs : Section → ℕ → List ℕ → List Seen → Type 0
EndsAs s size text items = (again : List ℕ) → length again ≡ 4 → number s.order again ≡ size
    → AreBlocks (Some s) (text ++ again) items

-- After this many bytes and the length of the block again, the file is one of whole blocks.
abbrev pub RestsAs : Section → ℕ → ℕ → List ℕ → List Seen → Type 0
RestsAs s size left text items = (rest : List ℕ) → length rest ≡ left
    → EndsAs s size (text ++ rest) items

abbrev pub BodyAs : Section → ℕ → ℕ → ℕ → ℕ → List ℕ → List Seen → Type 0
BodyAs s size left start count text items = (packet : List ℕ) (these : List Seen)
    → IsRecord start count packet these
    → RestsAs s size left (text ++ packet) (items ++ these)

abbrev pub OriginalAs : Section → ℕ → ℕ → ℕ → List ℕ → List Seen → Type 0
OriginalAs s size start captured text items = (original : List ℕ) → length original ≡ 4
    → number s.order original ≡ captured
    → BodyAs s size (size - 32 - captured) start (captured - 12) (text ++ original) items

abbrev pub CapturedAs : Section → ℕ → ℕ → List ℕ → List Seen → Type 0
CapturedAs s size start text items = (captured : List ℕ) → length captured ≡ 4
    → 12 ≤ number s.order captured → padded (number s.order captured) + 32 ≤ size
    → OriginalAs s size start (number s.order captured) (text ++ captured) items

abbrev pub LowAs : Section → ℕ → ℕ → List ℕ → List Seen → Type 0
LowAs s size high text items = (low : List ℕ) → length low ≡ 4
    → (high * 4294967296 + number s.order low) * s.counts < 2 ^ 64
    → CapturedAs s size ((high * 4294967296 + number s.order low) * s.counts) (text ++ low) items

abbrev pub HighAs : Section → ℕ → List ℕ → List Seen → Type 0
HighAs s size text items = (high : List ℕ) → length high ≡ 4
    → LowAs s size (number s.order high) (text ++ high) items

abbrev pub InterfaceAs : Section → ℕ → List ℕ → List Seen → Type 0
InterfaceAs s size text items = (interface : List ℕ) → length interface ≡ 4
    → s.first ≤ number s.order interface → number s.order interface < s.interfaces
    → HighAs s size (text ++ interface) items

abbrev pub OptionsAs : Section → ℕ → ℕ → ℕ → List ℕ → List Seen → Type 0
OptionsAs s size left counts text items = (options : List ℕ) (to : ℕ)
    → AreOptions s.order counts options to → length options ≡ 4 * left
    → EndsAs (section_with s to) size (text ++ options) items

abbrev pub SnapAs : Section → ℕ → List ℕ → List Seen → Type 0
SnapAs s size text items = (snap : List ℕ) → length snap ≡ 4
    → OptionsAs s size ((size - 20) / 4) 1000 (text ++ snap) items

abbrev pub LinkAs : Section → ℕ → List ℕ → List Seen → Type 0
LinkAs s size text items = (link : List ℕ) → length link ≡ 4 → short_number s.order link ≡ 250
    → SnapAs s size (text ++ link) items

abbrev pub OfKindAs : Section → Kind → ℕ → List ℕ → List Seen → Type 0
OfKindAs s InterfaceKind size text items = is_size size 20 ≡ true → LinkAs s size text items
OfKindAs s PacketKind size text items = is_size size 44 ≡ true → InterfaceAs s size text items
OfKindAs s OtherKind size text items =
    is_size size 12 ≡ true → RestsAs s size (size - 12) text items

abbrev pub SizeAs : Section → Kind → List ℕ → List Seen → Type 0
SizeAs s kind text items = (size : List ℕ) → length size ≡ 4
    → OfKindAs s kind (number s.order size) (text ++ size) items

abbrev pub size_in : Order → ℕ → ℕ → ℕ
size_in Big big_size little_size = big_size
size_in Little big_size little_size = little_size

abbrev pub OrderAs : ℕ → ℕ → List ℕ → List Seen → Type 0
OrderAs big_size little_size text items = (order : Order) (mark : List ℕ) → IsOrderMark order mark
    → is_size (size_in order big_size little_size) 28 ≡ true
    → RestsAs (fresh order) (size_in order big_size little_size)
    (size_in order big_size little_size - 16) (text ++ mark) items

abbrev pub SectionAs : List ℕ → List Seen → Type 0
SectionAs text items = (size : List ℕ) → length size ≡ 4
    → OrderAs (number Big size) (number Little size) (text ++ size) items

-- a packet of which some bytes have come, at the end of the file so far
pub record AtPacket (s : Section) (size left : ℕ) (body : Body) (text : List ℕ) (items : List Seen) :
    Type 0 where
  pub start : ℕ
  pub count : ℕ
  pub front : List ℕ
  pub bytes : List ℕ
  pub before : List Seen
  pub these : List Seen
  pub text_is : text ≡ front ++ bytes
  pub items_are : items ≡ before ++ these
  pub at : AtBody start count body bytes these
  pub whole : BodyAs s size left start count front before

-- what holds of the file so far if its reader is at this place
abbrev pub AtBlock : Block → List ℕ → List Seen → Type 0
AtBlock b.SectionSize text items = SectionAs text items
AtBlock (b.SectionOrder big_size little_size) text items = OrderAs big_size little_size text items
AtBlock (b.Kind s) text items = AreBlocks (Some s) text items
AtBlock (b.Size s kind) text items = SizeAs s kind text items
AtBlock (b.Link s size) text items = LinkAs s size text items
AtBlock (b.Snap s size) text items = SnapAs s size text items
AtBlock (b.Option s size left counts) text items =
    (0 < left) × OptionsAs s size left counts text items
AtBlock (b.Value s size left counts fields) text items = (0 < fields)
    × ((value : List ℕ) → length value ≡ 4 * fields
    → OptionsAs s size left counts (text ++ value) items)
AtBlock (b.Resolution s size left) text items = (0 < left)
    × ((value : List ℕ) (counts : ℕ) → length value ≡ 4
    → counts_at (slice_index value 0) ≡ Some counts
    → OptionsAs s size (left - 1) counts (text ++ value) items)
AtBlock (b.Interface s size) text items = InterfaceAs s size text items
AtBlock (b.High s size) text items = HighAs s size text items
AtBlock (b.Low s size high) text items = LowAs s size high text items
AtBlock (b.Captured s size start) text items = CapturedAs s size start text items
AtBlock (b.Original s size start captured) text items = OriginalAs s size start captured text items
AtBlock (b.Packet s size left body) text items = AtPacket s size left body text items
AtBlock (b.Unread s size left) text items = (0 < left) × RestsAs s size left text items
AtBlock (b.End s size) text items = EndsAs s size text items

-- what holds of the file after one more field: nothing, if the field is refused
abbrev pub BlockGoes : List ℕ → List Seen → SteppedBlock → Type 0
BlockGoes text items (Ok next) = AtBlock next.0 text (items ++ option_to_list next.1)
BlockGoes text items (Err why) = Unit {0}

pub same : (block : Block) (text : List ℕ) (items : List Seen) → AtBlock block text items
    → AtBlock block text (items ++ [])
same block text items at =
    let Q : List Seen → Type 0 = λ x. AtBlock block text x in subst Q (sym (append-nil items)) at
