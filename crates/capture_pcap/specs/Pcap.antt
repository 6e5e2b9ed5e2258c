-- A pcap file of link type 250, RTAC serial: a header of 24 bytes, and packets, each after a header
-- of 16 bytes (draft-ietf-opsawg-pcap).
use Rattle.std.specs.Prelude.{◌≡◌, ℕ, ◌+◌, ◌*◌, ◌<◌, List, [], ◌∷◌, ◌++◌, length, false, Ok, Err}
use Rattle.line_stamps.specs.Walks.{walk}
use Rattle.line_stamps.specs.Fields.{before_field}
use Rattle.capture_pcap.specs.Words.{number, nanoseconds}
use Rattle.capture_pcap.specs.Record.{IsRecord}
use Rattle.capture_pcap.specs.Blocks.{IsPcapng, section_kind}
use Rattle.capture_pcap.specs.BlockStep.{block_field_at, takes_bytes as block_takes_bytes}
use Rattle.capture_pcap.specs.PcapStep.{step_at}
use Rattle.capture_pcap.specs.declared.block.Block.{Block}
use Rattle.capture_pcap.specs.declared.stage.Stage.TheVariants.{Magic as FileBegin, Blocks}
use Rattle.line_stamps.specs.declared.seen.Seen.{Seen}
use Rattle.capture_pcap.specs.declared.fault.PcapFault.{PcapFault}
use Rattle.capture_pcap.specs.declared.fault.PcapFault.TheVariants.{Magic, Link, Short, Cut}
use Rattle.capture_pcap.specs.declared.words.Clock.{Clock}
use Rattle.capture_pcap.specs.declared.words.Order.TheVariants.{Big, Little}
use Rattle.capture_pcap.specs.declared.words.Resolution.TheVariants.{Microseconds, Nanoseconds}

-- The magic number of a file with this clock, in the order of the file: 0xA1B2C3D4 if its times
-- count microseconds, and 0xA1B23C4D if they count nanoseconds.
pub data IsMagic : Clock → List ℕ → Type 0 where
  big_micro : IsMagic (record { order = Big; resolution = Microseconds }) (0xA1 ∷ 0xB2 ∷ 0xC3 ∷ 0xD4
      ∷ [])
  little_micro : IsMagic (record { order = Little; resolution = Microseconds })
      (0xD4 ∷ 0xC3 ∷ 0xB2 ∷ 0xA1 ∷ [])
  big_nano : IsMagic (record { order = Big; resolution = Nanoseconds }) (0xA1 ∷ 0xB2 ∷ 0x3C ∷ 0x4D ∷
      [])
  little_nano : IsMagic (record { order = Little; resolution = Nanoseconds })
      (0x4D ∷ 0x3C ∷ 0xB2 ∷ 0xA1 ∷ [])

-- The header of a file: its magic number, sixteen bytes that say nothing of its packets (version,
-- time zone, figures, and how many bytes of a packet are taken at most), and the link type.
pub record IsPcapHeader (clock : Clock) (bytes : List ℕ) : Type 0 where
  pub magic : List ℕ
  pub free : List ℕ
  pub link : List ℕ
  pub is : bytes ≡ (magic ++ free) ++ link
  pub magic_is : IsMagic clock magic
  pub free_long : length free ≡ 16
  pub link_long : length link ≡ 4
  pub link_is : number clock.order link ≡ 250

-- the time of a packet, in nanoseconds
pub record IsTime (clock : Clock) (bytes : List ℕ) (start : ℕ) : Type 0 where
  pub seconds : List ℕ
  pub fraction : List ℕ
  pub is : bytes ≡ seconds ++ fraction
  pub seconds_long : length seconds ≡ 4
  pub fraction_long : length fraction ≡ 4
  pub start_is : start ≡ number clock.order seconds * 1000000000
      + number clock.order fraction * nanoseconds clock.resolution

-- the two lengths of a packet that the file has with all its bytes: the captured and the original
-- one, which are equal
pub record AreLengths (clock : Clock) (bytes : List ℕ) (size : ℕ) : Type 0 where
  pub captured : List ℕ
  pub original : List ℕ
  pub is : bytes ≡ captured ++ original
  pub captured_long : length captured ≡ 4
  pub original_long : length original ≡ 4
  pub captured_is : number clock.order captured ≡ size
  pub original_is : number clock.order original ≡ size

-- a packet with its header
pub record IsPcapPacket (clock : Clock) (bytes : List ℕ) (items : List Seen) : Type 0 where
  pub time : List ℕ
  pub lengths : List ℕ
  pub body : List ℕ
  pub start : ℕ
  pub count : ℕ
  pub is : bytes ≡ (time ++ lengths) ++ body
  pub time_is : IsTime clock time start
  pub lengths_are : AreLengths clock lengths (12 + count)
  pub record_is : IsRecord start count body items

-- a header, and packets one after the other
pub data ArePackets (clock : Clock) : List ℕ → List Seen → Type 0 where
  none : (header : List ℕ) → IsPcapHeader clock header → ArePackets clock header []
  more : (front packet : List ℕ) (items others : List Seen) → ArePackets clock front items
      → IsPcapPacket clock packet others → ArePackets clock (front ++ packet) (items ++ others)

-- A pcap file of link type 250 in which these bytes of the line and events are seen.
pub record IsPcap (file : List ℕ) (items : List Seen) : Type 0 where
  pub clock : Clock
  pub packets : ArePackets clock file items

-- A capture: a pcap or a pcapng file.
pub data IsCapture : List ℕ → List Seen → Type 0 where
  pcap : (file : List ℕ) (items : List Seen) → IsPcap file items → IsCapture file items
  pcapng : (file : List ℕ) (items : List Seen) → IsPcapng file items → IsCapture file items

-- Why a field is refused after these bytes, which begin a file.
pub data IsCause (front field : List ℕ) : PcapFault → Type 0 where
  no_magic : front ≡ [] → (field ≡ section_kind → ⊥)
      → ((clock : Clock) → IsMagic clock field → ⊥) → IsCause front field Magic
  other_link : (clock : Clock) (magic free : List ℕ) → front ≡ magic ++ free
      → IsMagic clock magic → length free ≡ 16 → (number clock.order field ≡ 250 → ⊥)
      → IsCause front field Link
  short_packet : (clock : Clock) (packets time : List ℕ) (items : List Seen) (start : ℕ)
      → front ≡ packets ++ time → ArePackets clock packets items → IsTime clock time start
      → number clock.order field < 12 → IsCause front field Short
  cut_packet : (clock : Clock) (packets time captured : List ℕ) (items : List Seen) (start : ℕ)
      → front ≡ (packets ++ time) ++ captured → ArePackets clock packets items
      → IsTime clock time start → length captured ≡ 4
      → (number clock.order field ≡ number clock.order captured → ⊥) → IsCause front field Cut
  -- In a pcapng file: what comes before the field leads to this place in a block, and there the
  -- field is refused for this cause.
  in_block : (block : Block) (items : List Seen) (why : PcapFault)
      → walk step_at (before_field FileBegin) front ≡ Ok (before_field (Blocks block), items)
      → block_takes_bytes block ≡ false → block_field_at block field ≡ Err why
      → IsCause front field why
