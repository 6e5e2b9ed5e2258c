-- A two-wire box over two recordings, and what it has made of the ticks that have gone by.
use Rattle.std.specs.Prelude.{◌≡◌, ◌≤◌, ◌<◌, ◌+◌, ◌-◌, ◌⊎◌, ℕ, List, [], ◌∷◌, ◌++◌, length, take, drop}
use Rattle.yasir_ticks.specs.Ticks.{silent}
use Rattle.yasir_ticks.specs.declared.tick.Tick.{Tick}
use Rattle.yasir_ticks.specs.declared.tick.Tick.TheVariants.{Silent}
use Rattle.link_format.specs.Setup.{Setup}
use Rattle.link_box.specs.declared.box_trait.LinkBox.{Ghosts as LinkBox}
use Rattle.line_commands.specs.TimedLines.{timed_lines, lines_before}
use Rattle.session_lists.specs.FrameList.{KeptFrames}
use Rattle.two_wire.specs.Gate.{gate_state, gate_side, gate_waits, gate_ticks, at_rest}
use Rattle.two_wire.specs.Gate.{lets, let_through, gated, held_steps}
use Rattle.two_wire.specs.Wires.{hears}
use Rattle.two_wire.specs.declared.gate.Gate.{Gate}
use Rattle.two_wire.specs.declared.gate.Side.{Side}
use Rattle.two_wire.specs.declared.gate.Waits.{Waits}
use Rattle.wire_commands.specs.Hearing.{SurelyHears, gate_through}
use Rattle.wire_commands.specs.TickLines.{HasRoom, HasWritten}
use Rattle.wire_commands.specs.WireBox.{next_of, leaving, silent_behind, IsServed, ticks_gone, HasLeft}
use Rattle.wire_commands.specs.WireBox.{notes_told}
use Rattle.wire_commands.specs.WireLines.{held_lines}
use Rattle.wire_commands.specs.declared.wire_box.WireBox.{WireBox}
use Rattle.wire_commands.specs.declared.wire_lines.WireLines.{WireLines}

-- Holds if each of these lines falls into a step before step n.
abbrev pub AreBefore : ℕ → List (KeptFrames ℕ) → Type 0
AreBefore n [] = Unit {0}
AreBefore n (line ∷ lines) = (line.head < n) × AreBefore n lines

-- the tick with which a gate drives its wires now, if this tick is for its device
abbrev pub passed : Gate → Tick → Tick
passed gate tick = let_through tick (lets (gate_side gate) (gate_waits gate) (gate_state gate))

-- the ticks with which a box drives the wires to its device from now on, as far as they are known
abbrev pub known_own : {C : Type 0} → Gate → WireBox C → List Tick
known_own gate receiver = passed gate receiver.first ∷ silent (silent_behind receiver)

-- how many ticks have gone by
abbrev pub ticks_made : {S C : Type 0} → WireLines S C → ℕ
ticks_made value = value.ticks

-- Holds if this many ticks may go by now: both boxes have taken so many, and either it is one tick,
-- or the receiver has only silent ones.
pub record MayPass {S C : Type 0} (sender : WireBox S) (receiver : WireBox C) (count : ℕ) :
    Type 0 where
  pub some : 0 < count
  pub sent : count ≤ length (next_of sender)
  pub got : count ≤ length (next_of receiver)
  pub still : (count ≡ 1) ⊎ ((receiver.first ≡ Silent) × (count ≤ silent_behind receiver))

module _ {S C A B : Type 0} (sends : LinkBox S A) (sent_line : A → List ℕ) (gets : LinkBox C B)
    (got_line : B → List ℕ) where
  -- Holds if `device` and `link` have been on both pairs of wires, for this side, with these waits,
  -- and all that the box has driven its wires with and noted is kept. Each of the boxes may be
  -- ahead, by ticks that are surely heard of what is still to come.
  pub record HasMade (side : Side) (waits : Waits) (sent_setup got_setup : Setup)
      (value : WireLines S C) (device link device_rest link_rest : List Tick) : Type 0 where
    -- what the transmitter has heard and taken, what it has taken ahead, and what has left of what
    -- it makes of both; and so of the receiver
    pub sent : List Tick
    pub sent_ahead : List Tick
    pub sent_left : List Tick
    pub got : List Tick
    pub got_ahead : List Tick
    pub got_left : List Tick
    pub sender_is : HasLeft sends value.sender sent_setup (sent ++ sent_ahead) sent_left
    pub receiver_is : HasLeft gets value.receiver got_setup (got ++ got_ahead) got_left
    pub sent_counted : length sent ≡ value.ticks
    pub got_counted : length got ≡ value.ticks
    pub sent_left_counted : length sent_left ≡ value.ticks
    pub got_left_counted : length got_left ≡ value.ticks
    pub device_counted : length device ≡ value.ticks
    pub link_counted : length link ≡ value.ticks
    pub device_heard : hears (gated side waits at_rest got_left sent) device ≡ sent
    pub link_heard : hears sent_left link ≡ got
    pub device_sure : SurelyHears (known_own value.gate value.receiver) device_rest sent_ahead
    pub link_sure : SurelyHears (leaving value.sender) link_rest got_ahead
    pub side_is : gate_side value.gate ≡ side
    pub waits_is : gate_waits value.gate ≡ waits
    pub gate_is : gate_state value.gate ≡ gate_through side waits at_rest got_left sent
    pub to_link : HasWritten value.link_text sent_left
    pub to_device : HasWritten value.device_text (gated side waits at_rest got_left sent)
    pub sealed_before : AreBefore value.ticks
        (timed_lines sent_line (notes_told sends sent_setup (sent ++ sent_ahead)))
    pub checked_before : AreBefore value.ticks
        (timed_lines got_line (notes_told gets got_setup (got ++ got_ahead)))
    pub notes : value.notes.items ≡ lines_before value.ticks
        (timed_lines sent_line (notes_told sends sent_setup (sent ++ sent_ahead)))
        (timed_lines got_line (notes_told gets got_setup (got ++ got_ahead))
        ++ held_lines (held_steps side waits 0 at_rest got_left sent))

-- Holds if the box may take this many more ticks: the journals are those of its boxes, it has
-- counted the ticks that have gone by, and there is room for more in both texts.
pub record IsAble {S C A B : Type 0} (sends : LinkBox S A) (gets : LinkBox C B)
    (value : WireLines S C) (left : ℕ) : Type 0 where
  pub sender : IsServed sends value.sender
  pub receiver : IsServed gets value.receiver
  pub sent_counted : ticks_gone sends value.sender ≡ value.ticks
  pub got_counted : ticks_gone gets value.receiver ≡ value.ticks
  pub gate_counted : gate_ticks value.gate ≡ value.ticks
  pub sent_within : length (next_of value.sender) ≤ left
  pub got_within : length (next_of value.receiver) ≤ left
  pub link_room : HasRoom value.link_text
  pub device_room : HasRoom value.device_text

-- Holds if the box has let the first `count` ticks of what comes go by, at least one, and may take
-- the others.
pub record MakesSome {S C A B : Type 0} (sends : LinkBox S A) (sent_line : A → List ℕ)
    (gets : LinkBox C B) (got_line : B → List ℕ) (old new : WireLines S C)
    (device_rest link_rest : List Tick) (left count : ℕ) : Type 0 where
  pub some : 0 < count
  pub within : count ≤ left
  pub counted : ticks_made new ≡ ticks_made old + count
  pub able : IsAble sends gets new (left - count)
  pub makes : (side : Side) (waits : Waits) (sent_setup got_setup : Setup)
      (device link : List Tick)
      → HasMade sends sent_line gets got_line side waits sent_setup got_setup old device link
      device_rest link_rest
      → HasMade sends sent_line gets got_line side waits sent_setup got_setup new
      (device ++ take count device_rest) (link ++ take count link_rest) (drop count device_rest)
      (drop count link_rest)
