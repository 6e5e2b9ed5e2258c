-- Several devices on one pair of wires beside a two-wire box: what each of them reads.
use Rattle.std.specs.Prelude.{◌≡◌, ◌≤◌, ◌+◌, ◌⊎◌, ℕ, true, List, [], ◌∷◌}
use Rattle.yasir_ticks.specs.Bursts.{Burst, bursts_from}
use Rattle.yasir_ticks.specs.Ticks.{bytes_in}
use Rattle.yasir_ticks.specs.declared.TheConstants.{T1_5_TICKS, T3_5_TICKS}
use Rattle.yasir_ticks.specs.declared.tick.Tick.{Tick}
use Rattle.line_rules.specs.Rules.{Rules}
use Rattle.dnp_link_frame.specs.Rules.{dnp_rules}
use Rattle.device_model.specs.Stated.{StatedDevice, stated_rules, stated_reads}
use Rattle.device_model.specs.Stated.StatedDevice.{rtu, dnp, rtu_member, dnp_member}
use Rattle.poll_laws.specs.Rested.{EndsSilent}
use Rattle.two_wire.specs.Given.{ReadsSealed}
use Rattle.two_wire.specs.TwoWire.{EndSetup, EndWires, heard_link, SharesInTurn, KeepTurns}
use Rattle.two_wire.specs.TwoWire.{KeepTurnsDeafly}
use Rattle.two_wire.specs.Turns.{after}
use Rattle.two_wire.specs.Wires.{drives, AreApart}
use Rattle.two_wire.specs.declared.gate.Side.TheVariants.{Asks}
use Rattle.two_wire.specs.declared.gate.Spoken.{Spoken}
use Rattle.two_wire.specs.declared.gate.Spoken.TheVariants.{Nobody, Asker, Answerer}
use Rattle.yasir_ticks.specs.declared.tick.Tick.TheVariants.{Silent, Byte}

-- Holds if the first list has the elements of the two others and no more, those of each in their
-- order.
pub data IsInterleaved {X : Type 0} : List X → List X → List X → Type 0 where
  none : IsInterleaved [] [] []
  first : {z x y : List X} {a : X} → IsInterleaved z x y → IsInterleaved (a ∷ z) (a ∷ x) y
  second : {z x y : List X} {a : X} → IsInterleaved z x y → IsInterleaved (a ∷ z) x (a ∷ y)

-- Holds if this tick isn't a byte of the others fewer than `gap` silent ticks behind the box's.
abbrev pub WaitsBehind : ℕ → Spoken → Tick → Type 0
WaitsBehind gap spoken Silent = Unit {0}
WaitsBehind gap (Nobody quiet) (Byte b) = Unit {0}
WaitsBehind gap (Asker quiet) (Byte b) = gap ≤ quiet
WaitsBehind gap (Answerer quiet) (Byte b) = Unit {0}

-- Holds if the others say nothing before `gap` silent ticks have come behind what a box that asks
-- says, the first list being what it says.
abbrev pub AnswerAfter : ℕ → Spoken → List Tick → List Tick → Type 0
AnswerAfter gap spoken [] others = Unit {0}
AnswerAfter gap spoken (own ∷ owns) [] = Unit {0}
AnswerAfter gap spoken (own ∷ owns) (other ∷ others) =
    WaitsBehind gap spoken other × AnswerAfter gap (after spoken own other) owns others

-- Holds if the box asks, and `gap` silent ticks are between what it says and what the others say: its
-- gate waits so long, and the others do, who keep the turns. If that is no more than the silence
-- that ends a frame, they do by keeping them.
pub record AsksApart (gap : ℕ) (end : EndSetup) (own others : List Tick)
    (turns : KeepTurns end own others) : Type 0 where
  pub asks : end.side ≡ Asks
  pub some : T1_5_TICKS ≤ gap
  pub pause : gap ≤ end.waits.pause + end.lag
  pub window : gap ≤ end.waits.window
  pub answers : (gap ≤ T3_5_TICKS) ⊎ AnswerAfter gap turns.before own others

-- Holds if, besides the box, the wires carry what one device says and what the others say, these two
-- never talk at once, all of them keep the turns, and `gap` silent ticks are between them and the
-- box.
pub record IsOneOfSeveral (gap : ℕ) (end : EndSetup) (w : EndWires) (own others : List Tick) :
    Type 0 where
  pub shares : SharesInTurn end w (drives own others)
  pub apart : AreApart own others
  pub apart_from_box : AsksApart gap end w.to_device (drives own others) shares.turns

-- Holds if, besides the box, the wires carry what devices say, all of them keep the turns, `gap`
-- silent ticks are between them and the box, and one device is deaf in these ticks, and only when it
-- may be, whether it talks or another does.
pub record IsDeafAmong (gap : ℕ) (end : EndSetup) (w : EndWires) (others deaf : List Tick) :
    Type 0 where
  pub wires_are : w.device_wires ≡ drives w.to_device others
  pub deafly : KeepTurnsDeafly end w.to_device others deaf
  pub apart_from_box : AsksApart gap end w.to_device others deafly.turns

-- Holds if each of these bursts is a frame.
abbrev pub AreFrames : Rules → List Burst → Type 0
AreFrames rules [] = Unit {0}
AreFrames rules (d ∷ ds) = (rules.is_frame (bytes_in d.body) ≡ true) × AreFrames rules ds

-- Holds if the others say whole frames alone, as the device hears them, and the box isn't in the
-- middle of one at the end.
pub record AreWhole (rules : Rules) (own others : List Tick) : Type 0 where
  pub frames : AreFrames rules (bursts_from T1_5_TICKS 0 others)
  pub ended : EndsSilent T1_5_TICKS own

-- Holds if a device takes `gap` silent ticks for the end of what it has heard, whatever others say,
-- or hunts, and they say whole frames alone.
abbrev pub TellsApart : ℕ → List Tick → List Tick → StatedDevice → Type 0
TellsApart gap own others rtu = T3_5_TICKS ≤ gap
TellsApart gap own others dnp = AreWhole dnp_rules own others
TellsApart gap own others (rtu_member cut inside) = cut ≤ gap
TellsApart gap own others (dnp_member cut) =
    ((2 ≤ cut) × (cut ≤ gap)) ⊎ AreWhole dnp_rules own others

-- Holds if a device that hears this line beside the box, on which others say those ticks, reads what
-- it would read of the box alone and what it would read of the others alone, and nothing else. Of
-- the box it reads only frames that were sealed, in their order, unless one that passed is forged.
pub record ReadsAmong (device : StatedDevice) (end : EndSetup) (w : EndWires)
    (heard others : List Tick) (seal_floor : ℕ) (line : List Tick) : Type 0 where
  pub said : ReadsSealed (stated_rules device) (stated_reads device) end.incoming seal_floor
      end.got_floor line (heard_link w) w.to_device
  pub among : IsInterleaved (stated_reads device heard) (stated_reads device w.to_device)
      (stated_reads device others)
