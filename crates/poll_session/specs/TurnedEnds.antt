-- A two-wire box and the people beside it, who keep the turns.
use Rattle.std.specs.Prelude.{◌≡◌, ◌≤◌, ℕ, List, [], ◌∷◌, ◌++◌, length, replicate}
use Rattle.yasir_ticks.specs.declared.tick.Tick.{Tick}
use Rattle.yasir_ticks.specs.declared.tick.Tick.TheVariants.{Silent}
use Rattle.link_format.specs.Setup.{Setup, setup_of}
use Rattle.link_format.specs.Directions.{opposite_of}
use Rattle.link_format.specs.declared.dir.Dir.{Dir}
use Rattle.link_box.specs.declared.box_trait.LinkBox.{Ghosts as LinkBox}
use Rattle.two_wire.specs.Turns.{after_own, quiet_of, OthersInTurn, DeafInTurn, AreWithin}
use Rattle.two_wire.specs.TwoWire.{EndWires}
use Rattle.two_wire.specs.Wires.{drives}
use Rattle.two_wire.specs.declared.gate.Side.{Side}
use Rattle.two_wire.specs.declared.gate.Spoken.{Spoken}
use Rattle.two_wire.specs.declared.gate.Spoken.TheVariants.{Nobody}
use Rattle.two_wire.specs.declared.gate.Waits.{Waits}
use Rattle.two_wire_box.specs.Lines.{WireStep, wires_in}
use Rattle.two_wire_box.specs.Steady.{MayGoOn, HasDriven, steady_ticks}
use Rattle.poll_session.specs.declared.turned_end.EndTick.{EndTick}
use Rattle.poll_session.specs.declared.turned_end.TurnedEnd.{TurnedEnd}

-- the setup of a box of this direction: a key of sixteen bytes 0, and a new journal
abbrev pub poll_setup : Dir → Setup
poll_setup dir = setup_of (replicate 16 0) dir 0

-- who spoke last after these ticks of a side and of the others
abbrev pub spoken_behind : Side → Spoken → List Tick → List Tick → Spoken
spoken_behind side spoken [] others = spoken
spoken_behind side spoken (own ∷ owns) [] = spoken
spoken_behind side spoken (own ∷ owns) (other ∷ others) =
    spoken_behind side (after_own side spoken own other) owns others

-- the wires after one more tick
abbrev pub wires_and : EndWires → EndTick → EndWires
wires_and w t = record {
  device_wires = w.device_wires ++ t.device_wires ∷ [];
  link_wires = w.link_wires ++ t.link_wires ∷ [];
  to_device = w.to_device ++ t.to_device ∷ [];
  to_link = w.to_link ++ t.to_link ∷ [];
}

-- Holds if, besides a box that speaks for this side, others are on the wires to the device who keep
-- the turns from the first tick on, before which nobody has spoken, and one of them is deaf in
-- these ticks: in each in which they talk, and otherwise only when it may be.
pub record AreBeside (side : Side) (waits : Waits) (w : EndWires) (others deaf : List Tick) :
    Type 0 where
  pub same_ticks : length others ≡ length w.to_device
  pub deaf_ticks : length deaf ≡ length w.to_device
  pub wires_are : w.device_wires ≡ drives w.to_device others
  pub while_they_talk : AreWithin others deaf
  pub in_turn : OthersInTurn side waits (Nobody 0) w.to_device others
  pub deaf_in_turn : DeafInTurn side waits 0 (Nobody 0) w.to_device others deaf

module _ {S C A B : Type 0} (sends : LinkBox S A) (gets : LinkBox C B) where
  -- Holds if the end may take more ticks.
  pub record MayTurn (value : TurnedEnd S C) : Type 0 where
    pub able : MayGoOn sends gets value.wires
    pub counted : quiet_of value.turn ≤ steady_ticks value.wires
    pub pauses : value.waits.pause ≤ value.waits.window

  -- Holds if the box has driven its wires so, and the others have kept the turns so.
  pub record EndHasTurned (dir : Dir) (value : TurnedEnd S C) (w : EndWires)
      (others deaf : List Tick) : Type 0 where
    pub steps : List (WireStep A B)
    pub driven : HasDriven sends gets value.side value.waits (poll_setup dir)
        (poll_setup (opposite_of dir)) value.wires steps
    pub wires_are : wires_in steps ≡ w
    pub long : length w.to_device ≡ steady_ticks value.wires
    pub beside : AreBeside value.side value.waits w others deaf
    pub turn_is : value.turn ≡ spoken_behind value.side (Nobody 0) w.to_device others
