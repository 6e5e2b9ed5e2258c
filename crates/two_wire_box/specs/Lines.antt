-- What a two-wire box makes of all that was on its wires, tick by tick.
use Rattle.std.specs.Prelude.{◌≡◌, List, [], ◌∷◌, map}
use Rattle.yasir_ticks.specs.declared.tick.Tick.{Tick}
use Rattle.yasir_io.specs.declared.disk.SlotDisk.{Ghosts as SlotDisk}
use Rattle.link_format.specs.Setup.{Setup}
use Rattle.link_box.specs.declared.box_trait.LinkBox.{Ghosts as LinkBox}
use Rattle.link_box.specs.Walking.{other_line}
use Rattle.duplex_box.specs.Pairs.{BothWays, PairGoesOn}
use Rattle.duplex_box.specs.declared.pair.PairStep.{PairStep}
use Rattle.two_wire.specs.Gate.{GateState, lets, let_through, gate_after}
use Rattle.two_wire.specs.TwoWire.{EndWires, DrivesWires}
use Rattle.two_wire.specs.Wires.{heard}
use Rattle.two_wire.specs.declared.gate.Side.{Side}
use Rattle.two_wire.specs.declared.gate.Waits.{Waits}

-- a step, with what was on both pairs of wires, and the ticks with which the box drove them
pub record WireStep (A B : Type 0) : Type 0 where
  pub device_wires : Tick
  pub link_wires : Tick
  pub to_device : Tick
  pub to_link : Tick
  pub step : PairStep A B

-- a box with its journals and disks, what its gate knows, and the ticks that leave next
pub record EndState (S C X Y : Type 0) : Type 0 where
  pub ways : BothWays S C X Y
  pub gate : GateState
  pub for_device : Tick
  pub for_link : Tick

module _ {S C A B X Y : Type 0} (sends : LinkBox S A) (gets : LinkBox C B) (d : SlotDisk X)
    (e : SlotDisk Y) (side : Side) (waits : Waits) where
  -- Holds if this step, which didn't fail, leads from `old` to `new`.
  pub record TakesStep (old : EndState S C X Y) (taken : WireStep A B) (new : EndState S C X Y) :
      Type 0 where
    pub device_is : taken.to_device ≡ let_through old.for_device (lets side waits old.gate)
    pub link_is : taken.to_link ≡ old.for_link
    pub goes_on : PairGoesOn sends gets d e (heard taken.to_device taken.device_wires)
        (heard taken.to_link taken.link_wires) old.ways new.ways taken.step
    pub gate_is : new.gate ≡ gate_after side waits old.gate old.for_device
        (heard taken.to_device taken.device_wires)
    pub made : new.for_device ≡ taken.step.device
    pub sent : new.for_link ≡ taken.step.link

  -- Holds if these steps, one after the other, lead from `old` to `new`.
  abbrev pub TakesSteps : EndState S C X Y → List (WireStep A B) → EndState S C X Y → Type 0
  TakesSteps old [] new = old ≡ new
  TakesSteps old (taken ∷ rest) new = (next : EndState S C X Y)
      × TakesStep old taken next × TakesSteps next rest new

-- what was on both pairs of wires in these steps, and with which ticks the box drove them
abbrev pub wires_in : {A B : Type 0} → List (WireStep A B) → EndWires
wires_in steps = record {
  device_wires = map (λ s. s.device_wires) steps;
  link_wires = map (λ s. s.link_wires) steps;
  to_device = map (λ s. s.to_device) steps;
  to_link = map (λ s. s.to_link) steps;
}

-- Holds if a box with these two boxes inside drives the wires so: what these make of what is heard
-- leaves one tick later, what is for the device through the gate, which hears it at once.
abbrev pub MakesWires : {S C A B : Type 0} → LinkBox S A → LinkBox C B → Side → Waits → Setup → Setup
    → List (WireStep A B) → Type 0
MakesWires sends gets side waits sent_setup got_setup steps =
    DrivesWires (other_line sends.walking sent_setup) (other_line gets.walking got_setup) 1 0 side
    waits (wires_in steps)
